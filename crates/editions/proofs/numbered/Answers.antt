-- what is left to search gives what all messages give
use Rattle.std.proofs.Common.{◌∙◌, sym}
use borrow.Author.Tests.{eq-eqb, ne_eqb}
use Rattle.editions.specs.Editions.{messages_of, numbered_by}
use Rattle.editions.proofs.Search.{left_found, left_more, left_none}
use Rattle.editions.proofs.numbered.Goals as goal

pub returns-then-n-number_of : goal.returns-then-n-number_of
unfolding numbered_by
returns-then-n-number_of c =
    let all = c.messages_of-m-items.ensures in
    rw all (left_found _ (messages_of c.args.e) c.loop-m.m-index c.loop-m.invariant (rw all at c.loop-m-test.true) (eq-eqb _ _ (c.if-n-number_of.true ∙ (rw all at c.number_of.ensures))))

pub loop-m-preserved : goal.loop-m-preserved
loop-m-preserved c =
    let all = c.messages_of-m-items.ensures in
    left_more _ (messages_of c.args.e) c.loop-m.m-index c.loop-m.invariant (rw all at c.loop-m-test.true) (ne_eqb _ _ (λ q. c.if-n-number_of.false (q ∙ sym (rw all at c.number_of.ensures))))

pub returns : goal.returns
unfolding numbered_by
returns c = let all = c.messages_of-m-items.ensures in left_none _ (messages_of c.args.e) c.loop-m.m-index c.loop-m.invariant (rw all at c.loop-m-test.false)
