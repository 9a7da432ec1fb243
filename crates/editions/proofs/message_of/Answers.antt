-- what is left to search gives what all messages give
use Rattle.std.proofs.Common.{◌∙◌}
use Rattle.editions.specs.Editions.{messages_of, named_by}
use Rattle.editions.proofs.Search.{framed_as, left_found, left_more, left_none}
use Rattle.editions.proofs.message_of.Goals as goal

pub returns-then-is_of : goal.returns-then-is_of
unfolding named_by
returns-then-is_of c =
    let all = c.messages_of-m-items.ensures in
    rw all (left_found _ (messages_of c.args.e) c.loop-m.m-index c.loop-m.invariant (rw all at c.loop-m-test.true) (framed_as _ _ _ _ (rw all at c.head_of.ensures) c.is_of.ensures ∙ c.if-is_of.true))

pub loop-m-preserved : goal.loop-m-preserved
loop-m-preserved c =
    let all = c.messages_of-m-items.ensures in
    left_more _ (messages_of c.args.e) c.loop-m.m-index c.loop-m.invariant (rw all at c.loop-m-test.true) (framed_as _ _ _ _ (rw all at c.head_of.ensures) c.is_of.ensures ∙ c.if-is_of.false)

pub returns : goal.returns
unfolding named_by
returns c = let all = c.messages_of-m-items.ensures in left_none _ (messages_of c.args.e) c.loop-m.m-index c.loop-m.invariant (rw all at c.loop-m-test.false)
