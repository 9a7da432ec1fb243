use Rattle.std.proofs.Common.{◌≡◌, refl, arith, rules}
use Rattle.std.specs.Prelude.{Err}
use Rattle.octets.proofs.Chain.{past, halt}
use Rattle.octets.proofs.Got.{below_got}
use Rattle.elements.specs.Judge.{extensions_at}
use Rattle.judging.proofs.BehindLaws.{follows_as, follows_stop, follows_none}
use Rattle.judging.proofs.behind_elements.Goals as goal

pub returns-in_err-ends_at : goal.returns-in_err-ends_at
unfolding extensions_at
returns-in_err-ends_at c =
    let e : c.from_residual.result ≡ Err c.in_err-ends_at.field-0.0 = search rules in
    rw (c.if-not-container.true, e) (follows_stop _ _ (halt _ c.in_err-ends_at.ensures))

pub returns-then-not-container : goal.returns-then-not-container
returns-then-not-container c = rw c.if-not-container.true (follows_none c.args.s.now c.args.at c.args.seen c.in_ok-ends_at.ensures)

pub returns-in_err-v : goal.returns-in_err-v
unfolding extensions_at
returns-in_err-v c =
    let e : c.from_residual-in_err-v.result ≡ Err c.in_err-v.field-0.0 = search rules in
    rw (c.if-not-container.false, e) (follows_stop _ _ (halt _ c.in_err-v.ensures))

pub overflow_add-at : goal.overflow_add-at
overflow_add-at c = let a = c.args in omega (arith, (below_got a.s.now a.at 65535 c.in_ok-v.ensures).0)

pub returns : goal.returns
unfolding extensions_at
returns c =
    let e : c.from.result ≡ c.in_ok-v.v = search rules in
    rw c.if-not-container.false (follows_as _ _ _ (past _ _ c.in_ok-v.ensures refl) (rw e at c.extensions.ensures))
