use Rattle.std.proofs.Common.{◌≡◌, refl, arith, rules}
use Rattle.std.specs.Prelude.{Err}
use Rattle.octets.proofs.Chain.{past, halt}
use Rattle.verdicts.specs.Verdict.{opened_at}
use Rattle.judging.proofs.OpenedLaws.{count_in, judges_as, judges_stop}
use Rattle.judging.proofs.judged_at.Goals as goal

pub returns-in_err-v : goal.returns-in_err-v
unfolding opened_at
returns-in_err-v c =
    let e : c.from_residual.result ≡ Err c.in_err-v.field-0.0 = search rules in
    rw e (judges_stop (halt _ c.in_err-v.ensures))

pub overflow_add-from : goal.overflow_add-from
overflow_add-from c = let a = c.args in omega (arith, count_in a.c a.s.now a.from c.in_ok-v.ensures)

pub returns : goal.returns
unfolding opened_at
returns c =
    let e : c.from.result ≡ c.in_ok-v.v.elements = search rules in
    judges_as (past _ _ c.in_ok-v.ensures refl) (rw e at c.opening_at.ensures)
