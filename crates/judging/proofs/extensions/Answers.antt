use Rattle.std.proofs.Common.{◌≡◌, ◌+◌, ◌-◌, arith, rules}
use native.Mathlib.Nat.{sub-zero}
use Rattle.std.specs.Prelude.{Err}
use Rattle.judging.proofs.BehindLaws.{passing_start, passing_cut, passing_more, passing_left, passing_all}
use Rattle.judging.proofs.extensions.Goals as goal

pub loop-init : goal.loop-init
loop-init c = rw sub-zero (passing_start _ _ _ _)

pub returns-in_err-h : goal.returns-in_err-h
returns-in_err-h c =
    let e : c.from_residual.result ≡ Err c.in_err-h.field-0.0 = search rules in
    rw e (passing_cut c.loop.invariant (λ e. omega arith) c.in_err-h.ensures)

pub loop-preserved : goal.loop-preserved
loop-preserved c =
    let k : c.args.n - (c.loop.counter + 1) ≡ c.args.n - c.loop.counter - 1 = omega arith in
    rw (k, c.tally_with-tally.ensures) (passing_more c.loop.invariant (λ e. omega arith) c.in_ok-h.h c.in_ok-h.ensures)

pub returns-in_err-ends_at : goal.returns-in_err-ends_at
returns-in_err-ends_at c =
    let e : c.from_residual-in_err-ends_at.result ≡ Err c.in_err-ends_at.field-0.0 = search rules in
    rw e (passing_left c.loop.invariant (omega arith) c.in_err-ends_at.ensures)

pub returns : goal.returns
returns c = passing_all c.loop.invariant (omega arith) c.in_ok-ends_at.ensures
