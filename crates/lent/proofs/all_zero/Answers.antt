-- The octets passed, or'ed, are zero if each of them is.
use native.Mathlib.Omega.{arith}
use Rattle.lent.proofs.Zeros.{zeroed_none, zeroed_more, zeroed_all}
use Rattle.lent.proofs.all_zero.Goals as goal

pub loop-x-init : goal.loop-x-init
loop-x-init c = zeroed_none _ 0 (omega arith)

pub loop-x-preserved : goal.loop-x-preserved
loop-x-preserved c = zeroed_more c.loop-x.invariant c.loop-x-test.true

pub returns : goal.returns
returns c = zeroed_all c.loop-x.invariant c.loop-x-test.false
