-- At each turn, n of the numbers passed are the given one.
use Rattle.std.proofs.Common.{arith, eq-eqb}
use borrow.Author.Tests.{ne_eqb}
use Rattle.console.proofs.Counting.{passed_none, passed_one, passed_not, passed_all}
use Rattle.console.proofs.count.Goals as goal
use Rattle.console.proofs.count.Goals.{then-x-tmgi, else-x-tmgi}

pub loop-x-init : goal.loop-x-init
loop-x-init c = passed_none

pub loop-x-preserved : goal.loop-x-preserved
loop-x-preserved c =
    elim c.if-x-tmgi.branch [ then-x-tmgi w ↦ rw w.n-is (passed_one c.loop-x.invariant 0 (omega arith) (eq-eqb _ _ w.if-x-tmgi.true)) | else-x-tmgi w ↦ rw w.n-is (passed_not c.loop-x.invariant 0 (omega arith) (ne_eqb _ _ w.if-x-tmgi.false)) ]

pub returns : goal.returns
returns c = passed_all c.loop-x.invariant (omega arith)
