use Prim.Native.Nat.{ℕ}
use lib.Dec.{eqb}
use Rattle.console.proofs.Counting.{Passed}
use Rattle.console.proofs.count.Given as goal

abbrev pub invariant-loop-x : goal.invariant-loop-x
invariant-loop-x l = Passed (λ (x : ℕ). eqb x l.tmgi) l.tmgis l.n l.x-index
