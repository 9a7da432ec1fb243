use Rattle.lent.proofs.Zeros.{Zeroed}
use Rattle.lent.proofs.all_zero.Given as goal

abbrev pub invariant-loop-x : goal.invariant-loop-x
invariant-loop-x l = Zeroed l.s 0 l.all l.x-index
