use Rattle.lent.proofs.ByRows.{GoodTo}
use Rattle.lent.proofs.sessions_good.Given as goal

abbrev pub invariant-loop-i : goal.invariant-loop-i
invariant-loop-i l = GoodTo l.s l.n l.i
