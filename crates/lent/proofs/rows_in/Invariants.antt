use lib.ListN.{drop}
use Rattle.lent.specs.Lent.{rows_of}
use Rattle.lent.proofs.ByRows.{InRows}
use Rattle.lent.proofs.rows_in.Given as goal

abbrev pub invariant-loop-i : goal.invariant-loop-i
invariant-loop-i l = InRows (rows_of l.n (drop 2 l.s)) l.n l.t.rows l.i
