use lib.ListN.{drop}
use Rattle.table.specs.Table.{names}
use Rattle.lent.specs.Lent.{rows_of}
use Rattle.lent.proofs.ByRows.{NotTo}
use Rattle.lent.proofs.held_in.Given as goal

abbrev pub invariant-loop-i : goal.invariant-loop-i
invariant-loop-i l = NotTo (names l.item) (rows_of l.n (drop 2 l.s)) l.i
