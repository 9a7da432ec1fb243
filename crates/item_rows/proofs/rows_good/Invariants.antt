use Rattle.item_rows.proofs.Judged.{GoodTo}
use Rattle.item_rows.proofs.rows_good.Given as goal

abbrev pub invariant-loop-i : goal.invariant-loop-i
invariant-loop-i l = GoodTo l.p l.n l.good l.i
