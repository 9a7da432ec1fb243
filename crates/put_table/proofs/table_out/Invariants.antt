use Prim.Native.Nat.{◌+◌, ◌*◌}
use Rattle.put_table.proofs.Writing.{WrittenTo}
use Rattle.put_table.proofs.table_out.Given as goal

abbrev pub invariant-loop-i : goal.invariant-loop-i
invariant-loop-i l = WrittenTo l.t.rows l.initial.i l.initial.d l.d l.n l.i (2 + 12 * l.i)
