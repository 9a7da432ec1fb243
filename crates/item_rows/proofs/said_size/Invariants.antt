use Prim.Native.Nat.{◌+◌, ◌*◌, ◌≤◌}
use Rattle.put_values.proofs.Put.{Sized}
use Rattle.layout.specs.Record.{lists_in}
use Rattle.item_rows.proofs.said_size.Given as goal

abbrev pub invariant-loop-i : goal.invariant-loop-i
invariant-loop-i l = (l.size ≤ 1 + 9 * l.i) × Sized (lists_in l.s).items l.i l.size
