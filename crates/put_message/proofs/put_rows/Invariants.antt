use Prim.Native.Nat.{◌≤◌}
use lib.ListN.{length}
use Rattle.octets.specs.Write.{Wrote}
use Rattle.rows.specs.Table.{rows_in}
use Rattle.plan.specs.Plan.{elements_to}
use Rattle.put_message.specs.Said.{said_in}
use Rattle.put_message.proofs.put_rows.Given as goal

abbrev pub invariant-loop-i : goal.invariant-loop-i
invariant-loop-i l = (l.next ≤ length l.room) × Wrote l.initial.room l.at (elements_to (rows_in l.rows) (said_in l.values l.s (rows_in l.rows)) l.i) l.room l.next
