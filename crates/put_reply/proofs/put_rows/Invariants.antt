use mathlib.Core.List.{map}
use Prim.Native.Nat.{◌≤◌}
use lib.ListN.{length}
use Rattle.octets.specs.Write.{Wrote}
use Rattle.rows.specs.Table.{rows_in}
use Rattle.item_words.specs.Words.{item_of}
use Rattle.entry_words.specs.EntryWords.{entry_by}
use Rattle.plan.specs.Plan.{elements_to}
use Rattle.put_reply.specs.Parts.{given_rows}
use Rattle.put_reply.proofs.put_rows.Given as goal

abbrev pub invariant-loop-i : goal.invariant-loop-i
invariant-loop-i l = (l.next ≤ length l.room) × Wrote l.initial.room l.at (elements_to (rows_in l.t) (given_rows (map item_of l.kept) (map entry_by l.noted) l.p (rows_in l.t)) l.i) l.room l.next
