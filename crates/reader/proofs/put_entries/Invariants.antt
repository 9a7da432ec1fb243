use Rattle.std.proofs.Common.{◌≡◌, length}
use Rattle.rows.specs.Table.{rows_in}
use Rattle.layout.specs.Record.{Lists}
use Rattle.reader.proofs.Walk.{Rest}
use Rattle.reader.proofs.put_entries.Given as goal

-- no row passed announces any, and the room is as it was
abbrev pub invariant-loop-r : goal.invariant-loop-r
invariant-loop-r l = (l.room ≡ l.initial.room) × Rest (λ (x : Lists). x.entries) (rows_in l.t) l.s l.places (length l.yielded)
