use Rattle.std.proofs.Common.{◌≡◌, ◌+◌, ◌*◌, length, take}
use Rattle.octets.specs.Many.{each_octets}
use Rattle.octets.specs.Write.{Wrote}
use Rattle.rows.specs.Table.{rows_in}
use Rattle.meaning.specs.Reading.{values_in}
use Rattle.layout.specs.Record.{slot_octets}
use Rattle.reader.proofs.put_slots.Given as goal

abbrev pub invariant-loop-r : goal.invariant-loop-r
invariant-loop-r l =
    (l.next ≡ l.at + 8 * length l.yielded) × Wrote l.initial.room l.at (each_octets slot_octets (take (length l.yielded) (values_in (rows_in l.t) l.s l.places))) l.room l.next
