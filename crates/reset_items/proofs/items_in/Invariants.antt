use Rattle.std.proofs.Common.{◌≡◌, length}
use Rattle.rows.specs.Table.{rows_in}
use Rattle.meaning.specs.Reading.{values_in}
use Rattle.layout.specs.Record.{lists_of}
use Rattle.reset_items.proofs.Laws.{items_from}
use Rattle.reset_items.proofs.items_in.Given as goal

-- no row passed has items, and the words are as they were
abbrev pub invariant-loop-r : goal.invariant-loop-r
invariant-loop-r l = (l.words ≡ l.initial.words) × ((lists_of (values_in (rows_in l.t) l.s l.places)).items ≡ items_from (rows_in l.t) l.s l.places (length l.yielded))
