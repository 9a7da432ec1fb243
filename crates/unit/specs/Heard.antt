-- Scaffolding: no demand speaks of it. What a message that was read says besides its request.
use Rattle.std.specs.Prelude.{List}
use Rattle.identity.specs.declared.Item.{Item}
use Rattle.entries.specs.declared.Entry.{Entry}
use Rattle.rows.specs.Table.{rows_in}
use Rattle.meaning.specs.Reading.{values_in}
use Rattle.layout.specs.Record.{lists_of}
use Rattle.verdicts.specs.Verdict.{opened_at}
use Rattle.judging.specs.Judging.{noted_of}
use Rattle.units.specs.Unit as units
use Rattle.carry.specs.declared.Decision.{Decision}
use Rattle.calls.specs.Decided.{Decided, applied}
use Rattle.unit.specs.declared.heard.Heard.{Heard}

-- the items that it announces
abbrev pub items_heard : Heard → List Item
items_heard h = (lists_of (values_in (rows_in h.rows) h.message.now h.places.now)).items

-- its diagnostics
abbrev pub noted_heard : Heard → List Entry
noted_heard h = noted_of (opened_at (rows_in h.rows) h.container h.message.now h.frame.from)

-- what becomes of a unit by a decision, with diagnostics
abbrev pub applied_with : Heard → List Entry → units.Unit → Decision → Decided
applied_with h noted u d = applied h.edition u h.frame (items_heard h) noted d

-- with those that are noted
abbrev pub applied_heard : Heard → units.Unit → Decision → Decided
applied_heard h u d = applied_with h (noted_heard h) u d
