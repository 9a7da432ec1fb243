use mathlib.Core.List.{List}
use Rattle.entries.specs.Entries.{entry_at}
use Rattle.entries.specs.declared.Entry.{Entry}
use Rattle.entry_words.proofs.Reading.{Reading}
use Rattle.layout.specs.Rows.{entry_row}
use Rattle.octets.specs.Many.{each_octets}
use Rattle.octets.specs.Write.{Wrote}
use Rattle.entry_rows.proofs.put_rows.Given as goal

abbrev pub invariant-loop-i : goal.invariant-loop-i
invariant-loop-i l = (es : List Entry) × Reading (entry_at l.s l.from) l.n l.from es l.i l.next × Wrote l.initial.room l.at (each_octets entry_row es) l.room l.to
