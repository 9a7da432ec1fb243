use mathlib.Core.List.{List, map}
use Rattle.entries.specs.declared.Entry.{Entry}
use Rattle.entry_rows.proofs.Saying.{Passed}
use Rattle.entry_words.specs.EntryWords.{entry_word}
use Rattle.layout.specs.Rows.{row_entry}
use Rattle.octets.specs.Write.{Wrote}
use Rattle.entry_rows.proofs.entries_said.Given as goal

abbrev pub invariant-loop-i : goal.invariant-loop-i
invariant-loop-i l = (es : List Entry) × Passed row_entry 4 l.n l.s 1638 es l.i × Wrote l.initial.words 0 (map entry_word es) l.words l.to
