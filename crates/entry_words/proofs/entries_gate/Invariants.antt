use mathlib.Core.List.{List}
use Rattle.entries.specs.Entries.{entry_at}
use Rattle.entries.specs.declared.Entry.{Entry}
use Rattle.entry_words.proofs.Reading.{Reading}
use Rattle.entry_words.proofs.entries_gate.Given as goal

abbrev pub invariant-loop-i : goal.invariant-loop-i
invariant-loop-i l = (es : List Entry) × Reading (entry_at l.s l.from) l.n l.from es l.i l.at
