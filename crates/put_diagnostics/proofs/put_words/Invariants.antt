use mathlib.Core.List.{map}
use Rattle.entry_words.specs.EntryWords.{entry_by}
use Rattle.put_diagnostics.proofs.Putting.{Listing}
use Rattle.put_diagnostics.proofs.put_words.Given as goal

abbrev pub invariant-loop-w : goal.invariant-loop-w
invariant-loop-w l = Listing (map entry_by l.words) l.initial.room l.initial.next l.room l.next l.begun.octet l.begun.bits l.w-index
