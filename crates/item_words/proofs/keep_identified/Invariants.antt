use lib.ListN.{take}
use Rattle.octets.specs.Write.{Wrote}
use Rattle.item_words.specs.Words.{identified}
use Rattle.item_words.proofs.keep_identified.Given as goal

abbrev pub invariant-loop-i : goal.invariant-loop-i
invariant-loop-i l = Wrote l.initial.words 0 (identified (take l.i l.initial.words)) l.words l.kept
