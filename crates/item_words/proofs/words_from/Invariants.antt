use mathlib.Core.List.{List, map}
use Rattle.identity.specs.declared.Item.{Item}
use Rattle.item.specs.Item.{item_element_at}
use Rattle.octets.specs.Write.{Wrote}
use Rattle.item_words.specs.Words.{word_of}
use Rattle.item_words.proofs.Reading.{Reading}
use Rattle.item_words.proofs.words_from.Given as goal

abbrev pub invariant-loop-i : goal.invariant-loop-i
invariant-loop-i l = (is : List Item) × Reading (item_element_at l.s) l.n l.from is l.i l.next × Wrote l.initial.words 0 (map word_of is) l.words l.to
