use Rattle.item_words.proofs.Reading.{Reading}
use Rattle.item.specs.Item.{item_element_at}
use Rattle.identity.specs.declared.Item.{Item}
use Prim.Native.Nat.{◌+◌}
use mathlib.Core.List.{List}
use Rattle.item_words.proofs.items_gate.Given as goal

abbrev pub invariant-loop-i : goal.invariant-loop-i
invariant-loop-i l = (is : List Item) × Reading (item_element_at l.s) l.count (l.at + 1) is l.i l.next
