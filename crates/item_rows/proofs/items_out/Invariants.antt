use mathlib.Core.List.{List}
use Prim.Native.Nat.{◌+◌}
use Rattle.identity.specs.declared.Item.{Item}
use Rattle.item.specs.Item.{item_element_at}
use Rattle.octets.specs.Write.{Wrote}
use Rattle.octets.specs.Many.{each_octets}
use Rattle.item_words.proofs.Reading.{Reading}
use Rattle.item_rows.proofs.Out.{word_row}
use Rattle.item_rows.proofs.items_out.Given as goal

abbrev pub invariant-loop-i : goal.invariant-loop-i
invariant-loop-i l = (is : List Item) × Reading (item_element_at l.s) l.n (l.from + 1) is l.i l.next × Wrote l.initial.room l.initial.to (each_octets word_row is) l.room l.to
