use Prim.Native.Nat.{ℕ}
use lib.ListN.{take}
use Rattle.put_values.specs.Put.{crit_of}
use Rattle.items.specs.Written.{item_element_octets}
use Rattle.octets.specs.Write.{Wrote}
use Rattle.octets.specs.Many.{each_octets}
use Rattle.item_words.specs.Words.{item_of}
use Rattle.item_words.proofs.put_words.Given as goal

abbrev pub invariant-loop-w : goal.invariant-loop-w
invariant-loop-w l = Wrote l.initial.room l.initial.next (each_octets (λ (w : ℕ). item_element_octets (crit_of l.crit) (item_of w)) (take l.w-index l.words)) l.room l.next
