-- The items passed are chained.
use mathlib.Core.Path.{◌≡◌, refl, ap, sym, ◌∙◌}
use Prim.Native.Nat.{min}
use native.Mathlib.Omega.{arith}
use lib.ListN.{length}
use Rattle.lists.proofs.Chains.{chained_none, chained_more, chained_not}
use Rattle.reset.specs.Slots.{item_slot}
use Rattle.reset.proofs.chain.Goals as goal
use Rattle.reset.proofs.chain.Goals.{then-h-lt4096, else-h-lt4096}

pub loop-i-init : goal.loop-i-init
loop-i-init c = rw (c.requires.0, c.requires.1) (chained_none _ 4096 256)

pub loop-i-preserved : goal.loop-i-preserved
loop-i-preserved c =
    let e = sym (c.slot-h.ensures ∙ ap item_slot c.item_of.ensures) in
    elim c.if-h-lt4096.branch [
      | then-h-lt4096 w ↦ rw (w.head-is, w.next-is) (chained_more c.loop-i.invariant _ _ e w.if-h-lt4096.true (omega arith) refl)
      | else-h-lt4096 w ↦ rw (w.head-is, w.next-is) (chained_not c.loop-i.invariant (rw e w.if-h-lt4096.false))
    ]

pub returns : goal.returns
returns c = let q : min (length c.args.words.now) 256 ≡ c.loop-i.i = omega arith in record { chained = rw q c.loop-i.invariant }
