-- Two values which differ have octets which differ.
-- Assumes nothing.
use Prim.Native.Nat.{ℕ, ◌<◌}
use mathlib.Core.Path.{refl}
use Rattle.std.specs.Prelude.{Ok}
use Rattle.octets.specs.Read.{◌>>=◌}
use Rattle.octets.proofs.Chain.{past}
use Rattle.octets.specs.Stands.{StaysDifferent}
use Rattle.octets.proofs.Different.{stays_different, ends_different}
use Rattle.item.specs.Item.{item_at, item_element_at}
use Rattle.items.specs.Items.{items_at, reset_at}
use Rattle.items.specs.Written.{item_octets, item_element_octets, items_octets, reset_octets, GoodItem, GoodItems, GoodReset}
use Rattle.items.proofs.Back.{item_back, item_element_back, items_back, reset_back}

pub item : StaysDifferent GoodItem item_octets
item = ends_different _ item_octets item_at item_back

pub elements : (crit : ℕ) → crit < 3 → StaysDifferent GoodItem (item_element_octets crit)
elements crit c = stays_different _ (item_element_octets crit) (λ s at. item_element_at s at >>= λ p. Ok p.value) (λ s at i g h. past _ _ (item_element_back crit c s at i g h) refl)

pub items : (crit : ℕ) → crit < 3 → StaysDifferent GoodItems (items_octets crit)
items crit c = ends_different _ (items_octets crit) items_at (items_back crit c)

pub resets : StaysDifferent GoodReset reset_octets
resets = ends_different _ reset_octets reset_at reset_back
