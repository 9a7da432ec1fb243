-- For each public function: any two results that its statement allows are equal.
-- Assumes nothing.
use mathlib.Core.Path.{refl}
use Rattle.lists.proofs.Unique.{Determined, ◌same◌, ◌&◌}
use Rattle.item.proofs.item_element_at.Kinds as item_element_at'
use Rattle.item.proofs.item_element_at.Reads as item_element_at

pub item_element_at_is : Determined item_element_at'.ps item_element_at'.r item_element_at.Asked item_element_at.Learnt
item_element_at_is κs a p x y e f = (e same f) & refl
