-- For each public function: any two results that its statement allows are equal, with what is left behind each `&mut`.
-- Assumes nothing.
use mathlib.Core.Path.{refl}
use Rattle.lists.proofs.Unique.{Determined, ◌same◌, ◌&◌}
use Rattle.reset_items.proofs.items_in.Kinds as items_in'
use Rattle.reset_items.proofs.items_in.Reads as items_in

pub items_in_is : Determined items_in'.ps items_in'.r items_in.Asked items_in.Learnt
items_in_is κs a p x y e f = (e.0 same f.0) & refl & refl & refl & (e.1 same f.1) & refl
