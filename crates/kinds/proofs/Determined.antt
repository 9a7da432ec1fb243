-- For each public function: any two results that its statement allows are equal.
-- Assumes nothing.
use mathlib.Core.Path.{refl}
use Rattle.lists.proofs.Unique.{Determined, ◌same◌, ◌&◌}
use Rattle.kinds.proofs.value_at.Kinds as value_at'
use Rattle.kinds.proofs.value_at.Reads as value_at

pub value_at_is : Determined value_at'.ps value_at'.r value_at.Asked value_at.Learnt
value_at_is κs a p x y e f = (e same f) & refl
