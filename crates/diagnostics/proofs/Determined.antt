-- For each public function: any two results that its statement allows are equal.
-- Assumes nothing.
use mathlib.Core.Path.{refl}
use Rattle.lists.proofs.Unique.{Determined, ◌same◌, ◌&◌}
use Rattle.diagnostics.proofs.head_at.Kinds as head_at'
use Rattle.diagnostics.proofs.head_at.Reads as head_at

pub head_at_is : Determined head_at'.ps head_at'.r head_at.Asked head_at.Learnt
head_at_is κs a p x y e f = (e same f) & refl
