-- For each public function: any two results that its statement allows are equal.
-- Assumes nothing.
use mathlib.Core.Path.{refl}
use Rattle.lists.proofs.Unique.{Determined, ◌same◌, ◌&◌}
use Rattle.rows.proofs.kind_of.Kinds as kind_of'
use Rattle.rows.proofs.kind_of.Reads as kind_of
use Rattle.rows.proofs.meanings.Kinds as meanings'
use Rattle.rows.proofs.meanings.Reads as meanings

pub kind_of_is : Determined kind_of'.ps kind_of'.r kind_of.Asked kind_of.Learnt
kind_of_is κs a p x y e f = (e same f) & refl

pub meanings_is : Determined meanings'.ps meanings'.r meanings.Asked meanings.Learnt
meanings_is κs a p x y e f = (e same f) & refl
