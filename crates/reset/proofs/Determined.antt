-- For each public function: any two results that its statement allows are equal.
use mathlib.Core.Path.{refl}
use Rattle.lists.proofs.Unique.{Determined, ◌&◌, ◌same◌}
use Rattle.reset.proofs.names_none.Kinds as names_none'
use Rattle.reset.proofs.names_none.Reads as names_none
use Rattle.reset.proofs.reset.Kinds as reset'
use Rattle.reset.proofs.reset.Reads as reset

pub names_none_is : Determined names_none'.ps names_none'.r names_none.Asked names_none.Learnt
names_none_is κs a p x y e f = (e same f) & refl

pub reset_is : Determined reset'.ps reset'.r reset.Asked reset.Learnt
reset_is κs a p x y e f = (e same f) & refl
