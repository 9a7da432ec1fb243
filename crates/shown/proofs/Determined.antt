-- For each public function: any two results that its statement allows are equal, or the octets of the part that is the result.
-- Assumes nothing.
use mathlib.Core.Path.{refl}
use Rattle.lists.proofs.Unique.{Determined, DeterminedAs, ◌same◌, ◌&◌}
use Rattle.shown.proofs.name_in.Kinds as name_in'
use Rattle.shown.proofs.name_in.Reads as name_in
use Rattle.shown.proofs.part_of.Kinds as part_of'
use Rattle.shown.proofs.part_of.Reads as part_of
use Rattle.shown.proofs.shown.Kinds as shown'
use Rattle.shown.proofs.shown.Reads as shown

pub name_in_is : Determined name_in'.ps name_in'.r name_in.Asked name_in.Learnt
name_in_is κs a p x y e f = (e same f) & refl

pub part_of_is : Determined part_of'.ps part_of'.r part_of.Asked part_of.Learnt
part_of_is κs a p x y e f = (e same f) & refl

pub shown_is : DeterminedAs shown'.ps shown'.r (λ κs r. r.now) shown.Asked shown.Learnt
shown_is κs a p x y e f = (e same f) & refl
