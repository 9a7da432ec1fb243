-- For each public function: any two results that its statement allows are equal, with all that is left in the table and the room.
-- Assumes nothing.
use mathlib.Core.Path.{refl}
use Rattle.lists.proofs.Unique.{Determined, ◌same◌, ◌&◌}
use Rattle.answers.proofs.number_of.Kinds as number_of'
use Rattle.answers.proofs.number_of.Reads as number_of_lem
use Rattle.answers.proofs.place_of.Kinds as place_of'
use Rattle.answers.proofs.place_of.Reads as place_of
use Rattle.answers.proofs.wait_of.Kinds as wait_of'
use Rattle.answers.proofs.wait_of.Reads as wait_of

pub number_of_is : Determined number_of'.ps number_of'.r number_of_lem.Asked number_of_lem.Learnt
number_of_is κs a p x y e f = (e same f) & refl

pub place_of_is : Determined place_of'.ps place_of'.r place_of.Asked place_of.Learnt
place_of_is κs a p x y e f = (e same f) & refl

pub wait_of_is : Determined wait_of'.ps wait_of'.r wait_of.Asked wait_of.Learnt
wait_of_is κs a p x y e f = (e same f) & refl
