-- For each public function: any two results that its statement allows are equal, with what is left in the unit and the room.
-- Assumes nothing.
use mathlib.Core.Path.{refl}
use Rattle.lists.proofs.Unique.{Determined, ◌same◌, ◌&◌}
use Rattle.setup.proofs.number_of.Kinds as number_of'
use Rattle.setup.proofs.number_of.Reads as number_of_lem
use Rattle.setup.proofs.set_up.Kinds as set_up'
use Rattle.setup.proofs.set_up.Reads as set_up

pub number_of_is : Determined number_of'.ps number_of'.r number_of_lem.Asked number_of_lem.Learnt
number_of_is κs a p x y e f = (e same f) & refl

pub set_up_is : Determined set_up'.ps set_up'.r set_up.Asked set_up.Learnt
set_up_is κs a p x y e f = (λ i. record { answer = (e.answer same f.answer) i; octets = (e.octets same f.octets) i }) & refl & (e.unit same f.unit) & refl & refl & (e.room same f.room) & refl
