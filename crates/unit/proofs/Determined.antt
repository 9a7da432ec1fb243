-- For each public function: any two results that its statement allows are equal, with all that is left in the table and the room.
-- Assumes nothing.
use mathlib.Core.Path.{refl}
use Rattle.lists.proofs.Unique.{Determined, ◌same◌, ◌&◌}
use Rattle.unit.proofs.call.Kinds as call'
use Rattle.unit.proofs.call.Reads as call

pub call_is : Determined call'.ps call'.r call.Asked call.Learnt
call_is κs a p x y e f =
    (λ i. record { answer = (e.answer same f.answer) i; octets = (e.octets same f.octets) i })
    & refl & (e.unit same f.unit) & refl & refl & (e.room same f.room) & refl
