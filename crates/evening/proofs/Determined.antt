-- For each public function: any two results that its statement allows are equal, with all that is left in the unit, the room and the turns.
use mathlib.Core.Path.{refl}
use Rattle.lists.proofs.Unique.{Determined, ◌same◌, ◌&◌}
use Rattle.evening.proofs.play.Kinds as play'
use Rattle.evening.proofs.play.Reads as play

pub play_is : Determined play'.ps play'.r play.Asked play.Learnt
play_is κs a p x y e f =
    (λ i. record { entries = (e.0.entries same f.0.entries) i; octets = (e.0.octets same f.0.octets) i })
    & refl & (e.0.unit same f.0.unit) & (e.0.room same f.0.room) & (e.0.turns same f.0.turns) & refl
