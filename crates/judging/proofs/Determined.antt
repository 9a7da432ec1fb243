-- For each public function: any two results that its statement allows are equal.
-- Assumes nothing.
use mathlib.Core.Path.{refl}
use Rattle.lists.proofs.Unique.{Determined, ◌same◌, ◌&◌}
use Rattle.judging.proofs.opened_at.Kinds as opened_at'
use Rattle.judging.proofs.opened_at.Reads as opened_at
use Rattle.judging.proofs.is_known.Kinds as is_known'
use Rattle.judging.proofs.is_known.Reads as is_known
use Rattle.judging.proofs.noted_into.Kinds as noted_into'
use Rattle.judging.proofs.noted_into.Reads as noted_into

pub opened_at_is : Determined opened_at'.ps opened_at'.r opened_at.Asked opened_at.Learnt
opened_at_is κs a p x y e f = (e.result same f.result) & refl & refl & refl & refl & (e.places same f.places) & refl

pub is_known_is : Determined is_known'.ps is_known'.r is_known.Asked is_known.Learnt
is_known_is κs a p x y e f = (e same f) & refl

pub noted_into_is : Determined noted_into'.ps noted_into'.r noted_into.Asked noted_into.Learnt
noted_into_is κs a p x y e f = (e.count same f.count) & refl & refl & refl & refl & (e.words same f.words) & refl
