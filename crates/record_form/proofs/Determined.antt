-- For each public function: any two results that its statement allows are equal.
-- Assumes nothing.
use mathlib.Core.Path.{refl}
use Rattle.lists.proofs.Unique.{Determined, ◌same◌, ◌&◌}
use Rattle.record_form.proofs.is_formed.Kinds as is_formed'
use Rattle.record_form.proofs.is_formed.Reads as is_formed
use Rattle.record_form.proofs.name_refused.Kinds as name_refused'
use Rattle.record_form.proofs.name_refused.Reads as name_refused

pub is_formed_is : Determined is_formed'.ps is_formed'.r is_formed.Asked is_formed.Learnt
is_formed_is κs a p x y e f = (e same f) & refl

pub name_refused_is : Determined name_refused'.ps name_refused'.r name_refused.Asked name_refused.Learnt
name_refused_is κs a p x y e f = (e same f) & refl
