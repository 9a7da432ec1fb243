-- For each public function: any two results that its statement allows are equal.
use mathlib.Core.Path.{refl}
use Rattle.lists.proofs.Unique.{Determined, ◌&◌, ◌same◌}
use Rattle.identity.proofs.MmeIdIdentity.numbered.Kinds as mme_numbered'
use Rattle.identity.proofs.MmeIdIdentity.numbered.Reads as mme_numbered
use Rattle.identity.proofs.MmeIdIdentity.number.Kinds as mme_number'
use Rattle.identity.proofs.MmeIdIdentity.number.Reads as mme_number
use Rattle.identity.proofs.MceIdIdentity.numbered.Kinds as mce_numbered'
use Rattle.identity.proofs.MceIdIdentity.numbered.Reads as mce_numbered
use Rattle.identity.proofs.MceIdIdentity.number.Kinds as mce_number'
use Rattle.identity.proofs.MceIdIdentity.number.Reads as mce_number

pub mme_numbered_is : Determined mme_numbered'.ps mme_numbered'.r mme_numbered.Asked mme_numbered.Learnt
mme_numbered_is κs a p x y e f = (e same f) & refl

pub mme_number_is : Determined mme_number'.ps mme_number'.r mme_number.Asked mme_number.Learnt
mme_number_is κs a p x y e f = (e same f) & refl

pub mce_numbered_is : Determined mce_numbered'.ps mce_numbered'.r mce_numbered.Asked mce_numbered.Learnt
mce_numbered_is κs a p x y e f = (e same f) & refl

pub mce_number_is : Determined mce_number'.ps mce_number'.r mce_number.Asked mce_number.Learnt
mce_number_is κs a p x y e f = (e same f) & refl
