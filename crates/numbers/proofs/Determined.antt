-- For each public function: any two results that its statement allows are equal.
-- Assumes nothing.
use mathlib.Core.Path.{refl}
use Rattle.lists.proofs.Unique.{Determined, ◌same◌, ◌&◌}
use Rattle.numbers.proofs.less_one.Kinds as less_one'
use Rattle.numbers.proofs.less_one.Reads as less_one
use Rattle.numbers.proofs.count_octet.Kinds as count_octet'
use Rattle.numbers.proofs.count_octet.Reads as count_octet

pub less_one_is : Determined less_one'.ps less_one'.r less_one.Asked less_one.Learnt
less_one_is κs a p x y e f = (e same f) & refl

pub count_octet_is : Determined count_octet'.ps count_octet'.r count_octet.Asked count_octet.Learnt
count_octet_is κs a p x y e f = (e same f) & refl
