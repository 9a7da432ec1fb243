-- For each public function: any two results that its statement allows are equal, with what is left behind each `&mut`.
-- Assumes nothing.
use mathlib.Core.Path.{refl}
use Rattle.lists.proofs.Unique.{Determined, ◌same◌, ◌&◌}
use Rattle.names.proofs.name_at.Kinds as name_at'
use Rattle.names.proofs.name_at.Reads as name_at
use Rattle.names.proofs.is_name.Kinds as is_name'
use Rattle.names.proofs.is_name.Reads as is_name
use Rattle.names.proofs.put_name.Kinds as put_name'
use Rattle.names.proofs.put_name.Reads as put_name

pub name_at_is : Determined name_at'.ps name_at'.r name_at.Asked name_at.Learnt
name_at_is κs a p x y e f = (e same f) & refl

pub is_name_is : Determined is_name'.ps is_name'.r is_name.Asked is_name.Learnt
is_name_is κs a p x y e f = (e same f) & refl

pub put_name_is : Determined put_name'.ps put_name'.r put_name.Asked put_name.Learnt
put_name_is κs a p x y e f = (e.next same f.next) & (e.octets same f.octets) & refl
