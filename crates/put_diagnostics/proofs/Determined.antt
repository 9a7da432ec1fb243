-- For each public function: any two results that its statement allows are equal, with what is left behind the `&mut`.
-- Assumes nothing.
use mathlib.Core.Path.{refl}
use Rattle.lists.proofs.Unique.{Determined, ◌same◌, ◌&◌}
use Rattle.put_diagnostics.proofs.put_listed.Kinds as put_listed'
use Rattle.put_diagnostics.proofs.put_listed.Reads as put_listed
use Rattle.put_diagnostics.proofs.listed_size.Kinds as listed_size'
use Rattle.put_diagnostics.proofs.listed_size.Reads as listed_size

pub put_listed_is : Determined put_listed'.ps put_listed'.r put_listed.Asked put_listed.Learnt
put_listed_is κs a p x y e f = (e.next same f.next) & (e.octets same f.octets) & refl

pub listed_size_is : Determined listed_size'.ps listed_size'.r listed_size.Asked listed_size.Learnt
listed_size_is κs a p x y e f = (e same f) & refl
