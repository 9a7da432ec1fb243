-- For each public function: any two results that its statement allows are equal.
-- Assumes nothing.
use mathlib.Core.Path.{refl}
use Rattle.lists.proofs.Unique.{Determined, ◌same◌, ◌&◌}
use Rattle.values.proofs.identity_at.Kinds as identity_at'
use Rattle.values.proofs.identity_at.Reads as identity_at
use Rattle.values.proofs.one_at.Kinds as one_at'
use Rattle.values.proofs.one_at.Reads as one_at
use Rattle.values.proofs.two_at.Kinds as two_at'
use Rattle.values.proofs.two_at.Reads as two_at
use Rattle.values.proofs.tmgi_at.Kinds as tmgi_at'
use Rattle.values.proofs.tmgi_at.Reads as tmgi_at
use Rattle.values.proofs.cause_at.Kinds as cause_at'
use Rattle.values.proofs.cause_at.Reads as cause_at
use Rattle.values.proofs.root_of.Kinds as root_of'
use Rattle.values.proofs.root_of.Reads as root_of
use Rattle.values.proofs.width_of.Kinds as width_of'
use Rattle.values.proofs.width_of.Reads as width_of_lem
use Rattle.values.proofs.wait_at.Kinds as wait_at'
use Rattle.values.proofs.wait_at.Reads as wait_at
use Rattle.values.proofs.seconds_of.Kinds as seconds_of'
use Rattle.values.proofs.seconds_of.Reads as seconds_of

pub root_of_is : Determined root_of'.ps root_of'.r root_of.Asked root_of.Learnt
root_of_is κs a p x y e f = (e same f) & refl

pub width_of_is : Determined width_of'.ps width_of'.r width_of_lem.Asked width_of_lem.Learnt
width_of_is κs a p x y e f = (e same f) & refl

pub identity_at_is : (I : _) (l : _) (k : _) (i : _) (d : _) (j : _) (b : _) → Determined (identity_at'.ps I l k) (identity_at'.r I l k) (identity_at.Asked I l k i d j b) (identity_at.Learnt I l k i d j b)
identity_at_is I l k i d j b κs a p x y e f = (e same f) & refl

pub one_at_is : Determined one_at'.ps one_at'.r one_at.Asked one_at.Learnt
one_at_is κs a p x y e f = (e same f) & refl

pub two_at_is : Determined two_at'.ps two_at'.r two_at.Asked two_at.Learnt
two_at_is κs a p x y e f = (e same f) & refl

pub tmgi_at_is : Determined tmgi_at'.ps tmgi_at'.r tmgi_at.Asked tmgi_at.Learnt
tmgi_at_is κs a p x y e f = (e same f) & refl

pub cause_at_is : Determined cause_at'.ps cause_at'.r cause_at.Asked cause_at.Learnt
cause_at_is κs a p x y e f = (e same f) & refl

pub wait_at_is : Determined wait_at'.ps wait_at'.r wait_at.Asked wait_at.Learnt
wait_at_is κs a p x y e f = (e same f) & refl

pub seconds_of_is : Determined seconds_of'.ps seconds_of'.r seconds_of.Asked seconds_of.Learnt
seconds_of_is κs a p x y e f = (e same f) & refl
