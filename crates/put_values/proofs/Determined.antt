-- For each public function: any two results that its statement allows are equal, with what is left behind each `&mut`.
-- Assumes nothing.
use mathlib.Core.Path.{refl}
use Rattle.lists.proofs.Unique.{Determined, ◌same◌, ◌&◌}
use Rattle.put_values.proofs.put_identity.Kinds as put_identity'
use Rattle.put_values.proofs.put_identity.Reads as put_identity
use Rattle.put_values.proofs.put_one.Kinds as put_one'
use Rattle.put_values.proofs.put_one.Reads as put_one
use Rattle.put_values.proofs.put_tmgi.Kinds as put_tmgi'
use Rattle.put_values.proofs.put_tmgi.Reads as put_tmgi
use Rattle.put_values.proofs.put_cause.Kinds as put_cause'
use Rattle.put_values.proofs.put_cause.Reads as put_cause
use Rattle.put_values.proofs.put_wait.Kinds as put_wait'
use Rattle.put_values.proofs.put_wait.Reads as put_wait

pub put_identity_is : (I : _) (l : _) (k : _) (i : _) (d : _) (j : _) (b : _) → Determined (put_identity'.ps I l k) (put_identity'.r I l k) (put_identity.Asked I l k i d j b) (put_identity.Learnt I l k i d j b)
put_identity_is I l k i d j b κs a p x y e f = (e.next same f.next) & (e.octets same f.octets) & refl

pub put_one_is : Determined put_one'.ps put_one'.r put_one.Asked put_one.Learnt
put_one_is κs a p x y e f = (e.next same f.next) & (e.octets same f.octets) & refl

pub put_tmgi_is : Determined put_tmgi'.ps put_tmgi'.r put_tmgi.Asked put_tmgi.Learnt
put_tmgi_is κs a p x y e f = (e.next same f.next) & (e.octets same f.octets) & refl

pub put_cause_is : Determined put_cause'.ps put_cause'.r put_cause.Asked put_cause.Learnt
put_cause_is κs a p x y e f = (e.next same f.next) & (e.octets same f.octets) & refl

pub put_wait_is : Determined put_wait'.ps put_wait'.r put_wait.Asked put_wait.Learnt
put_wait_is κs a p x y e f = (e.next same f.next) & (e.octets same f.octets) & refl
