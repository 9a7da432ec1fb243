-- For each public function: any two results that its statement allows are equal, with what is left behind each `&mut`.
-- Assumes nothing.
use mathlib.Core.Path.{refl}
use Rattle.lists.proofs.Unique.{Determined, ◌same◌, ◌&◌}
use Rattle.octets.proofs.cut_short.Kinds as cut_short'
use Rattle.octets.proofs.cut_short.Reads as cut_short
use Rattle.octets.proofs.no_meaning.Kinds as no_meaning'
use Rattle.octets.proofs.no_meaning.Reads as no_meaning
use Rattle.octets.proofs.flag_at.Kinds as flag_at'
use Rattle.octets.proofs.flag_at.Reads as flag_at
use Rattle.octets.proofs.plain_at.Kinds as plain_at'
use Rattle.octets.proofs.plain_at.Reads as plain_at
use Rattle.octets.proofs.choice_at.Kinds as choice_at'
use Rattle.octets.proofs.choice_at.Reads as choice_at
use Rattle.octets.proofs.pad_at.Kinds as pad_at'
use Rattle.octets.proofs.pad_at.Reads as pad_at
use Rattle.octets.proofs.array_at.Kinds as array_at'
use Rattle.octets.proofs.array_at.Reads as array_at
use Rattle.octets.proofs.octet_at.Kinds as octet_at'
use Rattle.octets.proofs.octet_at.Reads as octet_at
use Rattle.octets.proofs.two_at.Kinds as two_at'
use Rattle.octets.proofs.two_at.Reads as two_at
use Rattle.octets.proofs.same_at.Kinds as same_at'
use Rattle.octets.proofs.same_at.Reads as same_at
use Rattle.octets.proofs.below_at.Kinds as below_at'
use Rattle.octets.proofs.below_at.Reads as below_at
use Rattle.octets.proofs.length_at.Kinds as length_at'
use Rattle.octets.proofs.length_at.Reads as length_at
use Rattle.octets.proofs.open_at.Kinds as open_at'
use Rattle.octets.proofs.open_at.Reads as open_at
use Rattle.octets.proofs.ends_at.Kinds as ends_at'
use Rattle.octets.proofs.ends_at.Reads as ends_at
use Rattle.octets.proofs.octet_in.Kinds as octet_in'
use Rattle.octets.proofs.octet_in.Reads as octet_in
use Rattle.octets.proofs.put.Kinds as put'
use Rattle.octets.proofs.put.Reads as put
use Rattle.octets.proofs.put_octet.Kinds as put_octet'
use Rattle.octets.proofs.put_octet.Reads as put_octet
use Rattle.octets.proofs.put_two.Kinds as put_two'
use Rattle.octets.proofs.put_two.Reads as put_two
use Rattle.octets.proofs.put_length.Kinds as put_length'
use Rattle.octets.proofs.put_length.Reads as put_length
use Rattle.octets.proofs.put_octets.Kinds as put_octets'
use Rattle.octets.proofs.put_octets.Reads as put_octets
use Rattle.octets.proofs.put_part.Kinds as put_part'
use Rattle.octets.proofs.put_part.Reads as put_part
use Rattle.octets.proofs.put_three.Kinds as put_three'
use Rattle.octets.proofs.put_three.Reads as put_three
use Rattle.octets.proofs.put_zeros.Kinds as put_zeros'
use Rattle.octets.proofs.put_zeros.Reads as put_zeros

pub cut_short_is : Determined cut_short'.ps cut_short'.r cut_short.Asked cut_short.Learnt
cut_short_is κs a p x y e f = (e same f) & refl

pub no_meaning_is : Determined no_meaning'.ps no_meaning'.r no_meaning.Asked no_meaning.Learnt
no_meaning_is κs a p x y e f = (e same f) & refl

pub flag_at_is : Determined flag_at'.ps flag_at'.r flag_at.Asked flag_at.Learnt
flag_at_is κs a p x y e f = (e same f) & refl

pub plain_at_is : Determined plain_at'.ps plain_at'.r plain_at.Asked plain_at.Learnt
plain_at_is κs a p x y e f = (e same f) & refl

pub choice_at_is : Determined choice_at'.ps choice_at'.r choice_at.Asked choice_at.Learnt
choice_at_is κs a p x y e f = (e same f) & refl

pub pad_at_is : Determined pad_at'.ps pad_at'.r pad_at.Asked pad_at.Learnt
pad_at_is κs a p x y e f = (e same f) & refl

pub array_at_is : (N : _) (h : _) → Determined (array_at'.ps N h) (array_at'.r N h) (array_at.Asked N h) (array_at.Learnt N h)
array_at_is N h κs a p x y e f = (e same f) & refl

pub octet_at_is : Determined octet_at'.ps octet_at'.r octet_at.Asked octet_at.Learnt
octet_at_is κs a p x y e f = (e same f) & refl

pub two_at_is : Determined two_at'.ps two_at'.r two_at.Asked two_at.Learnt
two_at_is κs a p x y e f = (e same f) & refl

pub same_at_is : Determined same_at'.ps same_at'.r same_at.Asked same_at.Learnt
same_at_is κs a p x y e f = (e same f) & refl

pub below_at_is : Determined below_at'.ps below_at'.r below_at.Asked below_at.Learnt
below_at_is κs a p x y e f = (e same f) & refl

pub length_at_is : Determined length_at'.ps length_at'.r length_at.Asked length_at.Learnt
length_at_is κs a p x y e f = (e same f) & refl

pub open_at_is : Determined open_at'.ps open_at'.r open_at.Asked open_at.Learnt
open_at_is κs a p x y e f = (e same f) & refl

pub ends_at_is : Determined ends_at'.ps ends_at'.r ends_at.Asked ends_at.Learnt
ends_at_is κs a p x y e f = (e same f) & refl

pub octet_in_is : Determined octet_in'.ps octet_in'.r octet_in.Asked octet_in.Learnt
octet_in_is κs a p x y e f = (e same f) & refl

pub put_is : (T : _) (l : _) (k : _) (i : _) (d : _) → Determined (put'.ps T l k) (put'.r T l k) (put.Asked T l k i d) (put.Learnt T l k i d)
put_is T l k i d κs a p x y e f = (e.next same f.next) & (e.octets same f.octets) & refl

pub put_octet_is : Determined put_octet'.ps put_octet'.r put_octet.Asked put_octet.Learnt
put_octet_is κs a p x y e f = (e.next same f.next) & (e.octets same f.octets) & refl

pub put_two_is : Determined put_two'.ps put_two'.r put_two.Asked put_two.Learnt
put_two_is κs a p x y e f = (e.next same f.next) & (e.octets same f.octets) & refl

pub put_length_is : Determined put_length'.ps put_length'.r put_length.Asked put_length.Learnt
put_length_is κs a p x y e f = (e.next same f.next) & (e.octets same f.octets) & refl

pub put_octets_is : Determined put_octets'.ps put_octets'.r put_octets.Asked put_octets.Learnt
put_octets_is κs a p x y e f = (e.next same f.next) & (e.octets same f.octets) & refl

pub put_part_is : Determined put_part'.ps put_part'.r put_part.Asked put_part.Learnt
put_part_is κs a p x y e f = (e.next same f.next) & (e.octets same f.octets) & refl

pub put_three_is : Determined put_three'.ps put_three'.r put_three.Asked put_three.Learnt
put_three_is κs a p x y e f = (e.next same f.next) & (e.octets same f.octets) & refl

pub put_zeros_is : Determined put_zeros'.ps put_zeros'.r put_zeros.Asked put_zeros.Learnt
put_zeros_is κs a p x y e f = (e.next same f.next) & (e.octets same f.octets) & refl
