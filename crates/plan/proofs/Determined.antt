-- For each public function: any two results that its statement allows are equal, with what is left in the room.
-- Assumes nothing.
use mathlib.Core.Path.{refl}
use Rattle.lists.proofs.Unique.{Determined, ◌same◌, ◌&◌}
use Rattle.plan.proofs.length_size.Kinds as length_size'
use Rattle.plan.proofs.length_size.Reads as length_size
use Rattle.plan.proofs.fit.Kinds as fit'
use Rattle.plan.proofs.fit.Reads as fit
use Rattle.plan.proofs.fits_a_list.Kinds as fits_a_list'
use Rattle.plan.proofs.fits_a_list.Reads as fits_a_list
use Rattle.plan.proofs.is_under.Kinds as is_under'
use Rattle.plan.proofs.is_under.Reads as is_under
use Rattle.plan.proofs.cause_size.Kinds as cause_size'
use Rattle.plan.proofs.cause_size.Reads as cause_size
use Rattle.plan.proofs.plan_of.Kinds as plan_of'
use Rattle.plan.proofs.plan_of.Reads as plan_of
use Rattle.plan.proofs.begin.Kinds as begin'
use Rattle.plan.proofs.begin.Reads as begin
use Rattle.plan.proofs.put_front.Kinds as put_front'
use Rattle.plan.proofs.put_front.Reads as put_front

pub length_size_is : Determined length_size'.ps length_size'.r length_size.Asked length_size.Learnt
length_size_is κs a p x y e f = (e same f) & refl

pub fit_is : Determined fit'.ps fit'.r fit.Asked fit.Learnt
fit_is κs a p x y e f = (e same f) & refl

pub fits_a_list_is : Determined fits_a_list'.ps fits_a_list'.r fits_a_list.Asked fits_a_list.Learnt
fits_a_list_is κs a p x y e f = (e same f) & refl

pub is_under_is : Determined is_under'.ps is_under'.r is_under.Asked is_under.Learnt
is_under_is κs a p x y e f = (e same f) & refl

pub cause_size_is : Determined cause_size'.ps cause_size'.r cause_size.Asked cause_size.Learnt
cause_size_is κs a p x y e f = (e same f) & refl

pub plan_of_is : Determined plan_of'.ps plan_of'.r plan_of.Asked plan_of.Learnt
plan_of_is κs a p x y e f = (e same f) & refl

pub begin_is : Determined begin'.ps begin'.r begin.Asked begin.Learnt
begin_is κs a p x y e f = (e.answer same f.answer) & (e.room same f.room) & refl

pub put_front_is : Determined put_front'.ps put_front'.r put_front.Asked put_front.Learnt
put_front_is κs a p x y e f = (e.next same f.next) & (e.octets same f.octets) & refl
