-- For each public function: any two results that its statement allows are equal, with what is left behind each `&mut`.
use mathlib.Core.Path.{refl}
use Rattle.lists.proofs.Unique.{Determined, ◌&◌, ◌same◌}
use Rattle.lent.proofs.row_of.Kinds as row_of'
use Rattle.lent.proofs.row_of.Reads as row_of
use Rattle.lent.proofs.look_up.Kinds as look_up'
use Rattle.lent.proofs.look_up.Reads as look_up
use Rattle.lent.proofs.names_row.Kinds as names_row'
use Rattle.lent.proofs.names_row.Reads as names_row
use Rattle.lent.proofs.rows_in.Kinds as rows_in'
use Rattle.lent.proofs.rows_in.Reads as rows_in
use Rattle.lent.proofs.all_zero.Kinds as all_zero'
use Rattle.lent.proofs.all_zero.Reads as all_zero

pub row_of_is : Determined row_of'.ps row_of'.r row_of.Asked row_of.Learnt
row_of_is κs a p x y e f = (e same f) & refl

pub look_up_is : Determined look_up'.ps look_up'.r look_up.Asked look_up.Learnt
look_up_is κs a p x y e f = (e same f) & refl

pub names_row_is : Determined names_row'.ps names_row'.r names_row.Asked names_row.Learnt
names_row_is κs a p x y e f = (e same f) & refl

pub rows_in_is : Determined rows_in'.ps rows_in'.r rows_in.Asked rows_in.Learnt
rows_in_is κs a p x y e f = (e same f) & refl

pub all_zero_is : Determined all_zero'.ps all_zero'.r all_zero.Asked all_zero.Learnt
all_zero_is κs a p x y e f = (e same f) & refl
