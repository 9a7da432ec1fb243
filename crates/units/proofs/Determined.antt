-- For each public function: any two results that its statement allows are equal, with what is left behind each `&mut`.
use mathlib.Core.Path.{refl}
use Rattle.lists.proofs.Unique.{Determined, ◌&◌, ◌same◌}
use Rattle.units.proofs.look_up.Kinds as look_up'
use Rattle.units.proofs.look_up.Reads as look_up
use Rattle.units.proofs.is_open.Kinds as is_open'
use Rattle.units.proofs.is_open.Reads as is_open
use Rattle.units.proofs.put_open.Kinds as put_open'
use Rattle.units.proofs.put_open.Reads as put_open
use Rattle.units.proofs.rows_in.Kinds as rows_in'
use Rattle.units.proofs.rows_in.Reads as rows_in
use Rattle.units.proofs.table_out.Kinds as table_out'
use Rattle.units.proofs.table_out.Reads as table_out

pub look_up_is : Determined look_up'.ps look_up'.r look_up.Asked look_up.Learnt
look_up_is κs a p x y e f = (e same f) & refl

pub is_open_is : Determined is_open'.ps is_open'.r is_open.Asked is_open.Learnt
is_open_is κs a p x y e f = (e same f) & refl

pub put_open_is : Determined put_open'.ps put_open'.r put_open.Asked put_open.Learnt
put_open_is κs a p x y e f = refl & refl & (e same f) & refl

pub rows_in_is : Determined rows_in'.ps rows_in'.r rows_in.Asked rows_in.Learnt
rows_in_is κs a p x y e f = (e same f) & refl

pub table_out_is : Determined table_out'.ps table_out'.r table_out.Asked table_out.Learnt
table_out_is κs a p x y e f = refl & refl & refl & (e same f) & refl
