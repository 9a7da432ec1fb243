-- For each public function: any two results that its statement allows are equal, with what is left behind each `&mut`.
use mathlib.Core.Path.{refl}
use Rattle.lists.proofs.Unique.{Determined, ◌&◌, ◌same◌}
use Rattle.put_table.proofs.table_out.Kinds as table_out'
use Rattle.put_table.proofs.table_out.Reads as table_out

pub table_out_is : Determined table_out'.ps table_out'.r table_out.Asked table_out.Learnt
table_out_is κs a p x y e f = refl & refl & refl & (e same f) & refl
