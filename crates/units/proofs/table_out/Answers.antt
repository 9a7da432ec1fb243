-- What is put in front leaves what stands behind; too few octets stay.
use mathlib.Core.Path.{sym}
use native.Mathlib.Omega.{arith}
use lib.Seq.{length-take-le}
use Rattle.table.specs.Table.{held}
use Rattle.put_table.specs.Out.{table_out}
use Rattle.units.proofs.Parts.{front_put}
use Rattle.units.proofs.table_out.Goals as goal

pub slice_bounds-table_out-end-2 : goal.slice_bounds-table_out-end-2
slice_bounds-table_out-end-2 c = sym (length-take-le c.min-end.result c.args.unit.now (omega arith))

pub returns : goal.returns
returns c = let a = c.args in front_put a.unit.now c.min-end.ensures (table_out a.from (held a.t)) c.table_out.ensures
