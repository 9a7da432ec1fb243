-- The table in front is all of too few octets.
use mathlib.Core.Path.{sym, ap, ◌∙◌}
use mathlib.Core.List.{List}
use Prim.Native.Nat.{ℕ}
use native.Mathlib.Omega.{arith}
use lib.Seq.{length-take-le}
use Rattle.table.specs.Table.{table_holding}
use Rattle.lent.specs.Lent.{first_rows}
use Rattle.units.proofs.Parts.{front_take}
use Rattle.units.proofs.rows_in.Goals as goal

pub slice_bounds-rows_in-end : goal.slice_bounds-rows_in-end
slice_bounds-rows_in-end c = sym (length-take-le c.min-end.result c.args.unit.now (omega arith))

pub returns : goal.returns
returns c = c.rows_in.ensures ∙ ap (λ (s : List ℕ). table_holding (first_rows c.args.n s)) (front_take c.args.unit.now c.min-end.ensures)
