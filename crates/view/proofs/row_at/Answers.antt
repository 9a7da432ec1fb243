-- Of a row behind the last there is none.
use mathlib.Core.Path.{sym, ◌∙◌}
use native.Mathlib.Omega.{arith}
use lib.ListN.{drop, take, get_or-eq_default}
use lib.Seq.{length-take-le}
use Rattle.table.specs.Table.{empty_association}
use Rattle.lent.specs.Lent.{rows_of}
use Rattle.lent.proofs.Rows.{length_rows}
use Rattle.view.proofs.row_at.Goals as goal

pub returns-then-n-k : goal.returns-then-n-k
returns-then-n-k c = let a = c.args in let k = length_rows a.n (drop 2 (take 3074 a.unit.now)) in c.no_association.ensures ∙ sym (get_or-eq_default (rows_of a.n (drop 2 (take 3074 a.unit.now))) empty_association (omega (arith, c.if-n-k.true)))

pub slice_bounds-row_in-end : goal.slice_bounds-row_in-end
slice_bounds-row_in-end c = sym (length-take-le 3074 c.args.unit.now (omega arith))

pub row_in-requires : goal.row_in-requires
row_in-requires c = let k = length-take-le 3074 c.args.unit.now (omega arith) in (omega arith, omega arith)
