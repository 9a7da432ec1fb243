-- The rows passed stand in the array; none stands in the rest.
use mathlib.Core.Path.{◌∙◌, sym, ap}
use native.Mathlib.Omega.{arith}
use borrow.Author.Tests.{eq-eqb, ne_eqb}
use lib.ListN.{length}
use Rattle.table.specs.declared.Table.{Table}
use Rattle.lent.proofs.Rows.{length_rows}
use Rattle.lent.proofs.ByRows.{next_row, in_none, in_more, in_all}
use Rattle.lent.proofs.rows_in.Goals as goal

pub returns-else-s-eq3074 : goal.returns-else-s-eq3074
returns-else-s-eq3074 c = rw (ne_eqb (length c.args.s.now) 3074 c.if-s-eq3074.false) c.empty-t.ensures

pub loop-i-init : goal.loop-i-init
loop-i-init c = in_none _ _ (ap (λ (t : Table). t.rows) c.empty-t.ensures)

pub loop-i-preserved : goal.loop-i-preserved
loop-i-preserved c = in_more (sym (length_rows _ _)) c.loop-i.invariant c.loop-i-test.true (omega arith) (next_row c.args.s.now c.min-n.result c.loop-i.i c.loop-i-test.true (omega arith) _ c.row_of.ensures)

pub returns-after-loop-i : goal.returns-after-loop-i
returns-after-loop-i c =
    in_all (sym (length_rows _ _)) c.loop-i.invariant c.loop-i-test.false
    ∙ rw (eq-eqb (length c.args.s.now) 3074 (omega arith), c.min-n.ensures)
