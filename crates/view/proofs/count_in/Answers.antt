-- At each turn, count of the rows before i have the TMGI.
use mathlib.Core.Path.{sym, ap, ◌∙◌}
use native.Mathlib.Omega.{arith}
use lib.ListN.{drop}
use Rattle.table.specs.Table.{empty_association}
use Rattle.lent.proofs.Rows.{length_rows}
use Rattle.console.specs.Console.{tmgi_of, has_tmgi}
use Rattle.console.proofs.Counting.{passed_none, passed_one, passed_not, passed_all}
use Rattle.view.proofs.count_in.Goals as goal
use Rattle.view.proofs.count_in.Goals.{then-has_tmgi, else-has_tmgi}

pub loop-i-init : goal.loop-i-init
loop-i-init c = passed_none

pub overflow_add-count : goal.overflow_add-count
overflow_add-count c = let a = c.args in let k = length_rows a.n (drop 2 a.table.now) in omega (arith, c.loop-i.invariant.fewer)

pub loop-i-preserved : goal.loop-i-preserved
loop-i-preserved c = let a = c.args in let k = length_rows a.n (drop 2 a.table.now) in let v = c.loop-i.invariant in let e = ap (has_tmgi (tmgi_of a.tmgi)) (sym c.row_in.ensures) ∙ sym c.has_tmgi.ensures in elim c.if-has_tmgi.branch [ then-has_tmgi w ↦ rw w.count-is (passed_one v empty_association (omega arith) (e ∙ w.if-has_tmgi.true)) | else-has_tmgi w ↦ rw w.count-is (passed_not v empty_association (omega arith) (e ∙ w.if-has_tmgi.false)) ]

pub returns : goal.returns
returns c = let a = c.args in let k = length_rows a.n (drop 2 a.table.now) in passed_all c.loop-i.invariant (omega arith)
