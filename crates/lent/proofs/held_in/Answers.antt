-- No row passed is named.
use mathlib.Core.Path.{sym}
use native.Mathlib.Omega.{arith}
use lib.ListN.{drop}
use Rattle.lent.proofs.Rows.{length_rows}
use Rattle.lent.proofs.ByRows.{next_row, not_yet, not_more, not_found, not_all}
use Rattle.lent.proofs.held_in.Goals as goal

pub loop-i-init : goal.loop-i-init
loop-i-init c = not_yet

pub returns-then-names : goal.returns-then-names
returns-then-names c = let a = c.args in
    let n = length_rows a.n (drop 2 a.s.now) in
    sym (not_found c.loop-i.invariant (omega arith) (next_row a.s.now a.n _ c.loop-i-test.true (omega arith) _ c.row_of.ensures) c.names.ensures c.if-names.true)

pub loop-i-preserved : goal.loop-i-preserved
loop-i-preserved c = let a = c.args in
    let n = length_rows a.n (drop 2 a.s.now) in
    not_more c.loop-i.invariant (omega arith) (next_row a.s.now a.n _ c.loop-i-test.true (omega arith) _ c.row_of.ensures) c.names.ensures c.if-names.false

pub returns : goal.returns
returns c = let a = c.args in
    let n = length_rows a.n (drop 2 a.s.now) in
    sym (not_all c.loop-i.invariant (omega arith))
