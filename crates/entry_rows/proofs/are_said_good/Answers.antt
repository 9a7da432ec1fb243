-- `entry_rows::are_said_good` meets its contract: the loop knows whether all rows passed are good.
-- Assumes nothing.
use mathlib.Core.Path.{◌∙◌}
use Prim.Native.Nat.{◌*◌, ◌+◌}
use native.Mathlib.Omega.{arith}
use borrow.Author.Tests.{lt-ltb}
use lib.ListN.{drop}
use Rattle.entry_rows.proofs.Saying.{all_good, good_more, passed_all, passed_more, said_all, said_few}
use Rattle.layout.specs.Record.{lists_in}
use Rattle.layout.specs.Rows.{row_entry}
use Rattle.entry_rows.proofs.are_said_good.Goals as goal

pub loop-i-preserved : goal.loop-i-preserved
loop-i-preserved c = (_, passed_more c.loop-i.invariant.1 c.loop-i-test.true, rw c.row_good-good.ensures (good_more c.loop-i.invariant.0 (row_entry (drop (1638 + 4 * c.loop-i.i) c.args.s.now)) c.loop-i.invariant.2))

pub returns-then-n-gt0 : goal.returns-then-n-gt0
returns-then-n-gt0 c = let s = c.args.s.now in
    let e = c.said_entries-n.ensures in
    let l = passed_all c.loop-i.invariant.1 c.loop-i-test.false ∙ said_all s e in
    rw (lt-ltb 0 c.said_entries-n.result c.if-n-gt0.true) at (all_good (lists_in s).entries e (omega (arith, e, said_few s)) (rw l at c.loop-i.invariant.2))
