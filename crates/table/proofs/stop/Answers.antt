-- The rows passed that stay stand in front, and behind them rows are empty up to those not passed yet.
use mathlib.Core.Path.{◌≡◌, ap}
use mathlib.Core.Bool.{not}
use native.Mathlib.Omega.{arith}
use borrow.Author.Rules.{rules}
use lib.ListN.{length}
use Rattle.lists.proofs.Slices.{length_of}
use Rattle.table.specs.Table.{stopping}
use Rattle.table.proofs.Holding.{stayed_none, stayed_one, stayed_not, stayed_all}
use Rattle.table.proofs.stop.Goals as goal
use Rattle.table.proofs.stop.Goals.{then-not-has_pair, else-not-has_pair}

pub loop-i-init : goal.loop-i-init
loop-i-init c = stayed_none

pub loop-i-preserved : goal.loop-i-preserved
loop-i-preserved c =
    let b : length c.args.t.rows ≡ 256 = search (rules, length_of) in
    elim c.if-not-has_pair.branch [
      | then-not-has_pair w ↦ rw (w.out-is, w.k-is) (stayed_one c.loop-i.invariant c.loop-i-test.true (omega arith) _ (ap not (rw c.has_pair.ensures at w.if-not-has_pair.true)))
      | else-not-has_pair w ↦ rw (w.out-is, w.k-is) (stayed_not c.loop-i.invariant c.loop-i-test.true (omega arith) _ (ap not (rw c.has_pair.ensures at w.if-not-has_pair.false)))
    ]

pub returns : goal.returns
unfolding stopping
returns c = stayed_all c.args.t (search (rules, length_of)) c.min-n.ensures c.loop-i.invariant c.loop-i-test.false
