-- A filter into the empty table, by what the chains tell of each row.
use mathlib.Core.Path.{◌≡◌, ap}
use mathlib.Core.Bool.{not}
use native.Mathlib.Omega.{arith}
use borrow.Author.Rules.{rules}
use lib.ListN.{length}
use Rattle.lists.proofs.Slices.{length_of}
use Rattle.lists.proofs.Filter.{kept_none, kept_one, kept_not}
use Rattle.table.specs.Table.{without}
use Rattle.table.proofs.Rows.{table_kept}
use Rattle.reset.proofs.reset.Goals as goal
use Rattle.reset.proofs.reset.Goals.{then-not-named, else-not-named}

pub loop-i-init : goal.loop-i-init
loop-i-init c = rw c.empty-out.ensures kept_none

pub loop-i-preserved : goal.loop-i-preserved
loop-i-preserved c =
    let b : length c.args.t.rows ≡ 256 = search (rules, length_of) in
    elim c.if-not-named.branch [
      | then-not-named w ↦ rw (w.out-is, w.k-is) (kept_one c.loop-i.invariant (omega arith) (omega arith) _ (omega arith) (ap not (rw c.named.ensures at w.if-not-named.true)))
      | else-not-named w ↦ rw (w.out-is, w.k-is) (kept_not c.loop-i.invariant (omega arith) (omega arith) _ (ap not (rw c.named.ensures at w.if-not-named.false)))
    ]

pub returns : goal.returns
unfolding without
returns c = let b : length c.args.t.rows ≡ 256 = search (rules, length_of) in
    table_kept c.args.t b c.min-i-end.ensures c.loop-i.invariant c.loop-i-test.false
