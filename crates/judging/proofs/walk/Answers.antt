use Rattle.std.proofs.Common.{sym, refl, length, arith, ◌<◌}
use native.Mathlib.Nat.{zero-add}
use lib.Seq.{length-take-le}
use Rattle.rows.specs.Table.{rows_in}
use Rattle.envelopes.proofs.ScanLaws.{envelope_in}
use Rattle.judging.specs.Judging.{tally_of}
use Rattle.judging.proofs.StepLaws.{sought_past, step_start, step_known, step_unknown, walk_end, walk_cut, walk_bad, walk_misplaced}
use Rattle.judging.proofs.walk.Goals as goal

pub walk-init : goal.walk-init
unfolding tally_of
walk-init c = step_start (rows_in c.args.t) (omega (arith, c.args.t.few))

pub loop-k-init : goal.loop-k-init
loop-k-init c = (omega arith, record { step = c.walk.invariant; more = c.if-n-i.false; read = c.in-Ok.ensures; rest = zero-add _ }, refl)

pub slice_bounds-is_legible-end : goal.slice_bounds-is_legible-end
slice_bounds-is_legible-end c = let s = c.args.s.now in sym (length-take-le _ s (envelope_in s c.loop-k.at c.loop-k.invariant.1.read).2)

pub walk-preserved-then-r-h : goal.walk-preserved-then-r-h
walk-preserved-then-r-h c =
    let inside : c.loop-k.k < length (rows_in c.args.t) = omega arith in
    let v = c.loop-k.invariant in step_known v.1 inside c.if-r-h.true c.if-k-row.false (rw c.if-not-is_legible.false at c.is_legible.ensures)

pub loop-k-preserved : goal.loop-k-preserved
loop-k-preserved c =
    let inside : c.loop-k.k < length (rows_in c.args.t) = omega arith in
    let v = c.loop-k.invariant in (omega arith, sought_past v.1 inside c.if-r-h.false, v.2)

pub walk-preserved : goal.walk-preserved
walk-preserved c = let v = c.loop-k.invariant in rw c.tally_with-tally.ensures (step_unknown v.1 (omega arith))

pub returns-then-n-i : goal.returns-then-n-i
returns-then-n-i c = walk_end c.walk.invariant c.if-n-i.true

pub returns-in_default : goal.returns-in_default
returns-in_default c = walk_cut c.walk.invariant c.if-n-i.false c.in_default.ensures

pub returns-then-k-row : goal.returns-then-k-row
returns-then-k-row c =
    let inside : c.loop-k.k < length (rows_in c.args.t) = omega arith in
    walk_misplaced c.loop-k.invariant.1 inside c.if-r-h.true c.if-k-row.true

pub returns-then-not-is_legible : goal.returns-then-not-is_legible
returns-then-not-is_legible c =
    let inside : c.loop-k.k < length (rows_in c.args.t) = omega arith in
    let z = rw c.if-not-is_legible.true at c.is_legible.ensures in
    walk_bad c.loop-k.invariant.1 inside c.if-r-h.true z.1
