-- `record_form::are_slots_bad` meets its contract: the loop's invariant: what the rest of the slots makes is what they all make. Assumes nothing.
use Prim.Native.Nat.{◌+◌, ◌*◌, ◌≤◌}
use mathlib.Core.Path.{◌∙◌, sym}
use native.Mathlib.Omega.{arith}
use lib.ListN.{length, drop, length-drop}
use Rattle.record_form.proofs.BadNames.{bad_here, bad_next, bad_end}
use Rattle.record_form.proofs.are_slots_bad.Goals as goal

pub returns-then-is_slot_bad : goal.returns-then-is_slot_bad
returns-then-is_slot_bad c =
    let a = c.args in
    let e = rw c.slot_at.ensures at (sym c.is_slot_bad.ensures ∙ c.if-is_slot_bad.true) in
    let z : 8 ≤ length (drop (2 + 8 * c.loop-i.i) a.s.now) = omega (arith, length-drop (2 + 8 * c.loop-i.i) a.s.now, a.rows.few) in
    bad_here a.values.now a.rows.rows.now a.s.now c.loop-i.i c.loop-i-test.true z e ∙ c.loop-i.invariant

pub loop-i-preserved : goal.loop-i-preserved
loop-i-preserved c =
    let a = c.args in
    let e = rw c.slot_at.ensures at (sym c.is_slot_bad.ensures ∙ c.if-is_slot_bad.false) in
    let z : 8 ≤ length (drop (2 + 8 * c.loop-i.i) a.s.now) = omega (arith, length-drop (2 + 8 * c.loop-i.i) a.s.now, a.rows.few) in
    bad_next a.values.now a.rows.rows.now a.s.now c.loop-i.i c.loop-i-test.true z e ∙ c.loop-i.invariant

pub returns : goal.returns
returns c = bad_end c.args.values.now c.args.rows.rows.now c.args.s.now c.loop-i.i c.loop-i-test.false _ ∙ c.loop-i.invariant
