-- `record_form::form_of` meets its contract: the loop's invariant: what the rest of the slots makes of what is announced so far is what they all make. Assumes nothing.
use Prim.Native.Nat.{◌+◌, ◌*◌, ◌≤◌}
use mathlib.Core.Path.{◌∙◌, sym}
use native.Mathlib.Omega.{arith}
use lib.ListN.{length, drop, length-drop}
use Rattle.record_form.proofs.Forms.{form_stop, form_next, form_end}
use Rattle.record_form.proofs.form_of.Goals as goal

pub returns-then-not-is_slot : goal.returns-then-not-is_slot
returns-then-not-is_slot c =
    let e = rw c.slot_at-slot.ensures at (sym c.is_slot.ensures ∙ c.if-not-is_slot.true) in
    let z : 8 ≤ length (drop (2 + 8 * c.loop-i.i) c.args.s.now) = omega (arith, length-drop (2 + 8 * c.loop-i.i) c.args.s.now, c.args.rows.few) in
    sym (form_stop _ _ c.args.rows.rows.now c.args.s.now c.loop-i.i c.loop-i-test.true z e) ∙ c.loop-i.invariant

pub loop-i-preserved : goal.loop-i-preserved
loop-i-preserved c =
    let e = rw c.slot_at-slot.ensures at (sym c.is_slot.ensures ∙ c.if-not-is_slot.false) in
    let z : 8 ≤ length (drop (2 + 8 * c.loop-i.i) c.args.s.now) = omega (arith, length-drop (2 + 8 * c.loop-i.i) c.args.s.now, c.args.rows.few) in
    rw (c.says_entries-entries.ensures, c.says_items-items.ensures, c.slot_at-slot.ensures) (sym (form_next c.loop-i.items c.loop-i.entries c.args.rows.rows.now c.args.s.now c.loop-i.i c.loop-i-test.true z e) ∙ c.loop-i.invariant)

pub returns : goal.returns
returns c = sym (form_end c.loop-i.items c.loop-i.entries c.args.rows.rows.now c.args.s.now c.loop-i.i c.loop-i-test.false _) ∙ c.loop-i.invariant
