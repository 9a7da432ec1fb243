-- `record_form::is_slot` meets its contract: by its first octet. Assumes nothing.
use mathlib.Core.Path.{◌≡◌, ◌∙◌, sym, ap}
use native.Mathlib.Omega.{arith}
use lib.ListN.{length, take, replicate}
use lib.Seq.{take_all}
use Rattle.lent.specs.Lent.{same}
use borrow.Author.Tests.{eq-eqb, ne_eqb}
use Rattle.record_form.proofs.Zeros.{zeros_same}
use Rattle.record_form.proofs.Slots.{slot_there, slot_none}
use Rattle.record_form.proofs.is_slot.Goals as goal

pub returns-then-there-eq0 : goal.returns-then-there-eq0
returns-then-there-eq0 c =
    let n : length c.args.p.now ≡ 8 = omega (arith, c.told-p) in
    let t : take 8 c.args.p.now ≡ c.args.p.now = take_all 8 c.args.p.now (omega arith) in
    c.all_zero.ensures ∙ zeros_same _ 8 n ∙ ap (same (replicate 8 0)) (sym t) ∙ sym (slot_none c.args.kind c.args.p.now c.if-there-eq0.true)

pub returns-then-there-mark_of : goal.returns-then-there-mark_of
returns-then-there-mark_of c =
    rw (slot_there c.args.kind c.args.p.now (omega (arith, c.told-p)) c.fits-p c.if-there-eq0.false, ← c.mark_of.ensures, eq-eqb _ _ c.if-there-mark_of.true) c.is_rest.ensures

pub returns-else-there-mark_of : goal.returns-else-there-mark_of
returns-else-there-mark_of c =
    rw (slot_there c.args.kind c.args.p.now (omega (arith, c.told-p)) c.fits-p c.if-there-eq0.false, ← c.mark_of.ensures, ne_eqb _ _ c.if-there-mark_of.false)
