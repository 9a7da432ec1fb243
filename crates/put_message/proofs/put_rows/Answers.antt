-- `put_message::put_rows` meets its contract: the loop's invariant: the elements of the first i rows are written. Assumes nothing.
use Prim.Native.Nat.{◌+◌, ◌*◌}
use mathlib.Core.Path.{◌∙◌, ap, sym}
use native.Mathlib.Omega.{arith}
use native.Mathlib.Numerals.{add-one}
use lib.ListN.{get_or, drop, length-drop}
use Rattle.meaning.specs.Written.{element_octets}
use Rattle.octets.proofs.Writing.{wrote_none, wrote_then}
use Rattle.rows.specs.Table.{no_row}
use Rattle.plan.specs.Plan.{elements_to, size_given}
use Rattle.plan.proofs.Steps.{wrote_as, wrote_within}
use Rattle.put_message.proofs.Values.{given_front, said_here}
use Rattle.put_message.proofs.put_rows.Goals as goal

pub loop-i-init : goal.loop-i-init
unfolding elements_to
loop-i-init c = (c.requires.0, wrote_none _ _ (omega (arith, c.requires.0)))

pub put_row-next-requires : goal.put_row-next-requires
put_row-next-requires c =
    let a = c.args in
    let p = drop (2 + 8 * c.loop-i.i) a.s.now in
    let r = c.requires.2 c.loop-i.i c.loop-i-test.true in
    let g = given_front a.values.now a.s.now (get_or a.rows.rows.now c.loop-i.i no_row).kind p (omega (arith, length-drop (2 + 8 * c.loop-i.i) a.s.now, a.rows.few)) in
    rw c.slot_at-slot.ensures (c.loop-i.invariant.0, r.crit, r.size ∙ ap size_given (sym g), r.fits)

pub loop-i-preserved : goal.loop-i-preserved
unfolding elements_to
loop-i-preserved c =
    let a = c.args in
    let i = c.loop-i.i in
    let e = ap (element_octets (get_or a.rows.rows.now i no_row)) (said_here a.values.now a.s.now a.rows.rows.now i c.loop-i-test.true a.rows.few c.requires.1) in
    (wrote_within c.put_row-next.ensures, rw add-one (wrote_then c.loop-i.invariant.1 (wrote_as e (rw c.slot_at-slot.ensures at c.put_row-next.ensures))))
