-- `record_form::is_rest` meets its contract: zeros behind what the value uses, and the head of diagnostics. Assumes nothing.
use Prim.Native.Nat.{◌-◌}
use mathlib.Core.Path.{◌≡◌}
use native.Mathlib.Omega.{arith}
use lib.ListN.{length, take, drop, length-take, length-drop}
use Rattle.record_form.specs.Form.{used_by, rest_good}
use Rattle.record_form.proofs.Zeros.{zeros_same}
use Rattle.record_form.proofs.Slots.{used_small}
use Rattle.record_form.proofs.is_rest.Goals as goal

pub returns-then-all_zero : goal.returns-then-all_zero
unfolding rest_good
returns-then-all_zero c =
    let k = c.args.kind in
    let n : length (take (8 - used_by k) (drop (used_by k) c.args.p.now)) ≡ 8 - used_by k = omega (arith, length-take (8 - used_by k) (drop (used_by k) c.args.p.now), length-drop (used_by k) c.args.p.now, used_small k, c.told-p) in
    rw (← zeros_same _ _ n, ← c.used_by.ensures, ← c.all_zero.ensures, c.if-all_zero.true) c.is_head_of.ensures

pub returns-else-all_zero : goal.returns-else-all_zero
unfolding rest_good
returns-else-all_zero c =
    let k = c.args.kind in
    let n : length (take (8 - used_by k) (drop (used_by k) c.args.p.now)) ≡ 8 - used_by k = omega (arith, length-take (8 - used_by k) (drop (used_by k) c.args.p.now), length-drop (used_by k) c.args.p.now, used_small k, c.told-p) in
    rw (← zeros_same _ _ n, ← c.used_by.ensures, ← c.all_zero.ensures, c.if-all_zero.false)
