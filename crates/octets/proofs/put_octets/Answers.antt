-- The octets passed are put in.
use mathlib.Core.Path.{◌≡◌, refl, ap, ◌∙◌}
use Prim.Native.Nat.{◌-◌}
use native.Mathlib.Omega.{arith}
use lib.ListN.{length, take}
use lib.Seq.{length-sets}
use Rattle.octets.proofs.AtOnce.{wrote_each}
use Rattle.octets.proofs.Writing.{sets_next}
use Rattle.octets.proofs.put_octets.Goals as goal

pub loop-i-init : goal.loop-i-init
loop-i-init c = refl

pub shape_of-room : goal.shape_of-room
shape_of-room c = ap length c.loop-i.invariant ∙ length-sets c.args.room.now c.min-start.result (take c.loop-i.i c.args.vs.now)

pub loop-i-preserved : goal.loop-i-preserved
loop-i-preserved c = rw c.loop-i.invariant (sets_next _ c.args.vs.now c.min-start.result c.loop-i.i (omega arith))

pub returns : goal.returns
returns c =
    let a = c.args in
    let q : c.place_behind-end.result - c.min-start.result ≡ c.loop-i.i = omega arith in
    wrote_each a.room.now a.vs.now a.at c.min-start.result _ c.place_behind-end.ensures c.min-start.ensures (rw q c.loop-i.invariant)
