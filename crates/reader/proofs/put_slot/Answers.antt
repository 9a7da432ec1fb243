use Rattle.std.proofs.Common.{◌≡◌, refl, ◌+◌, ◌-◌, length, take, arith, rules}
use lib.Seq.{take_all}
use Rattle.octets.proofs.AtOnce.{wrote_mid}
use Rattle.reader.proofs.put_slot.Goals as goal

pub returns : goal.returns
returns c =
    let a = c.args in
    let e : 8 ≡ length a.slot = search rules in
    let k : a.at + 8 - a.at ≡ 8 = omega arith in
    let t : take 8 a.slot ≡ a.slot = take_all 8 a.slot (omega arith) in
    rw (k, c.copy_from_slice.ensures.after) (rw t at (wrote_mid a.room.now a.slot a.at 8 (omega arith) refl))
