-- `octets::put_length` meets its contract. The octets are those of the writers on the way, one after another. Assumes nothing.
-- the octet with top bits 10 and the high part of a length
use mathlib.Core.Path.{◌≡◌, ◌∙◌, ap}
use mathlib.Core.List.{[], ◌∷◌}
use Prim.Native.Nat.{ℕ, ◌/◌}
use lib.Bits.{bit_or}
use native.Mathlib.Omega.{arith}
use Rattle.packed.specs.Packed.{packed, packed_in, ◌bits◌, placed}
use Rattle.packed.proofs.Packed.{together}
use Rattle.octets.proofs.Writing.{wrote_none, wrote_then, length_short, length_long, length_over}
use Rattle.octets.proofs.put_length.Goals as goal

pub returns-then-n-lt128 : goal.returns-then-n-lt128
returns-then-n-lt128 c = rw (length_short _ c.if-n-lt128.true) c.put_octet.ensures

pub returns-then-n-ge16384 : goal.returns-then-n-ge16384
returns-then-n-ge16384 c = rw (length_over _ c.if-n-ge16384.true) (wrote_none _ _ c.min.ensures)

pub returns : goal.returns
unfolding packed_in
returns c =
    let top : let n = c.args.n in c.with_bits-top.result ≡ packed (2 bits 2 ∷ 6 bits (n / 256) ∷ []) = let n = c.args.n in
    c.with_bits-top.ensures ∙ (ap (λ (x : ℕ). bit_or x (placed 2 6 (n / 256))) (c.with_bits.ensures ∙ together [] 2 2 (omega arith) (omega arith) (omega arith)) ∙ together (2 bits 2 ∷ []) 6 (n / 256) (omega arith) (omega arith) (omega arith)) in
    rw (length_long _ c.if-n-lt128.false c.if-n-ge16384.false, ← top) (wrote_then c.put_octet-next.ensures c.put_octet-2.ensures)
