-- How many characters a name has, in eight bits across two octets.
--     across_or   the two parts of the bits, put together
--     size_got    what is known where the number was read
--     first_together, second_together   the octets that say it
-- Assumes nothing.
use mathlib.Core.Path.{◌≡◌, ◌∙◌, ap}
use Prim.Native.Nat.{ℕ, ◌+◌, ◌*◌, ◌%◌, ◌<◌, ◌≤◌}
use native.Mathlib.Omega.{arith}
use lib.Bits.{bit_or, or_shifted}
use mathlib.Core.Bool.{false}
use mathlib.Core.List.{List, [], ◌∷◌}
use borrow.Author.Tests.{ltb-true, ltb-false}
use lib.Dec.{ltb}
use lib.ListN.{length}
use Rattle.packed.specs.Packed.{bits_of, ◌bits◌, bit, packed, packed_in, placed}
use Rattle.packed.proofs.Packed.{together}
use Rattle.std.specs.Prelude.{Ok}
use Rattle.octets.proofs.Chain.{same_got}
use Rattle.octets.proofs.Got.{passed, held, there_got}
use Rattle.names.specs.Names.{across_at, size_at}

seven_small : (x : ℕ) → bits_of x 1 7 < 128
unfolding bits_of
seven_small x = omega arith

pub one_small : (x : ℕ) → bits_of x 0 1 < 2
unfolding bits_of
one_small x = omega arith

pub across_or : (x y : ℕ) → bit_or (bits_of x 1 7 * 2 % 256) (bits_of y 0 1) ≡ bits_of x 1 7 * 2 + bits_of y 0 1
across_or x y =
    let h = seven_small x in
    let e : bits_of x 1 7 * 2 % 256 ≡ bits_of x 1 7 * 2 = omega arith in
    ap (λ (n : ℕ). bit_or n (bits_of y 0 1)) e ∙ or_shifted (bits_of x 1 7) 1 (bits_of y 0 1) (one_small y)

pub size_got : (s : List ℕ) (at : ℕ) {n : ℕ} → Ok n ≡ size_at s at → (n ≡ across_at s at + 1) × (across_at s at < 150) × (at + 2 + n ≤ length s)
unfolding size_at
size_got s at {n} q =
    let p = there_got 2 s at _ q in
    let h = held (ltb (across_at s at) 150) _ _ p.1 in
    let k = passed (ltb (length s) (at + 2 + (across_at s at + 1))) _ _ h.1 in
    let e : n ≡ across_at s at + 1 = same_got k.1 in
    (e, ltb-true (across_at s at) 150 h.0, rw e (ltb-false (length s) (at + 2 + (across_at s at + 1)) k.0))

-- the two octets, put together
pub first_together : (v : ℕ) → v < 128 → bit_or 0 (placed 1 7 v) ≡ packed (bit false ∷ 7 bits v ∷ [])
unfolding packed_in
first_together v h = together (bit false ∷ []) 7 v (omega arith) (omega arith) h

pub second_together : (v : ℕ) → bit_or 0 (placed 0 1 v) ≡ packed (1 bits (v % 2) ∷ [])
unfolding packed_in placed
second_together v = let e : v % 2 % 2 ≡ v % 2 = omega arith in rw e at (together [] 1 (v % 2) (omega arith) (omega arith) (omega arith))
