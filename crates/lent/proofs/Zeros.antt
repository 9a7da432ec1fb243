-- Octets that are all zero, and a loop without an exit that finds it out.
use mathlib.Core.Path.{◌≡◌, refl, ap, sym, ◌∙◌}
use mathlib.Core.Bool.{Bool, true, false, ◌&&◌, and_assoc, and-true}
use mathlib.Core.List.{List, [], ◌∷◌}
use Prim.Native.Nat.{ℕ, zero, suc, ◌+◌, ◌≤◌, ◌<◌}
use native.Mathlib.Numerals.{add-one}
use native.Mathlib.Omega.{arith}
use borrow.Author.Tests.{eqb-true, eqb-false}
use lib.Bits.{bit_or, bit_and, or_add_and, and_le_l, and_le_r}
use lib.Dec.{eqb}
use lib.ListN.{length, drop, get_or, replicate, drop_of_length-le}
use lib.Seq.{drop-cons}
use Rattle.lists.proofs.Tests.{and_left, and_right}
use Rattle.lent.specs.Tests.{zeros}

pub zeros_are : (l : List ℕ) → zeros l ≡ true → l ≡ replicate (length l) 0
unfolding zeros
zeros_are [] e = refl
zeros_are (x ∷ l) e = λ i. eqb-true x 0 (and_left (eqb x 0) (zeros l) e) i ∷ zeros_are l (and_right (eqb x 0) (zeros l) e) i

pub are_zeros : (n : ℕ) → zeros (replicate n 0) ≡ true
unfolding zeros
are_zeros zero = refl
are_zeros (suc n) = are_zeros n

-- an or is zero where both are
pub or_zero : (a b : ℕ) → eqb (bit_or a b) 0 ≡ (eqb a 0 && eqb b 0)
or_zero a b = by (eqb (bit_or a b) 0) refl (eqb a 0) refl (eqb b 0) refl
  where
    sum : bit_or a b + bit_and a b ≡ a + b
    sum = or_add_and a b

    by : (r : Bool) → eqb (bit_or a b) 0 ≡ r → (p : Bool) → eqb a 0 ≡ p → (q : Bool) → eqb b 0 ≡ q → r ≡ (p && q)
    by true r true p true q = refl
    by true r true p false q = absurd (eqb-false b 0 q (omega (arith, eqb-true (bit_or a b) 0 r, sum, and_le_l a b, and_le_r a b)))
    by true r false p q t = absurd (eqb-false a 0 p (omega (arith, eqb-true (bit_or a b) 0 r, sum, and_le_l a b, and_le_r a b)))
    by false r true p true q = absurd (eqb-false (bit_or a b) 0 r (omega (arith, eqb-true a 0 p, eqb-true b 0 q, sum)))
    by false r true p false q = refl
    by false r false p q t = refl

-- the octets from at up to i, or'ed, and the rest
pub record Zeroed (s : List ℕ) (at all i : ℕ) : Type 0 where
  pub within : i ≤ length s
  pub rest : (eqb all 0 && zeros (drop i s)) ≡ zeros (drop at s)

pub zeroed_none : (s : List ℕ) (at : ℕ) → at ≤ length s → Zeroed s at 0 at
zeroed_none s at h = record { within = h; rest = refl }

module _ {s : List ℕ} {at all i : ℕ} (g : Zeroed s at all i) where
  pub zeroed_more : i < length s → Zeroed s at (bit_or all (get_or s i 0)) (i + 1)
  unfolding zeros
  zeroed_more h = record {
    within = omega arith;
    rest = rw (or_zero all (get_or s i 0), add-one i)
        (and_assoc (eqb all 0) (eqb (get_or s i 0) 0) (zeros (drop (suc i) s))
        ∙ sym (ap (λ (l : List ℕ). eqb all 0 && zeros l) (drop-cons s i 0 h)) ∙ g.rest);
  }

  pub zeroed_all : length s ≤ i → eqb all 0 ≡ zeros (drop at s)
  unfolding zeros
  zeroed_all h = sym (and-true (eqb all 0)) ∙ rw (drop_of_length-le s h) at g.rest
