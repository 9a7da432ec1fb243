-- What of a number a set of w words tells apart: its word, and its bit of the word.
use Rattle.std.specs.Prelude.{false, List, [], ◌∷◌, ◌^◌, length}
use mathlib.Core.Path.{◌≡◌, ap, sym, refl, ◌∙◌}
use Prim.Native.Nat.{ℕ, ◌+◌, ◌*◌, ◌/◌, ◌%◌, ◌<◌}
use native.Mathlib.Nat.{mod-lt, div-add-mod', add-mul, mul_assoc, mul_comm, add_assoc}
use native.Mathlib.Omega.{arith}
use Rattle.std.proofs.lemmas.Nat.{mul-add-lt, div-mul-add, mod-mul-add}
use Rattle.std.proofs.Math.Nat.{zero-div}
use Rattle.distinct.specs.Bits.{told, in_set, with_in}

module _ (w x : ℕ) (h : 0 < w) where
  split : told w x ≡ x / w % 64 * w + x % w
  split = ap (◌% (w * 64)) whole ∙ mod-mul-add (x / w / 64) (w * 64) (x / w % 64 * w + x % w) (mul-add-lt (x / w % 64) w (x % w) 64 (omega arith) (mod-lt x h))
    where
      bits : x / w ≡ x / w / 64 * 64 + x / w % 64
      bits = sym (div-add-mod' (x / w) 64)

      whole : x ≡ x / w / 64 * (w * 64) + (x / w % 64 * w + x % w)
      whole =
          sym (div-add-mod' x w) ∙ ap (λ (q : ℕ). q * w + x % w) bits
          ∙ rw (add-mul, mul_assoc, mul_comm 64 w, add_assoc)

  pub told_word : told w x % w ≡ x % w
  told_word = rw split (mod-mul-add (x / w % 64) w (x % w) (mod-lt x h))

  pub told_bit : told w x / w ≡ x / w % 64
  told_bit = rw split (div-mul-add (x / w % 64) w (x % w) (mod-lt x h))

-- of no words at all
pub none_in : (w : ℕ) (words : List ℕ) (x : ℕ) → length words ≡ 0 → false ≡ in_set w words x
unfolding in_set
none_in w [] x h = rw (zero-div (2 ^ (x / w))) refl
none_in w (v ∷ words) x h = absurd (omega arith)

pub none_with : (w : ℕ) (words : List ℕ) (x : ℕ) → length words ≡ 0 → words ≡ with_in w words x
unfolding with_in
none_with w [] x h = refl
none_with w (v ∷ words) x h = absurd (omega arith)
