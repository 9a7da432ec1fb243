-- Parts of a list, wherever they begin and end.
use mathlib.Core.Path.{◌≡◌, refl, ap, sym, ◌∙◌}
use mathlib.Core.Bool.{Bool, true, false}
use mathlib.Core.List.{List, [], ◌∷◌, ◌++◌}
use Prim.Native.Nat.{ℕ, zero, suc, max, ◌+◌, ◌≤◌, ◌<◌}
use native.Mathlib.Nat.{zero-add, suc-add}
use native.Mathlib.Numerals.{add-one}
use native.Mathlib.Omega.{arith}
use borrow.Author.Tests.{ltb-true, ltb-false}
use lib.Dec.{ltb}
use lib.ListN.{length, get_or, take, drop, length-take, drop_of_length-le}
use lib.Seq.{slice, take-suc, take_all, take-nil, length-take-le, drop-append-le}

module _ {A : Type 0} where
  pub slice_more : (f i : ℕ) (l : List A) (d : A) → f ≤ i → i < length l → slice f (i + 1) l ≡ slice f i l ++ get_or l i d ∷ []
  slice_more f i l d h k =
      let b : f ≤ length (take i l) = let e = length-take-le i l (omega arith) in omega arith in
      rw (add-one i, take-suc l i d k) (drop-append-le f (take i l) (get_or l i d ∷ []) b)

  pub slice_past : (f i t : ℕ) (l : List A) → length l ≤ i → i ≤ t → slice f i l ≡ slice f t l
  slice_past f i t l h k = ap (drop f) (take_all i l h ∙ sym (take_all t l (omega arith)))

  pub slice_less : (f t : ℕ) (l : List A) → t ≤ f → slice f t l ≡ []
  slice_less f t l h = drop_of_length-le (take t l) {i = f} (rw (length-take t l) (omega arith))

  -- a walk from f up to t, if it is not past it already, ends at i
  pub slice_stop : (f i t : ℕ) (l : List A) → f ≤ i → i ≤ max f t → t ≤ i → slice f i l ≡ slice f t l
  slice_stop f i t l a b c = by (ltb f t) refl
    where
      by : (d : Bool) → ltb f t ≡ d → slice f i l ≡ slice f t l
      by true e = let h = ltb-true f t e in let k : i ≡ t = omega arith in rw k
      by false e = let h = ltb-false f t e in let k : i ≤ f = omega arith in slice_less f i l k ∙ sym (slice_less f t l h)

  -- a part by its size, and by its end
  pub take_drop : (n f : ℕ) (l : List A) → take n (drop f l) ≡ slice f (f + n) l
  take_drop n zero l = rw (zero-add n)
  take_drop n (suc f) [] = rw (suc-add f n) (take-nil n)
  take_drop n (suc f) (a ∷ l) = rw (suc-add f n) (take_drop n f l)
