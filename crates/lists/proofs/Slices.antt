-- Parts of a list, one element more; and the lengths of lists that arrays stand for.
use mathlib.Core.Path.{◌≡◌, refl, sym, ◌∙◌}
use mathlib.Core.Bool.{Bool, true, false}
use mathlib.Core.List.{List, [], ◌∷◌, ◌++◌, map}
use Prim.Native.Nat.{ℕ, zero, suc, ◌+◌, ◌-◌, ◌≤◌, ◌<◌, min}
use native.Mathlib.Numerals.{add-one}
use native.Mathlib.Omega.{arith}
use borrow.Author.Tests.{leb-true, leb-false}
use lib.Dec.{leb}
use lib.ListN.{length, length-map, take, drop, get_or, replicate}
use lib.Seq.{slice, slice-cons, slice_empty, take-suc, take_all}

module _ {A : Type 0} where
  pub slice_next : (i n : ℕ) (l : List A) (d : A) → i < n → n ≤ length l → slice i n l ≡ get_or l i d ∷ slice (i + 1) n l
  slice_next i n l d h k = rw add-one (slice-cons i n l d h k)

  pub slice_end : (i n : ℕ) (l : List A) → i ≤ n → n ≤ i → slice i n l ≡ []
  slice_end i n l a b = let e : i ≡ n = omega arith in rw e (slice_empty n l)

  pub take_next : (l : List A) (i : ℕ) (d : A) → i < length l → take (i + 1) l ≡ take i l ++ (get_or l i d ∷ [])
  take_next l i d h = rw add-one (take-suc l i d h)

  -- a number past the end takes as many as the end
  pub take_within : (l : List A) (k m : ℕ) → length l ≡ m → {n : ℕ} → n ≡ min k m → take n l ≡ take k l
  take_within l k m b {n} e = rw e (by (leb k m) refl)
    where
      by : (t : Bool) → leb k m ≡ t → take (min k m) l ≡ take k l
      by true t = let h : k ≤ m = leb-true k m t in let q : min k m ≡ k = omega arith in rw q
      by false t = let h : m < k = leb-false k m t in take_all (min k m) l (omega arith) ∙ sym (take_all k l (omega arith))

pub drop_replicate : {A : Type 0} (k n : ℕ) (a : A) → drop k (replicate n a) ≡ replicate (n - k) a
drop_replicate zero n a = let e : n - 0 ≡ n = omega arith in rw e
drop_replicate (suc k) zero a = let e : 0 - suc k ≡ 0 = omega arith in rw e
drop_replicate (suc k) (suc n) a = let e : suc n - suc k ≡ n - k = omega arith in rw e (drop_replicate k n a)

-- What owning a struct tells of a field that is an array of structs stands at the mapped list: `search (needs, length_of)` finds the length.
pub length_of : (X Y : Type 0) (f : X → Y) (l : List X) (n : ℕ) → length (map f l) ≡ n → length l ≡ n
length_of X Y f l n e = sym (length-map l f) ∙ e
