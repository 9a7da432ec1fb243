-- A filter into a fresh array of m: of the first i elements, of those up to n, what passes stands in its first k places, and d behind.
use mathlib.Core.Path.{◌≡◌, refl, ◌∙◌}
use mathlib.Core.Bool.{Bool, true, false}
use mathlib.Core.List.{List, [], ◌∷◌, ◌++◌, append-nil}
use Prim.Native.Nat.{ℕ, ◌+◌, ◌≤◌, ◌<◌}
use native.Mathlib.Omega.{arith}
use lib.ListN.{length, length-append, take, get_or, set}
use Rattle.lists.specs.Lists.{pick, keep, fill}
use Rattle.lists.proofs.Keep.{keep_append}
use Rattle.lists.proofs.Slices.{take_next}
use Rattle.lists.proofs.Fill.{fill_more}

pub record Kept {A : Type 0} (d : A) (m : ℕ) (p : A → Bool) (l : List A) (n : ℕ) (out : List A) (k i : ℕ) : Type 0 where
  pub within : i ≤ n
  pub fewer : k ≤ i
  pub count : k ≡ length (keep p (take i l))
  pub array : out ≡ fill d m (keep p (take i l))

module _ {A : Type 0} {d : A} {m : ℕ} {p : A → Bool} {l : List A} {n : ℕ} where
  pub kept_none : Kept d m p l n (fill d m []) 0 0
  kept_none = record { within = omega arith; fewer = omega arith; count = refl; array = refl }

  module _ {out : List A} {k i : ℕ} (s : Kept d m p l n out k i) (h : i < n) (b : n ≤ length l) where
    next : (x : A) (t : Bool) → p (get_or l i x) ≡ t → keep p (take (i + 1) l) ≡ keep p (take i l) ++ pick t (get_or l i x ∷ []) []
    next x t e = rw (take_next l i x (omega arith), keep_append p (take i l) (get_or l i x ∷ []), append-nil, e)

    pub kept_one : (x : A) → n ≤ m → p (get_or l i x) ≡ true → Kept d m p l n (set out k (get_or l i x)) (k + 1) (i + 1)
    kept_one x w e = record {
      within = omega arith;
      fewer = omega (arith, s.fewer);
      count = rw (next x true e, length-append) (omega (arith, s.count));
      array = rw (s.array, next x true e) (fill_more d m (keep p (take i l)) (get_or l i x) k s.count (omega (arith, s.fewer)));
    }

    pub kept_not : (x : A) → p (get_or l i x) ≡ false → Kept d m p l n out k (i + 1)
    kept_not x e =
        let q : keep p (take (i + 1) l) ≡ keep p (take i l) = next x false e ∙ append-nil _ in
        record { within = omega arith; fewer = omega (arith, s.fewer); count = rw q s.count; array = rw q s.array }

  pub kept_all : {out : List A} {k i : ℕ} → Kept d m p l n out k i → n ≤ i → (out ≡ fill d m (keep p (take n l))) × (k ≡ length (keep p (take n l)))
  kept_all {i = i} s h = let e : n ≡ i = omega (arith, s.within) in rw e (s.array, s.count)
