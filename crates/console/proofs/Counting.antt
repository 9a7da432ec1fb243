-- Counting, element by element: of the first i elements, n pass the test.
use mathlib.Core.Path.{◌≡◌, refl, ap, ◌∙◌}
use mathlib.Core.Bool.{Bool, true, false}
use mathlib.Core.List.{List, [], ◌∷◌, ◌++◌, append-nil}
use Prim.Native.Nat.{ℕ, ◌+◌, ◌≤◌, ◌<◌}
use native.Mathlib.Omega.{arith}
use lib.ListN.{length, length-append, take, get_or}
use lib.Seq.{take_all}
use Rattle.lists.specs.Lists.{pick, keep}
use Rattle.lists.proofs.Keep.{keep_append}
use Rattle.lists.proofs.Slices.{take_next}

pub record Passed {A : Type 0} (p : A → Bool) (l : List A) (n i : ℕ) : Type 0 where
  pub within : i ≤ length l
  pub fewer : n ≤ i
  pub count : n ≡ length (keep p (take i l))

module _ {A : Type 0} {p : A → Bool} {l : List A} where
  pub passed_none : Passed p l 0 0
  passed_none = record { within = omega arith; fewer = omega arith; count = refl }

  module _ {n i : ℕ} (s : Passed p l n i) where
    next : (x : A) (t : Bool) → i < length l → p (get_or l i x) ≡ t → keep p (take (i + 1) l) ≡ keep p (take i l) ++ pick t (get_or l i x ∷ []) []
    next x t h e = rw (take_next l i x h, keep_append p (take i l) (get_or l i x ∷ []), append-nil, e)

    pub passed_one : (x : A) → i < length l → p (get_or l i x) ≡ true → Passed p l (n + 1) (i + 1)
    passed_one x h e = record {
      within = omega arith;
      fewer = omega (arith, s.fewer);
      count = rw (next x true h e, length-append) (omega (arith, s.count));
    }

    pub passed_not : (x : A) → i < length l → p (get_or l i x) ≡ false → Passed p l n (i + 1)
    passed_not x h e = record {
      within = omega arith;
      fewer = omega (arith, s.fewer);
      count = rw (next x false h e, append-nil) s.count;
    }

    pub passed_all : length l ≤ i → n ≡ length (keep p l)
    passed_all h = s.count ∙ ap (λ (m : List A). length (keep p m)) (take_all i l h)
