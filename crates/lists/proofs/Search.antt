-- A search, element by element: the test passed at none of the places from m up to i, of those up to n.
use mathlib.Core.Path.{◌≡◌, refl, ap, sym, ◌∙◌}
use mathlib.Core.Bool.{Bool, true, false}
use mathlib.Core.List.{List}
use Prim.Native.Nat.{ℕ, ◌+◌, ◌≤◌, ◌<◌}
use native.Mathlib.Omega.{arith}
use lib.ListN.{length, get_or}
use lib.Seq.{slice}
use Rattle.lists.specs.Lists.{some}
use Rattle.lists.proofs.Slices.{slice_next, slice_end}

pub record Sought {A : Type 0} (p : A → Bool) (l : List A) (m n i : ℕ) : Type 0 where
  pub within : i ≤ n
  pub rest : some p (slice i n l) ≡ some p (slice m n l)

module _ {A : Type 0} {p : A → Bool} {l : List A} {m n : ℕ} where
  pub sought_none : m ≤ n → Sought p l m n m
  sought_none h = record { within = h; rest = refl }

  module _ {i : ℕ} (s : Sought p l m n i) where
    pub sought_found : (d : A) → i < n → n ≤ length l → p (get_or l i d) ≡ true → some p (slice m n l) ≡ true
    sought_found d h b e = sym s.rest ∙ ap (some p) (slice_next i n l d h b) ∙ rw e

    pub sought_more : (d : A) → i < n → n ≤ length l → p (get_or l i d) ≡ false → Sought p l m n (i + 1)
    sought_more d h b e = record { within = omega arith; rest = sym (ap (some p) (slice_next i n l d h b) ∙ rw e) ∙ s.rest }

    pub sought_all : n ≤ i → some p (slice m n l) ≡ false
    sought_all h = sym s.rest ∙ ap (some p) (slice_end i n l s.within h)
