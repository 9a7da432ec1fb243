-- Tests of the places below a number, and of the elements that stand there.
use mathlib.Core.Path.{◌≡◌, refl, ap, ◌∙◌}
use mathlib.Core.Bool.{Bool, or_comm, or-false}
use mathlib.Core.List.{List, [], ◌∷◌}
use Prim.Native.Nat.{ℕ, zero, suc, ◌≤◌}
use native.Mathlib.Omega.{arith}
use lib.ListN.{length, take, get_or}
use lib.Seq.{take-suc}
use Rattle.lists.specs.Lists.{some, upto}
use Rattle.lists.proofs.Some.{some_append}

-- of the elements at the places, some passes
pub some_places : {A : Type 0} (p : A → Bool) (l : List A) (d : A) (n : ℕ) → n ≤ length l → some p (take n l) ≡ upto (λ (j : ℕ). p (get_or l j d)) n
unfolding upto
some_places p l d zero h = refl
some_places p l d (suc n) h =
    ap (some p) (take-suc l n d h) ∙ some_append p (take n l) (get_or l n d ∷ [])
    ∙ rw (some_places p l d n (omega arith), or-false (p (get_or l n d))) (or_comm _ (p (get_or l n d)))
