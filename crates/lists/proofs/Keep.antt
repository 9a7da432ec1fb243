-- Keeping the elements that pass a test.
use mathlib.Core.Logic.{◌↔◌}
use mathlib.Core.Path.{◌≡◌, refl, ap, sym, ◌∙◌}
use mathlib.Core.Bool.{Bool, true, false, ◌&&◌, and_comm}
use mathlib.Core.List.Memᴰ
use mathlib.Core.List.{List, [], ◌∷◌, ◌++◌, append_assoc, Memᴰ, Sublistᴰ}
use Prim.Native.Nat.{◌≤◌}
use native.Mathlib.Omega.{arith}
use lib.ListN.{length}
use Rattle.lists.specs.Lists.{pick, keep}

module _ {A : Type 0} where
  pub keep_append : (p : A → Bool) (l m : List A) → keep p (l ++ m) ≡ keep p l ++ keep p m
  keep_append p [] m = refl
  keep_append p (a ∷ l) m = rw (keep_append p l m, append_assoc (pick (p a) (a ∷ []) []) (keep p l) (keep p m))

  -- only the elements of the list count
  pub keep_same : (p q : A → Bool) (l : List A) → ((a : A) → Memᴰ a l → p a ≡ q a) → keep p l ≡ keep q l
  keep_same p q [] e = refl
  keep_same p q (a ∷ l) e = rw (e a (Memᴰ.head refl), keep_same p q l (λ b m. e b (Memᴰ.tail m)))

  pub keep_cong : (p q : A → Bool) → ((a : A) → p a ≡ q a) → (l : List A) → keep p l ≡ keep q l
  keep_cong p q e l = keep_same p q l (λ a m. e a)

  pub keep_all : (l : List A) → keep (λ (a : A). true) l ≡ l
  keep_all [] = refl
  keep_all (a ∷ l) = ap (a ∷◌) (keep_all l)

  pub keep_nothing : (l : List A) → keep (λ (a : A). false) l ≡ []
  keep_nothing [] = refl
  keep_nothing (a ∷ l) = keep_nothing l

  pub keep_keep : (p q : A → Bool) (l : List A) → keep q (keep p l) ≡ keep (λ (a : A). p a && q a) l
  keep_keep p q [] = refl
  keep_keep p q (a ∷ l) = rw (keep_append q (pick (p a) (a ∷ []) []) (keep p l), keep_keep p q l) (step (p a))
    where
      step : (b : Bool) → keep q (pick b (a ∷ []) []) ++ keep (λ (x : A). p x && q x) l ≡ pick (b && q a) (a ∷ []) [] ++ keep (λ (x : A). p x && q x) l
      step true = rw append_assoc
      step false = refl

  pub keep_swap : (p q : A → Bool) (l : List A) → keep p (keep q l) ≡ keep q (keep p l)
  keep_swap p q l = keep_keep q p l ∙ keep_cong _ _ (λ a. and_comm (q a) (p a)) l ∙ sym (keep_keep p q l)

  pub length_keep : (p : A → Bool) (l : List A) → length (keep p l) ≤ length l
  length_keep p [] = omega arith
  length_keep p (a ∷ l) = step (p a) (length_keep p l)
    where
      step : (b : Bool) → length (keep p l) ≤ length l → length (pick b (a ∷ []) [] ++ keep p l) ≤ length (a ∷ l)
      step true h = omega arith
      step false h = omega arith

  -- exactly the elements that pass are kept
  pub mem_keep : (p : A → Bool) {a : A} (l : List A) → Memᴰ a (keep p l) ↔ (Memᴰ a l × (p a ≡ true))
  mem_keep p {a} l = (kept l, λ m. passed m.0 m.1)
    where
      step : (x : A) (xs : List A) (b : Bool) → p x ≡ b → (Memᴰ a (keep p xs) → Memᴰ a xs × (p a ≡ true)) →
          Memᴰ a (pick b (x ∷ []) [] ++ keep p xs) → Memᴰ a (x ∷ xs) × (p a ≡ true)
      step x xs true e r (Memᴰ.head h) = (Memᴰ.head h, ap p h ∙ e)
      step x xs true e r (Memᴰ.tail m) = (Memᴰ.tail (r m).0, (r m).1)
      step x xs false e r m = (Memᴰ.tail (r m).0, (r m).1)

      kept : (xs : List A) → Memᴰ a (keep p xs) → Memᴰ a xs × (p a ≡ true)
      kept [] m = absurd (Memᴰ.not-nil m)
      kept (x ∷ xs) m = step x xs (p x) refl (kept xs) m

      passed : {xs : List A} → Memᴰ a xs → p a ≡ true → Memᴰ a (keep p xs)
      passed (Memᴰ.head {x = x} {xs = xs} h) e = rw (← h, e) (Memᴰ.head refl)
      passed (Memᴰ.tail {x = x} m) e = Memᴰ.append_right (pick (p x) (x ∷ []) []) (passed m e)

  -- what is kept keeps its order
  pub keep_order : (p : A → Bool) (l : List A) → Sublistᴰ (keep p l) l
  keep_order p [] = Sublistᴰ.slnil
  keep_order p (a ∷ l) = step (p a) (keep_order p l)
    where
      step : (b : Bool) → Sublistᴰ (keep p l) l → Sublistᴰ (pick b (a ∷ []) [] ++ keep p l) (a ∷ l)
      step true h = Sublistᴰ.cons-cons refl h
      step false h = Sublistᴰ.cons h
