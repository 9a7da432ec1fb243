-- Some element passes a test.
use mathlib.Core.Path.{◌≡◌, refl, ap, ◌∙◌}
use mathlib.Core.Bool.{Bool, true, false, ◌&&◌, ◌||◌, or_assoc, or_comm, or-true, and-false}
use mathlib.Core.List.{List, [], ◌∷◌, ◌++◌, map, Memᴰ, Permᴰ}
use Rattle.lists.specs.Lists.{pick, keep, some}
use Rattle.lists.proofs.Tests.{or_left, or_right, or_or}
use Rattle.lists.proofs.Keep.{keep_cong}

module _ {A : Type 0} where
  pub some_append : (p : A → Bool) (l m : List A) → some p (l ++ m) ≡ (some p l || some p m)
  some_append p [] m = refl
  some_append p (a ∷ l) m = rw (some_append p l m, or_assoc (p a))

  pub some_or : (p q : A → Bool) (l : List A) → some (λ (a : A). p a || q a) l ≡ (some p l || some q l)
  some_or p q [] = refl
  some_or p q (a ∷ l) = rw (some_or p q l) (or_or (p a) (q a) (some p l) (some q l))

  -- only the elements of the list count
  pub some_same : (p q : A → Bool) (l : List A) → ((a : A) → Memᴰ a l → p a ≡ q a) → some p l ≡ some q l
  some_same p q [] e = refl
  some_same p q (a ∷ l) e = rw (e a (Memᴰ.head refl), some_same p q l (λ b m. e b (Memᴰ.tail m)))

  pub some_cong : (p q : A → Bool) → ((a : A) → p a ≡ q a) → (l : List A) → some p l ≡ some q l
  some_cong p q e l = some_same p q l (λ a m. e a)

  pub some_nothing : (l : List A) → some (λ (a : A). false) l ≡ false
  some_nothing [] = refl
  some_nothing (a ∷ l) = some_nothing l

  -- an element that passes
  pub some_at : (p : A → Bool) {a : A} {l : List A} → Memᴰ a l → p a ≡ true → some p l ≡ true
  some_at p (Memᴰ.head h) e = rw (← h, e)
  some_at p (Memᴰ.tail {x = x} m) e = rw (some_at p m e) (or-true (p x))

  pub none_at : (p : A → Bool) {a : A} {l : List A} → Memᴰ a l → some p l ≡ false → p a ≡ false
  none_at p (Memᴰ.head {x = x} {xs = xs} h) e = rw h (or_left (p x) (some p xs) e)
  none_at p (Memᴰ.tail {x = x} {xs = xs} m) e = none_at p m (or_right (p x) (some p xs) e)

  pub some_keep : (p q : A → Bool) (l : List A) → some q (keep p l) ≡ some (λ (a : A). p a && q a) l
  some_keep p q [] = refl
  some_keep p q (a ∷ l) = some_append q (pick (p a) (a ∷ []) []) (keep p l) ∙ rw (some_keep p q l) (step (p a))
    where
      step : (b : Bool) → (some q (pick b (a ∷ []) []) || some (λ (x : A). p x && q x) l) ≡ (b && q a || some (λ (x : A). p x && q x) l)
      step true = or_assoc (q a) false (some (λ (x : A). p x && q x) l)
      step false = refl

  -- of what is kept, no more pass
  pub none_kept : (p q : A → Bool) (l : List A) → some q l ≡ false → some q (keep p l) ≡ false
  none_kept p q l e = some_keep p q l ∙ some_same _ (λ (a : A). false) l (λ a m. rw (none_at q m e) (and-false (p a))) ∙ some_nothing l

  -- the order does not matter
  pub some_perm : (p : A → Bool) {l m : List A} → Permᴰ l m → some p l ≡ some p m
  some_perm p Permᴰ.nil = refl
  some_perm p (Permᴰ.cons e d) = rw (e, some_perm p d)
  some_perm p (Permᴰ.swap {a = a} {b = b} e f) = rw (← e, ← f, ← or_assoc (p a), ← or_assoc (p b), or_comm (p a) (p b))
  some_perm p (Permᴰ.trans d e) = some_perm p d ∙ some_perm p e

module _ {A B : Type 0} where
  pub some_map : (p : B → Bool) (f : A → B) (l : List A) → some p (map f l) ≡ some (λ (a : A). p (f a)) l
  some_map p f [] = refl
  some_map p f (a ∷ l) = ap (p (f a) ||◌) (some_map p f l)

  -- keeping by what some element of another list says: there too the order does not matter
  pub keep_perm : (f : Bool → Bool) (r : B → A → Bool) {l m : List B} → Permᴰ l m → (xs : List A) →
      keep (λ (a : A). f (some (λ (b : B). r b a) l)) xs ≡ keep (λ (a : A). f (some (λ (b : B). r b a) m)) xs
  keep_perm f r d xs = keep_cong _ _ (λ a. ap f (some_perm (λ (b : B). r b a) d)) xs
