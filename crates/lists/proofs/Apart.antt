-- No two elements alike.
use mathlib.Core.Path.{◌≡◌, refl}
use mathlib.Core.Bool.{Bool, true, false, not, ◌&&◌, ◌||◌, and-false}
use mathlib.Core.List.{List, [], ◌∷◌, ◌++◌, map}
use Rattle.lists.specs.Lists.{pick, keep, some, apart}
use borrow.Author.Tests.{not-true}
use Rattle.lists.proofs.Tests.{and_left, and_right}
use Rattle.lists.proofs.Some.{some_append, some_map, none_kept}

module _ {A : Type 0} (alike : A → A → Bool) where
  -- one element more
  pub apart_more : (l : List A) (a : A) → apart alike (l ++ (a ∷ [])) ≡ (apart alike l && not (some (λ (b : A). alike b a) l))
  apart_more [] a = refl
  apart_more (b ∷ l) a =
      rw (apart_more l a, some_append (alike b) l (a ∷ []))
      (regroup (some (alike b) l) (alike b a) (apart alike l) (some (λ (x : A). alike x a) l))
    where
      regroup : (p q r s : Bool) → (not (p || (q || false)) && (r && not s)) ≡ ((not p && r) && not (q || s))
      regroup true q r s = refl
      regroup false true true s = refl
      regroup false true false s = refl
      regroup false false r s = refl

  -- two alike in front stay two alike
  pub apart_front : (l m : List A) → apart alike l ≡ false → apart alike (l ++ m) ≡ false
  apart_front [] m e = cc
  apart_front (a ∷ l) m e = step (some (alike a) l) refl e (apart_front l m)
    where
      step : (b : Bool) → some (alike a) l ≡ b → (not b && apart alike l) ≡ false → (apart alike l ≡ false → apart alike (l ++ m) ≡ false) →
          (not (some (alike a) (l ++ m)) && apart alike (l ++ m)) ≡ false
      step true t e r = rw (some_append (alike a) l m, t)
      step false t e r = rw (r e) (and-false (not (some (alike a) (l ++ m))))

  pub apart_keep : (p : A → Bool) (l : List A) → apart alike l ≡ true → apart alike (keep p l) ≡ true
  apart_keep p [] e = refl
  apart_keep p (a ∷ l) e = step (p a) (apart_keep p l (and_right (not (some (alike a) l)) (apart alike l) e))
    where
      none : some (alike a) (keep p l) ≡ false
      none = none_kept p (alike a) l (not-true _ (and_left (not (some (alike a) l)) (apart alike l) e))

      step : (b : Bool) → apart alike (keep p l) ≡ true → apart alike (pick b (a ∷ []) [] ++ keep p l) ≡ true
      step true h = rw (none, h)
      step false h = h

module _ {A B : Type 0} (alike : B → B → Bool) (f : A → B) where
  pub apart_map : (l : List A) → apart alike (map f l) ≡ apart (λ (a b : A). alike (f a) (f b)) l
  apart_map [] = refl
  apart_map (a ∷ l) = rw (some_map (alike (f a)) f l, apart_map l)
