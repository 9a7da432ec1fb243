-- What holds of numbers holds of identities that have them.
use mathlib.Core.Path.{◌≡◌, ap, sym, ◌∙◌}
use mathlib.Core.Bool.{Bool, true, false}
use mathlib.Core.List.{List, [], ◌∷◌, map}
use Prim.Native.Nat.{ℕ, zero, suc, ◌+◌, ◌≤◌, ◌<◌}
use native.Mathlib.Omega.{arith}
use lib.Dec.{eqb}
use lib.ListN.{length, length-map, take, get_or}
use lib.Seq.{take_all}
use Rattle.lists.specs.Lists.{some, apart}
use Rattle.lists.proofs.Some.{some_map}
use Rattle.lists.proofs.Apart.{apart_map}
use Rattle.distinct.specs.Bits.{in_set, with_in}
use Rattle.distinct.specs.Series.{alike}
use Rattle.distinct.proofs.Sets.{Met, met_again, met_more, met_all}

module _ {A : Type 0} (f : A → ℕ) where
  number_at : (l : List A) (i : ℕ) (x : A) → i < length l → x ≡ get_or l i x → get_or (map f l) i 0 ≡ f x
  number_at [] i x h e = absurd (omega arith)
  number_at (a ∷ l) zero x h e = ap f (sym e)
  number_at (a ∷ l) (suc i) x h e = number_at l i x (omega arith) e

  -- the numbers of all are alike where two of them are
  apart_all : (l : List A) → apart eqb (take (length l) (map f l)) ≡ apart (alike f) l
  apart_all l = let n = length-map l f in ap (apart eqb) (take_all (length l) (map f l) (omega arith)) ∙ apart_map eqb f l

  module _ (l : List A) {w : ℕ} {words : List ℕ} {i : ℕ} (g : Met w (map f l) (length l) words i) where
    -- the next identity, and whether it is in the set
    module _ (h : i < length l) {x : A} (e : x ≡ get_or l i x) {v : ℕ} (k : v ≡ f x) {r : Bool} (q : r ≡ in_set w words v) where
      whole : v ≡ get_or (map f l) i 0
      whole = k ∙ sym (number_at l i x h e)

      there : r ≡ in_set w words (get_or (map f l) i 0)
      there = rw (← whole) q

      pub again : r ≡ true → apart (alike f) l ≡ false
      again t = let n = length-map l f in sym (apart_all l) ∙ met_again g h (omega arith) (sym there ∙ t)

      pub more : r ≡ false → {out : List ℕ} → out ≡ with_in w words v → Met w (map f l) (length l) out (i + 1)
      more t o = let n = length-map l f in rw (o, whole) (met_more g h (omega arith) (sym there ∙ t))

    module _ (h : length l ≤ i) where
      pub all_met : apart (alike f) l ≡ true
      all_met = sym (apart_all l) ∙ met_all g h

      -- what is in the set is the number of one
      pub all_held : (y : ℕ) → in_set w words y ≡ some (λ (a : A). eqb (f a) y) l
      all_held y =
          let n = length-map l f in
          g.holds y ∙ ap (some (λ (x : ℕ). eqb x y)) (take_all i (map f l) (omega arith)) ∙ some_map (λ (x : ℕ). eqb x y) f l
