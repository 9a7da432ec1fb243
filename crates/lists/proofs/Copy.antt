-- One part of each element, copied into a fresh array of m: of the first i elements, of those up to n, and d behind.
use mathlib.Core.Path.{◌≡◌, refl, ap, sym, ◌∙◌}
use mathlib.Core.List.{List, [], ◌∷◌, ◌++◌, map}
use Prim.Native.Nat.{ℕ, ◌+◌, ◌≤◌, ◌<◌}
use native.Mathlib.Omega.{arith}
use lib.ListN.{length, length-map, take, get_or, set}
use lib.Seq.{length-take-le, take_at}
use Rattle.lists.specs.Lists.{fill}
use Rattle.lists.proofs.Slices.{take_next}
use Rattle.lists.proofs.Fill.{fill_more}

module _ {A B : Type 0} where
  pub map-append : (f : A → B) (l m : List A) → map f (l ++ m) ≡ map f l ++ map f m
  map-append f [] m = refl
  map-append f (a ∷ l) m = ap (f a ∷◌) (map-append f l m)

pub record Copied {A B : Type 0} (f : A → B) (d : B) (m : ℕ) (l : List A) (n : ℕ) (out : List B) (i : ℕ) : Type 0 where
  pub within : i ≤ n
  pub array : out ≡ fill d m (map f (take i l))

module _ {A B : Type 0} {f : A → B} {d : B} {m : ℕ} {l : List A} {n : ℕ} where
  pub copied_none : Copied f d m l n (fill d m []) 0
  copied_none = record { within = omega arith; array = refl }

  module _ {out : List B} {i : ℕ} (s : Copied f d m l n out i) where
    pub copied_more : (x : A) → i < n → n ≤ m → n ≤ length l → Copied f d m l n (set out i (f (get_or l i x))) (i + 1)
    copied_more x h w b = record {
      within = omega arith;
      array =
          let k : i ≡ length (map f (take i l)) = sym (length-map (take i l) f ∙ length-take-le i l (omega arith)) in
          rw (s.array, take_next l i x (omega arith), map-append) (fill_more d m (map f (take i l)) (f (get_or l i x)) i k (omega arith));
    }

    pub copied_all : n ≤ i → out ≡ fill d m (map f (take n l))
    copied_all h = let e : n ≡ i = omega (arith, s.within) in rw e s.array

    pub copied_front : n ≤ i → n ≤ length l → take n out ≡ map f (take n l)
    copied_front h b =
        let k : length (map f (take n l)) ≡ n = length-map (take n l) f ∙ length-take-le n l b in
        rw (copied_all h) (take_at (map f (take n l)) _ n k)
