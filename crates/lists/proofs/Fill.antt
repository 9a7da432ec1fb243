-- A list in the front of an array.
use mathlib.Core.Path.{◌≡◌, refl, ap, sym, ◌∙◌}
use mathlib.Core.Bool.{Bool, true, false}
use mathlib.Core.List.{List, [], ◌∷◌, ◌++◌, append_assoc}
use Prim.Native.Nat.{ℕ, zero, suc, ◌+◌, ◌-◌, ◌≤◌, ◌<◌}
use native.Mathlib.Omega.{arith}
use borrow.Author.Tests.{ltb-true, ltb-false}
use lib.Dec.{ltb}
use lib.ListN.{length, length-append, length-replicate, length-set, take, get_or, set, replicate, get_or-append, get_or-eq_default}
use lib.Seq.{take_at, set_at, set-append_left, get_or-append-add}
use Rattle.lists.specs.Lists.{fill}

module _ {A : Type 0} (d : A) (n : ℕ) (l : List A) where
  pub length_fill : length l ≤ n → length (fill d n l) ≡ n
  length_fill h = rw (length-append, length-replicate) (omega arith)

  pub take_fill : take (length l) (fill d n l) ≡ l
  take_fill = take_at l (replicate (n - length l) d) (length l) refl

  -- behind the list it reads as past its end
  pub get_d_fill : (i : ℕ) → get_or (fill d n l) i d ≡ get_or l i d
  get_d_fill i = by (ltb i (length l)) refl
    where
      by : (t : Bool) → ltb i (length l) ≡ t → get_or (fill d n l) i d ≡ get_or l i d
      by true t = get_or-append l (replicate (n - length l) d) d i (ltb-true i (length l) t)
      by false t =
          let h : length l ≤ i = ltb-false i (length l) t in
          let e : i ≡ length l + (i - length l) = omega arith in
          ap (λ (j : ℕ). get_or (fill d n l) j d) e ∙ get_or-append-add l (replicate (n - length l) d) (i - length l) d
          ∙ all (n - length l) (i - length l) ∙ sym (get_or-eq_default l d h)
        where
          all : (m j : ℕ) → get_or (replicate m d) j d ≡ d
          all zero j = refl
          all (suc m) zero = refl
          all (suc m) (suc j) = all m j

  -- one element more, stored behind the list
  pub fill_more : (a : A) (k : ℕ) → k ≡ length l → k < n → set (fill d n l) k a ≡ fill d n (l ++ (a ∷ []))
  fill_more a k e h =
      let r : n - length l ≡ suc (n - length (l ++ (a ∷ []))) = rw length-append (omega arith) in
      rw (r, set_at l d (replicate (n - length (l ++ (a ∷ []))) d) a k (sym e), append_assoc)

  -- an element of the list, stored anew
  pub fill_set : (a : A) (k : ℕ) → k < length l → set (fill d n l) k a ≡ fill d n (set l k a)
  fill_set a k h = set-append_left l (replicate (n - length l) d) k a h ∙ ap (λ (m : ℕ). set l k a ++ replicate (n - m) d) (sym (length-set l k a))
