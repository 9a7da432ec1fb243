-- When the octets behind 1,636 are those of the entries that they say. The number of octets, and the count, are known by the octets that are written;
-- every row is the row of the entry that it says, so what is left to see are zeros behind the last.
-- Assumes nothing.
use mathlib.Core.Path.{◌≡◌, ◌∙◌, refl, sym, ap}
use mathlib.Core.Bool.{Bool, true, false}
use mathlib.Core.List.{List, [], ◌∷◌, ◌++◌, append_assoc}
use Prim.Native.Nat.{ℕ, zero, suc, min, ◌+◌, ◌-◌, ◌*◌, ◌≤◌, ◌<◌}
use native.Mathlib.Nat.{mul-zero, mul-suc}
use native.Mathlib.Omega.{arith}
use borrow.Author.Tests.{eq-eqb, eqb-true}
use lib.Dec.{eqb}
use lib.ListN.{length, drop, replicate, length-append, length-drop}
use lib.Seq.{drop-cons, drop-drop, get_or-drop}
use Rattle.lists.specs.Lists.{fill}
use Rattle.lists.proofs.Fill.{length_fill}
use Rattle.lists.proofs.Tests.{both_ways}
use Rattle.octets.specs.Field.{value_at}
use Rattle.octets.specs.Many.{each_octets}
use Rattle.octets.specs.Write.{number_octets}
use Rattle.octets.specs.Stands.{Octets}
use Rattle.octets.proofs.Back.{length_number}
use Rattle.octets.proofs.EachWritten.{each_size}
use Rattle.lent.specs.Lent.{same}
use Rattle.lent.specs.Tests.{zeros}
use Rattle.lent.proofs.Reading.{same_is}
use Rattle.lent.proofs.Rows.{value_back, value_again}
use Rattle.entries.specs.declared.Entry.{Entry}
use Rattle.layout.specs.Rows.{entry_row, row_entry, each_row, list_octets}
use Rattle.layout.specs.Record.{lists_in}
use Rattle.entry_rows.proofs.Putting.{no_rows}
use Rattle.entry_rows.proofs.Saying.{length_each, said_few}

-- ---- lists that are the same in front

pub same_front : (p xs ys : List ℕ) → same (p ++ xs) (p ++ ys) ≡ same xs ys
unfolding same
same_front [] xs ys = refl
same_front (x ∷ p) xs ys = rw (eq-eqb x x refl) (same_front p xs ys)

eqb_sym : (x y : ℕ) → eqb x y ≡ eqb y x
eqb_sym x y = both_ways (eqb x y) (eqb y x) (λ e. eq-eqb y x (sym (eqb-true x y e))) (λ e. eq-eqb x y (sym (eqb-true y x e)))

zeros_by : (l : List ℕ) → same (replicate (length l) 0) l ≡ zeros l
unfolding same zeros
zeros_by [] = refl
zeros_by (x ∷ l) = rw (eqb_sym 0 x, zeros_by l)

pub same_zeros : (l : List ℕ) (n : ℕ) → n ≡ length l → same (replicate n 0) l ≡ zeros l
same_zeros l n e = rw e (zeros_by l)

-- ---- rows

-- rows whose octets are those of what they say
pub rows_again : {A : Type 0} (one : List ℕ → A) (row : A → List ℕ) (w : ℕ) → ((s : List ℕ) → w ≤ length s → Octets s → row (one s) ++ drop w s ≡ s)
    → (n : ℕ) (s : List ℕ) → w * n ≤ length s → Octets s → each_octets row (each_row one w n s) ++ drop (w * n) s ≡ s
unfolding each_row
rows_again one row w again zero s h o = rw mul-zero
rows_again one row w again (suc n) s h o =
    let e : w * suc n ≡ w + w * n = rw (mul-suc w n) (omega arith) in
    let i = rows_again one row w again n (drop w s) (rw length-drop (omega arith)) (λ j. rw get_or-drop (o (w + j))) in
    append_assoc (row (one s)) (each_octets row (each_row one w n (drop w s))) _ ∙ (rw (e, ← drop-drop (w * n) w s, i) (again s (omega arith) o))

pub row_size : (e : Entry) → length (entry_row e) ≡ 4
unfolding number_octets
row_size e = refl

pub row_again : (s : List ℕ) → 4 ≤ length s → Octets s → entry_row (row_entry s) ++ drop 4 s ≡ s
row_again s h o = rw (value_again s 1 o) (sym (drop-cons s 0 0 (omega arith) ∙ rw (drop-cons s 1 0 (omega arith), drop-cons s 2 0 (omega arith), drop-cons s 3 0 (omega arith))))

-- ---- the octets behind 1,636

pub list_size : (es : List Entry) → length es ≤ 256 → length (list_octets 1024 entry_row es) ≡ 1026
list_size es h =
    let a = each_size entry_row 4 row_size es in
    let b = length_fill 0 1024 (each_octets entry_row es) (omega arith) in
    let c = length-append (number_octets 2 (length es)) (fill 0 1024 (each_octets entry_row es)) in
    omega (arith, length_number 2 (length es))

-- no octets are the same: why not
refused : (b : Bool) → (b ≡ true → ⊥) → false ≡ b
refused true h = absurd (h refl)
refused false h = refl

module _ (s : List ℕ) where
  pub not_long : (es : List Entry) → length es ≤ 256 → (length s ≡ 2662 → ⊥) → false ≡ same (list_octets 1024 entry_row es) (drop 1636 s)
  not_long es h n = refused _ (λ e. n (omega (arith, ap length (same_is _ _ e), list_size es h, length-drop 1636 s)))

  pub no_form : length s ≡ 2662 → zeros (drop 1636 s) ≡ same (list_octets 1024 entry_row []) (drop 1636 s)
  no_form w = sym (ap (λ (l : List ℕ). same l (drop 1636 s)) (sym (no_rows entry_row 1024)) ∙ same_zeros (drop 1636 s) 1026 (omega (arith, length-drop 1636 s)))

  pub not_few : 256 < value_at 2 s 1636 → false ≡ same (list_octets 1024 entry_row (lists_in s).entries) (drop 1636 s)
  not_few h = refused _ (λ e. by (lists_in s).entries (said_few s) (same_is _ _ e))
    where
      by : (es : List Entry) → length es ≤ 256 → list_octets 1024 entry_row es ≡ drop 1636 s → ⊥
      by es b e =
          let v = value_back (length es) (fill 0 1024 (each_octets entry_row es)) in
          let u : value_at 2 (drop 1636 s) 0 ≡ value_at 2 s 1636 = rw (get_or-drop 1636 s 0 0, get_or-drop 1636 s 1 0) in
          let q = ap (λ (l : List ℕ). value_at 2 l 0) e in
          omega arith

  pub form : Octets s → length s ≡ 2662 → {n : ℕ} → n ≡ value_at 2 s 1636 → n ≤ 256 → zeros (drop (1638 + 4 * n) s) ≡ same (list_octets 1024 entry_row (lists_in s).entries) (drop 1636 s)
  form o w {n} e h =
      let m : min (value_at 2 s 1636) 256 ≡ n = omega arith in
      let rows : List ℕ = each_octets entry_row (each_row row_entry 4 n (drop 1638 s)) in
      let c = length_each row_entry 4 n (drop 1638 s) in
      let z = each_size entry_row 4 row_size (each_row row_entry 4 n (drop 1638 s)) in
      let d = length-drop 1638 s in
      let r : rows ++ drop (4 * n) (drop 1638 s) ≡ drop 1638 s = rows_again row_entry entry_row 4 row_again n (drop 1638 s) (omega arith) (λ i. rw get_or-drop (o (1638 + i))) in
      let f : number_octets 2 n ++ drop 1638 s ≡ drop 1636 s = rw (e, value_again s 1636 o) (sym (drop-cons s 1636 0 (omega arith) ∙ rw (drop-cons s 1637 0 (omega arith)))) in
      let a : list_octets 1024 entry_row (lists_in s).entries ≡ number_octets 2 n ++ (rows ++ replicate (1024 - length rows) 0) = rw (m, c) in
      let b : drop 1636 s ≡ number_octets 2 n ++ (rows ++ drop (1638 + 4 * n) s) = sym f ∙ ap (number_octets 2 n ++◌) (sym r ∙ ap (rows ++◌) (drop-drop (4 * n) 1638 s)) in
      let k = length-drop (1638 + 4 * n) s in
      sym ((λ i. same (a i) (b i)) ∙ (same_front (number_octets 2 n) _ _ ∙ (same_front rows _ _ ∙ same_zeros (drop (1638 + 4 * n) s) (1024 - length rows) (omega arith))))
