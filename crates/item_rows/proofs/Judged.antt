-- Octets are those of the items that they say exactly if each identity has a flag of 1, or zeros, and zeros stand behind the rows:
-- row by row, a row of octets is the row of the item that it says exactly if its flags are so.
-- Assumes nothing.
use Rattle.std.specs.Prelude.{None, Some}
use mathlib.Core.Path.{◌≡◌, ◌∙◌, refl, sym, ap}
use mathlib.Core.Bool.{Bool, true, false, ◌&&◌, ◌||◌, and-true, and_assoc, or-false}
use mathlib.Core.List.{List, [], ◌∷◌, ◌++◌, append_assoc}
use Prim.Native.Nat.{ℕ, zero, suc, min, ◌+◌, ◌*◌, ◌-◌, ◌/◌, ◌%◌, ◌^◌, ◌<◌, ◌≤◌}
use native.Mathlib.Nat.{add-zero, sub-zero}
use native.Mathlib.Omega.{arith}
use borrow.Author.Tests.{eqb-true, eq-eqb}
use lib.Dec.{eqb}
use lib.ListN.{length, length-append, length-take, length-drop, take, drop, get_or, replicate}
use lib.Seq.{slice, slice-cons, length-slice, drop-drop, get_or-drop, get_or-take}
use Rattle.lists.specs.Lists.{pick, fill}
use Rattle.lists.proofs.Fill.{length_fill}
use Rattle.lists.proofs.Tests.{both_ways}
use Rattle.octets.specs.Field.{value_at}
use Rattle.octets.specs.Many.{each_octets}
use Rattle.octets.specs.Stands.{Octets}
use Rattle.octets.specs.Write.{number_octets}
use Rattle.octets.proofs.Back.{length_number}
use Rattle.octets.proofs.Writing.{number_two}
use Rattle.octets.proofs.Stood.{octets_front}
use Rattle.octets.proofs.EachWritten.{each_size}
use Rattle.identity.specs.declared.Item.{Item}
use Rattle.lent.specs.Lent.{same}
use Rattle.lent.specs.Tests.{zeros}
use Rattle.lent.proofs.Reading.{same_self, same_is}
use Rattle.layout.specs.Rows.{mme_row, mce_row, item_row, row_mme, row_mce, row_item, each_row, list_octets}
use Rattle.layout.specs.Record.{lists_in}
use Rattle.item_rows.specs.Tests.{half_good, item_row_good, item_rows_good}
use Rattle.item_rows.proofs.Said.{count_said, length_rows, octets_drop}
use Rattle.item_rows.proofs.Out.{length_row, none_octets}

-- ---- lists that are the same

eqb_turn : (a b : ℕ) → eqb a b ≡ eqb b a
eqb_turn a b = both_ways (eqb a b) (eqb b a) (λ e. eq-eqb b a (sym (eqb-true a b e))) (λ e. eq-eqb a b (sym (eqb-true b a e)))

same_append : (x u y v : List ℕ) → length x ≡ length u → same (x ++ y) (u ++ v) ≡ (same x u && same y v)
unfolding same
same_append [] [] y v h = refl
same_append [] (b ∷ u) y v h = absurd (omega arith)
same_append (a ∷ x) [] y v h = absurd (omega arith)
same_append (a ∷ x) (b ∷ u) y v h = rw (same_append x u y v (omega arith)) (sym (and_assoc (eqb a b) (same x u) (same y v)))

pub same_zeros : (p : List ℕ) → same (replicate (length p) 0) p ≡ zeros p
unfolding same zeros
same_zeros [] = refl
same_zeros (x ∷ p) = rw (eqb_turn 0 x, same_zeros p)

-- lists of different lengths are not the same
pub same_long : (x y : List ℕ) → (length x ≡ length y → ⊥) → same x y ≡ false
same_long x y n = by (same x y) refl
  where
    by : (b : Bool) → same x y ≡ b → b ≡ false
    by true e = absurd (n (ap length (same_is x y e)))
    by false e = refl

-- ---- a row

abbrev three : List ℕ → List ℕ
three p = get_or p 0 0 ∷ get_or p 1 0 ∷ get_or p 2 0 ∷ []

half_same : (p : List ℕ) → Octets p → same (mme_row (row_mme p)) (three p) ≡ half_good (get_or p 0 0) (get_or p 1 0) (get_or p 2 0)
unfolding same
half_same p o = by (eqb (get_or p 0 0) 0) refl
  where
    by : (b : Bool) → eqb (get_or p 0 0) 0 ≡ b → same (mme_row (pick b None (Some (record { 0 = value_at 2 p 1 })))) (three p) ≡ (eqb (get_or p 0 0) 1 || (b && eqb (get_or p 1 0) 0 && eqb (get_or p 2 0) 0))
    by true e =
        let f : get_or p 0 0 ≡ 0 = eqb-true (get_or p 0 0) 0 e in
        rw (f, eqb_turn 0 (get_or p 1 0), eqb_turn 0 (get_or p 2 0), and-true (eqb (get_or p 2 0) 0))
    by false e =
        let a = o 1 in
        let b = o 2 in
        let v : number_octets 2 (value_at 2 p 1) ≡ get_or p 1 0 ∷ get_or p 2 0 ∷ [] =
        number_two (value_at 2 p 1) (omega arith)
        ∙ (let h : (get_or p 1 0 * 256 ^ 1 + (get_or p 2 0 * 256 ^ 0 + 0)) / 256 ≡ get_or p 1 0 = omega arith in
        let l : (get_or p 1 0 * 256 ^ 1 + (get_or p 2 0 * 256 ^ 0 + 0)) % 256 ≡ get_or p 2 0 = omega arith in
        rw (h, l)) in
        rw (v, same_self (get_or p 1 0 ∷ get_or p 2 0 ∷ []), and-true (eqb 1 (get_or p 0 0)), or-false (eqb (get_or p 0 0) 1)) (eqb_turn 1 (get_or p 0 0))

series_same : (p : List ℕ) → mce_row (row_mce p) ≡ mme_row (row_mme p)
series_same p = by (eqb (get_or p 0 0) 0)
  where
    by : (b : Bool) → mce_row (pick b None (Some (record { 0 = value_at 2 p 1 }))) ≡ mme_row (pick b None (Some (record { 0 = value_at 2 p 1 })))
    by true = refl
    by false = refl

length_half : (p : List ℕ) → length (mme_row (row_mme p)) ≡ 3
unfolding number_octets
length_half p = by (eqb (get_or p 0 0) 0)
  where
    by : (b : Bool) → length (mme_row (pick b None (Some (record { 0 = value_at 2 p 1 })))) ≡ 3
    by true = refl
    by false = refl

row_same : (p : List ℕ) → Octets p → same (item_row (row_item p)) (three p ++ three (drop 3 p)) ≡ item_row_good p
row_same p o =
    rw (same_append (mme_row (row_mme p)) (three p) (mce_row (row_mce (drop 3 p))) (three (drop 3 p)) (length_half p), half_same p o, series_same (drop 3 p), half_same (drop 3 p) (octets_drop p 3 o), get_or-drop 3 p 0 0, get_or-drop 3 p 1 0, get_or-drop 3 p 2 0)

split_row : (p : List ℕ) → 6 ≤ length p → p ≡ (three p ++ three (drop 3 p)) ++ drop 6 p
split_row (a ∷ b ∷ c ∷ d ∷ e ∷ f ∷ p) h = refl
split_row [] h = absurd (omega arith)
split_row (a ∷ []) h = absurd (omega arith)
split_row (a ∷ b ∷ []) h = absurd (omega arith)
split_row (a ∷ b ∷ c ∷ []) h = absurd (omega arith)
split_row (a ∷ b ∷ c ∷ d ∷ []) h = absurd (omega arith)
split_row (a ∷ b ∷ c ∷ d ∷ e ∷ []) h = absurd (omega arith)

-- ---- rows, and zeros behind them

pub rows_same : (n : ℕ) (p : List ℕ) → Octets p → 6 * n ≤ length p
    → same (each_octets item_row (each_row row_item 6 n p) ++ replicate (length p - 6 * n) 0) p ≡ (item_rows_good n p && zeros (drop (6 * n) p))
unfolding each_row item_rows_good
rows_same zero p o h = rw (sub-zero (length p)) (same_zeros p)
rows_same (suc n) p o h =
    let l = length-drop 6 p in
    let k : length p - 6 * suc n ≡ length (drop 6 p) - 6 * n = omega arith in
    let d : 6 * suc n ≡ 6 + 6 * n = omega arith in
    let r : List ℕ = each_octets item_row (each_row row_item 6 n (drop 6 p)) ++ replicate (length (drop 6 p) - 6 * n) 0 in
    let a : same (item_row (row_item p) ++ r) p ≡ (same (item_row (row_item p)) (three p ++ three (drop 3 p)) && same r (drop 6 p)) =
    ap (same (item_row (row_item p) ++ r)) (split_row p (omega arith)) ∙ same_append (item_row (row_item p)) (three p ++ three (drop 3 p)) r (drop 6 p) (length_row (row_item p)) in
    let b : same r (drop 6 p) ≡ (item_rows_good n (drop 6 p) && zeros (drop (6 * suc n) p)) = rows_same n (drop 6 p) (octets_drop p 6 o) (omega arith) ∙ (rw (drop-drop (6 * n) 6 p, d)) in
    rw (k, append_assoc (item_row (row_item p)) (each_octets item_row (each_row row_item 6 n (drop 6 p))) (replicate (length (drop 6 p) - 6 * n) 0))
    (a ∙ (rw (row_same p o, b) (sym (and_assoc (item_row_good p) (item_rows_good n (drop 6 p)) (zeros (drop (6 * suc n) p))))))

-- ---- the items of a record

-- rows depend on their own octets only
rows_alike : (n : ℕ) (s t : List ℕ) → ((i : ℕ) → i < 6 * n → get_or s i 0 ≡ get_or t i 0) → each_row row_item 6 n s ≡ each_row row_item 6 n t
unfolding each_row
rows_alike zero s t e = refl
rows_alike (suc n) s t e =
    rw (
      e 0 (omega arith),
      e 1 (omega arith),
      e 2 (omega arith),
      get_or-drop 3 s 0 0,
      get_or-drop 3 s 1 0,
      get_or-drop 3 s 2 0,
      get_or-drop 3 t 0 0,
      get_or-drop 3 t 1 0,
      get_or-drop 3 t 2 0,
      e 3 (omega arith),
      e 4 (omega arith),
      e 5 (omega arith),
      rows_alike n (drop 6 s) (drop 6 t) (λ i h. get_or-drop 6 s i 0 ∙ (e (6 + i) (omega arith) ∙ sym (get_or-drop 6 t i 0))),
    )

module _ (s : List ℕ) (h : 1636 ≤ length s) where
  rows_front : (n : ℕ) → n ≤ 256 → each_row row_item 6 n (drop 100 s) ≡ each_row row_item 6 n (slice 100 1636 s)
  rows_front n b = rows_alike n (drop 100 s) (slice 100 1636 s) (λ i k. get_or-drop 100 s i 0 ∙ (sym (get_or-take 1636 s (100 + i) 0 (omega arith)) ∙ sym (get_or-drop 100 (take 1636 s) i 0)))

  count_front : slice 98 1636 s ≡ get_or s 98 0 ∷ get_or s 99 0 ∷ slice 100 1636 s
  count_front = slice-cons 98 1636 s 0 (omega arith) h ∙ ap (get_or s 98 0 ∷◌) (slice-cons 99 1636 s 0 (omega arith) h)

  -- too many are said
  pub items_many : 256 < get_or s 98 0 * 256 + get_or s 99 0 → same (list_octets 1536 item_row (lists_in s).items) (slice 98 1636 s) ≡ false
  unfolding same number_octets
  items_many k =
      let n = count_said s in
      let e : length (lists_in s).items ≡ 256 = omega arith in
      rw (e, count_front) (by (eqb 1 (get_or s 98 0)) refl (eqb 0 (get_or s 99 0)) refl _)
    where
      by : (a : Bool) → eqb 1 (get_or s 98 0) ≡ a → (b : Bool) → eqb 0 (get_or s 99 0) ≡ b → (c : Bool) → (a && (b && c)) ≡ false
      by true p true q c = let x = eqb-true 1 (get_or s 98 0) p in let y = eqb-true 0 (get_or s 99 0) q in absurd (omega arith)
      by true p false q c = refl
      by false p b q c = refl

  pub items_same : {n : ℕ} → Octets s → n ≡ get_or s 98 0 * 256 + get_or s 99 0 → n ≤ 256
      → same (list_octets 1536 item_row (lists_in s).items) (slice 98 1636 s) ≡ (item_rows_good n (slice 100 1636 s) && zeros (drop (6 * n) (slice 100 1636 s)))
  items_same {n} o e b =
      let x = o 98 in
      let y = o 99 in
      let c : length (lists_in s).items ≡ n = let z = count_said s in omega arith in
      let m : min (value_at 2 s 98) 256 ≡ n = omega arith in
      let p : List ℕ = slice 100 1636 s in
      let k : length (slice 100 1636 s) ≡ 1536 = length-slice 100 1636 s h in
      let i : (lists_in s).items ≡ each_row row_item 6 n (slice 100 1636 s) = ap (λ (j : ℕ). each_row row_item 6 j (drop 100 s)) m ∙ rows_front n b in
      let r : length (each_octets item_row (each_row row_item 6 n (slice 100 1636 s))) ≡ 6 * n = each_size item_row 6 length_row (each_row row_item 6 n (slice 100 1636 s)) ∙ ap (6 *◌) (length_rows row_item 6 n (slice 100 1636 s)) in
      let f : number_octets 2 n ≡ get_or s 98 0 ∷ get_or s 99 0 ∷ [] =
      number_two n (omega arith) ∙ (let u : n / 256 ≡ get_or s 98 0 = omega arith in let v : n % 256 ≡ get_or s 99 0 = omega arith in rw (u, v)) in
      let t : List ℕ = each_octets item_row (each_row row_item 6 n (slice 100 1636 s)) ++ replicate (1536 - 6 * n) 0 in
      let g : same ((get_or s 98 0 ∷ get_or s 99 0 ∷ []) ++ t) ((get_or s 98 0 ∷ get_or s 99 0 ∷ []) ++ slice 100 1636 s) ≡ same t (slice 100 1636 s) =
      same_append (get_or s 98 0 ∷ get_or s 99 0 ∷ []) (get_or s 98 0 ∷ get_or s 99 0 ∷ []) t (slice 100 1636 s) refl ∙ ap (◌&& same t (slice 100 1636 s)) (same_self (get_or s 98 0 ∷ get_or s 99 0 ∷ [])) in
      let a : list_octets 1536 item_row (lists_in s).items ≡ (get_or s 98 0 ∷ get_or s 99 0 ∷ []) ++ t =
      ap (λ (is : List Item). list_octets 1536 item_row is) i ∙ (rw (length_rows row_item 6 n (slice 100 1636 s), r, f)) in
      ap (λ (l : List ℕ). same l (slice 98 1636 s)) a ∙ (ap (same ((get_or s 98 0 ∷ get_or s 99 0 ∷ []) ++ t)) count_front
      ∙ (g ∙ (rw k at (rows_same n (slice 100 1636 s) (λ i. rw (get_or-drop 100 (take 1636 s) i 0) (octets_front s 1636 o (100 + i))) (omega arith)))))

  pub none_same : same (list_octets 1536 item_row []) (slice 98 1636 s) ≡ zeros (slice 98 1636 s)
  none_same =
      let k : length (slice 98 1636 s) ≡ 1538 = length-slice 98 1636 s h in
      ap (λ (l : List ℕ). same l (slice 98 1636 s)) (sym none_octets) ∙ (rw k at (same_zeros (slice 98 1636 s)))

-- fewer octets than a record's have no items
pub items_short : (s : List ℕ) (is : List Item) → length s < 1636 → length is ≤ 256 → same (list_octets 1536 item_row is) (slice 98 1636 s) ≡ false
items_short s is h b =
    let a : length (list_octets 1536 item_row is) ≡ 1538 =
    length-append (number_octets 2 (length is)) (fill 0 1536 (each_octets item_row is))
    ∙ (let r = each_size item_row 6 length_row is in rw (length_number 2 (length is), length_fill 0 1536 (each_octets item_row is) (omega arith))) in
    let c : length (slice 98 1636 s) ≡ min 1636 (length s) - 98 = length-drop 98 (take 1636 s) ∙ ap (◌- 98) (length-take 1636 s) in
    same_long (list_octets 1536 item_row is) (slice 98 1636 s) (λ e. omega arith)

-- ---- a loop over the rows

-- i of n rows are passed, and good says whether all of them were good
pub record GoodTo (p : List ℕ) (n : ℕ) (good : Bool) (i : ℕ) : Type 0 where
  pub within : i ≤ n
  pub rest : (good && item_rows_good (n - i) (drop (6 * i) p)) ≡ item_rows_good n p

pub good_none : (p : List ℕ) (n : ℕ) → GoodTo p n true 0
good_none p n = record { within = omega arith; rest = rw (sub-zero n) }

module _ {p : List ℕ} {n : ℕ} {good : Bool} {i : ℕ} (g : GoodTo p n good i) where
  pub good_more : {x y : Bool} → i < n → x ≡ half_good (get_or p (6 * i) 0) (get_or p (6 * i + 1) 0) (get_or p (6 * i + 2) 0)
      → y ≡ half_good (get_or p (6 * i + 3) 0) (get_or p (6 * i + 4) 0) (get_or p (6 * i + 5) 0) → GoodTo p n (good && (x && y)) (i + 1)
  unfolding item_rows_good
  good_more {x} {y} h e f =
      let s : n - i ≡ suc (n - (i + 1)) = omega arith in
      let k : 6 * (i + 1) ≡ 6 * i + 6 = omega arith in
      let d : get_or (drop (6 * i) p) 0 0 ≡ get_or p (6 * i) 0 = get_or-drop (6 * i) p 0 0 ∙ ap (λ (k : ℕ). get_or p k 0) (add-zero (6 * i)) in
      let r : (x && y) ≡ item_row_good (drop (6 * i) p) =
      rw (d, get_or-drop (6 * i) p 1 0, get_or-drop (6 * i) p 2 0, get_or-drop (6 * i) p 3 0, get_or-drop (6 * i) p 4 0, get_or-drop (6 * i) p 5 0, e, f) in
      let t : drop (6 * (i + 1)) p ≡ drop 6 (drop (6 * i) p) = rw k (sym (drop-drop 6 (6 * i) p)) in
      record {
        within = omega arith;
        rest = and_assoc good (x && y) (item_rows_good (n - (i + 1)) (drop (6 * (i + 1)) p)) ∙ ((rw (r, t)) ∙ (rw s at g.rest));
      }

  pub good_all : n ≤ i → good ≡ item_rows_good n p
  unfolding item_rows_good
  good_all h = let z : n - i ≡ 0 = omega (arith, g.within) in sym (and-true good) ∙ (rw z at g.rest)
