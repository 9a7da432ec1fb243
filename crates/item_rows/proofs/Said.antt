-- What rows say: the item of each row, by the word that its octets make. An octet that is missing is taken for 0.
--     length_rows, row_at      the rows one by one
--     half_said                the half of a word that three octets say
--     row_item_lem, row_word       the item that such a word says is the row's
--     said_octets, sized_row   their octets in a message
-- Assumes nothing.
use Rattle.std.specs.Prelude.{None, Some}
use mathlib.Core.Path.{◌≡◌, ◌∙◌, refl, sym, ap}
use mathlib.Core.Bool.{Bool, true, false}
use mathlib.Core.List.{List, [], ◌∷◌, ◌++◌}
use Prim.Native.Nat.{ℕ, zero, suc, min, ◌+◌, ◌*◌, ◌-◌, ◌^◌, ◌<◌, ◌≤◌}
use native.Mathlib.Nat.{add-zero, mul-zero, mul-suc}
use native.Mathlib.Omega.{arith}
use lib.Dec.{eqb}
use lib.ListN.{length, length-append, take, drop, get_or}
use lib.Seq.{get_or-drop, drop-drop, take_all}
use Rattle.lists.specs.Lists.{pick}
use Rattle.octets.specs.Field.{value_at}
use Rattle.octets.specs.Many.{each_octets}
use Rattle.octets.specs.Stands.{Octets}
use Rattle.octets.proofs.Again.{value_below}
use Rattle.octets.proofs.Writing.{number_one}
use Rattle.octets.proofs.EachWritten.{each_take}
use Rattle.identity.specs.declared.Item.{Item}
use Rattle.identity.specs.Items.{empty_item}
use Rattle.items.specs.Written.{mme_in, mce_in, GoodMaybe, GoodItem, item_element_octets, items_octets}
use Rattle.put_values.proofs.Put.{Sized}
use Rattle.layout.specs.Rows.{row_mme, row_mce, row_item, each_row}
use Rattle.layout.specs.Record.{lists_in}
use Rattle.item_words.specs.Words.{mme_number, mce_number, word_of, item_of, there_in}
use Rattle.item_words.proofs.Back.{item_back}
use Rattle.item_words.proofs.Written.{size_by_halves}
use Rattle.item_rows.specs.Tests.{half_of}

-- ---- rows

pub length_rows : {A : Type 0} (one : List ℕ → A) (w n : ℕ) (s : List ℕ) → length (each_row one w n s) ≡ n
unfolding each_row
length_rows one w zero s = refl
length_rows one w (suc n) s = ap suc (length_rows one w n (drop w s))

pub row_at : {A : Type 0} (one : List ℕ → A) (w n : ℕ) (s : List ℕ) (i : ℕ) (d : A) → i < n → get_or (each_row one w n s) i d ≡ one (drop (w * i) s)
unfolding each_row
row_at one w zero s i d h = absurd (omega arith)
row_at one w (suc n) s zero d h = rw (mul-zero w)
row_at one w (suc n) s (suc i) d h =
    let e : w + w * i ≡ w * suc i = rw (mul-suc w i) (omega arith) in
    row_at one w n (drop w s) i d (omega arith) ∙ ap one (drop-drop (w * i) w s ∙ ap (λ (k : ℕ). drop k s) e)

-- how many rows are said
pub count_said : (s : List ℕ) → length (lists_in s).items ≡ min (value_at 2 s 98) 256
count_said s = length_rows row_item 6 (min (value_at 2 s 98) 256) (drop 100 s)

-- ---- a word

module _ (s : List ℕ) (at : ℕ) where
  first_drop : get_or (drop at s) 0 0 ≡ get_or s at 0
  first_drop = get_or-drop at s 0 0 ∙ ap (λ (k : ℕ). get_or s k 0) (add-zero at)

  pub half_said : {a b : ℕ} → a ≡ at + 1 → b ≡ at + 2 → half_of (get_or s at 0) (get_or s a 0) (get_or s b 0) ≡ mme_number (row_mme (drop at s))
  half_said e f = rw (e, f, first_drop, get_or-drop at s 1 0, get_or-drop at s 2 0) (by (eqb (get_or s at 0) 0) (get_or s (at + 1) 0) (get_or s (at + 2) 0))
    where
      by : (b : Bool) (h l : ℕ) → pick b 0 (h * 256 + l + 1) ≡ mme_number (pick b None (Some (record { 0 = h * 256 ^ 1 + (l * 256 ^ 0 + 0) })))
      by true h l = refl
      by false h l = omega arith

  pub octets_drop : Octets s → Octets (drop at s)
  octets_drop o i = rw (get_or-drop at s i 0) (o (at + i))

-- the two series say their numbers alike
pub series_alike : (p : List ℕ) → mce_number (row_mce p) ≡ mme_number (row_mme p)
series_alike p = by (eqb (get_or p 0 0) 0)
  where
    by : (b : Bool) → mce_number (pick b None (Some (record { 0 = value_at 2 p 1 }))) ≡ mme_number (pick b None (Some (record { 0 = value_at 2 p 1 })))
    by true = refl
    by false = refl

pub word_said : (s : List ℕ) (at : ℕ) {m c : ℕ} → m ≡ mme_number (row_mme (drop at s)) → c ≡ mme_number (row_mme (drop (at + 3) s)) → m + c * 4294967296 ≡ word_of (row_item (drop at s))
word_said s at {m} {c} e f =
    let d : drop 3 (drop at s) ≡ drop (at + 3) s = drop-drop 3 at s in
    let g : c ≡ mce_number (row_mce (drop 3 (drop at s))) = f ∙ (ap (λ (p : List ℕ). mme_number (row_mme p)) (sym d) ∙ sym (series_alike (drop 3 (drop at s)))) in
    rw (e, g)

good_row : (p : List ℕ) → Octets p → GoodItem (row_item p)
good_row p o = (mme_good (eqb (get_or p 0 0) 0), mce_good (eqb (get_or (drop 3 p) 0 0) 0))
  where
    mme_good : (b : Bool) → GoodMaybe (mme_in (pick b None (Some (record { 0 = value_at 2 p 1 }))))
    mme_good true = tt
    mme_good false = value_below 2 p 1 o

    mce_good : (b : Bool) → GoodMaybe (mce_in (pick b None (Some (record { 0 = value_at 2 (drop 3 p) 1 }))))
    mce_good true = tt
    mce_good false = value_below 2 (drop 3 p) 1 (octets_drop p 3 o)

pub row_item_lem : (s : List ℕ) (i : ℕ) → i < length (lists_in s).items → get_or (lists_in s).items i empty_item ≡ row_item (drop (100 + 6 * i) s)
row_item_lem s i h =
    let n = count_said s in
    row_at row_item 6 (min (value_at 2 s 98) 256) (drop 100 s) i empty_item (omega arith) ∙ ap (λ (p : List ℕ). row_item p) (drop-drop (6 * i) 100 s)

pub row_word : (s : List ℕ) (i : ℕ) {w : ℕ} → Octets s → i < length (lists_in s).items → w ≡ word_of (row_item (drop (100 + 6 * i) s)) → item_of w ≡ get_or (lists_in s).items i empty_item
row_word s i o h e = rw (row_item_lem s i h, e) (item_back (row_item (drop (100 + 6 * i) s)) (good_row (drop (100 + 6 * i) s) (octets_drop s (100 + 6 * i) o)))

-- ---- octets in a message

pub said_octets : (crit : ℕ) (is : List Item) {x : ℕ} → length is ≤ 256 → x ≡ min (length is - 1) 255 → items_octets crit is ≡ (x ∷ []) ++ each_octets (item_element_octets crit) is
unfolding items_octets
said_octets crit is {x} h e =
    let f : length is - 1 ≡ x = omega arith in
    rw (f, number_one x (omega arith))

-- by the flags of a row
pub row_sized : (s : List ℕ) (at : ℕ) {x y a b : ℕ} → x ≡ get_or s at 0 → y ≡ get_or s (at + 3) 0 → a ≡ there_in x → b ≡ there_in y
    → (crit : ℕ) → 5 + 2 * a + 2 * b ≡ length (item_element_octets crit (row_item (drop at s)))
row_sized s at e f g h crit =
    let u = g ∙ ap (λ (k : ℕ). there_in k) (e ∙ sym (first_drop s at)) in
    let v = h ∙ ap (λ (k : ℕ). there_in k) (f ∙ (sym (first_drop s (at + 3)) ∙ ap (λ (l : List ℕ). get_or l 0 0) (sym (drop-drop 3 at s)))) in
    rw (u, v) (size_by_halves crit (value_at 2 (drop at s) 1) (value_at 2 (drop 3 (drop at s)) 1) (eqb (get_or (drop at s) 0 0) 0) (eqb (get_or (drop 3 (drop at s)) 0 0) 0))

pub sized_row : (is : List Item) (i : ℕ) {size r : ℕ} → i < length is → Sized is i size → ((crit : ℕ) → r ≡ length (item_element_octets crit (get_or is i empty_item))) → Sized is (i + 1) (size + r)
sized_row is i h s f crit =
    let a = s crit in
    let b = f crit in
    rw (each_take (item_element_octets crit) is i empty_item h, length-append) (omega arith)

pub sized_said : (is : List Item) (i : ℕ) {size : ℕ} → length is ≤ 256 → length is ≤ i → Sized is i size → (crit : ℕ) → size ≡ length (items_octets crit is)
sized_said is i h k s crit =
    let a = s crit in
    let t : take i is ≡ is = take_all i is k in
    rw (said_octets crit is h refl, length-append) (rw t at a)

pub said_small : (s : List ℕ) → length (lists_in s).items ≤ 256
said_small s = let n = count_said s in omega arith

pub count_by : (s : List ℕ) {x y n m r : ℕ} → x ≡ get_or s 98 0 → y ≡ get_or s 99 0 → n ≡ x * 256 + y → m ≡ n → r ≡ min m 256 → r ≡ length (lists_in s).items
count_by s a b c d e = let n = count_said s in omega arith
