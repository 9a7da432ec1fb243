-- Rows put one by one. What was put before reading stopped is put over: octets put at a place over fewer at that place leave those alone.
-- Assumes nothing.
use Rattle.identity.specs.declared.MceId.{MceId}
use Rattle.identity.specs.declared.MmeId.{MmeId}
use mathlib.Core.Path.{◌≡◌, ◌∙◌, refl, sym, ap, subst}
use mathlib.Core.Bool.{Bool, true, false}
use mathlib.Core.List.{List, [], ◌∷◌, ◌++◌, append_assoc, append-nil}
use Prim.Native.Nat.{ℕ, suc, ◌*◌, ◌-◌, ◌/◌, ◌%◌, ◌<◌, ◌≤◌}
use native.Mathlib.Omega.{arith}
use borrow.Author.Tests.{eq-eqb, ne_eqb}
use lib.Dec.{eqb}
use lib.ListN.{length, length-append, length-replicate, replicate, set}
use lib.Seq.{sets, set-set, set_comm}
use Rattle.lists.specs.Lists.{pick}
use Rattle.std.specs.Prelude.{Ok, Err, None, Option, Some}
use Rattle.octets.specs.Read.{Read, or_none}
use Rattle.octets.specs.Field.{number_at}
use Rattle.octets.specs.declared.Stop.{Stop}
use Rattle.octets.proofs.Got.{number_got}
use Rattle.octets.proofs.Again.{value_below}
use Rattle.octets.specs.Many.{each_octets, Each}
use Rattle.octets.specs.Write.{Wrote, number_octets}
use Rattle.octets.specs.Stands.{Octets}
use Rattle.octets.proofs.Back.{length_number}
use Rattle.octets.proofs.Writing.{wrote_length, number_two}
use Rattle.octets.proofs.EachWritten.{each_size}
use Rattle.identity.specs.declared.Item.{Item}
use Rattle.items.specs.Written.{GoodItem}
use Rattle.layout.specs.Rows.{mme_row, mce_row, item_row, list_octets}
use Rattle.item_words.specs.Words.{word_of, mme_by, mce_by, item_of}
use Rattle.item_words.proofs.Back.{item_back}

-- ---- over

module _ {A : Type 0} where
  set_sets : (l : List A) (i j : ℕ) (w : A) (vs : List A) → i < j → set (sets l j vs) i w ≡ sets (set l i w) j vs
  set_sets l i j w [] h = refl
  set_sets l i j w (v ∷ vs) h = set_sets (set l j v) i (suc j) w vs (omega arith) ∙ ap (λ (m : List A). sets m (suc j) vs) (set_comm l j i v w (λ e. omega arith))

  sets_over : (l : List A) (at : ℕ) (vs ws : List A) → length vs ≤ length ws → sets (sets l at vs) at ws ≡ sets l at ws
  sets_over l at [] ws h = refl
  sets_over l at (v ∷ vs) [] h = absurd (omega arith)
  sets_over l at (v ∷ vs) (w ∷ ws) h =
      let e : set (sets (set l at v) (suc at) vs) at w ≡ sets (set l at w) (suc at) vs = set_sets (set l at v) at (suc at) w vs (omega arith) ∙ ap (λ (m : List A). sets m (suc at) vs) (set-set l at v w) in
      ap (λ (m : List A). sets m (suc at) ws) e ∙ sets_over (set l at w) (suc at) vs ws (omega arith)

pub wrote_over : {l vs m ws k : List ℕ} {at r q : ℕ} → Wrote l at vs m r → length vs ≤ length ws → Wrote m at ws k q → Wrote l at ws k q
wrote_over {l} {vs} {m} {ws} {k} {at} w h x =
    let n = wrote_length w in
    let y = x.next in
    record { octets = x.octets ∙ (ap (λ (o : List ℕ). sets o at ws) w.octets ∙ sets_over l at vs ws h); next = omega arith }

-- ---- a row

pub half_zeros : (n : ℕ) → n ≡ 0 → mme_row (mme_by n) ≡ 0 ∷ 0 ∷ 0 ∷ []
half_zeros n e = rw (eq-eqb n 0 e)

pub half_octets_lem : (n : ℕ) → (n ≡ 0 → ⊥) → mme_row (mme_by n) ≡ 1 ∷ ((n - 1) % 65536 / 256) ∷ ((n - 1) % 65536 % 256) ∷ []
half_octets_lem n h = rw (ne_eqb n 0 h, number_two ((n - 1) % 65536) (omega arith))

series_row : (n : ℕ) → mce_row (mce_by n) ≡ mme_row (mme_by n)
series_row n = by (eqb n 0)
  where
    by : (b : Bool) → mce_row (pick b None (Some (record { 0 = (n - 1) % 65536 }))) ≡ mme_row (pick b None (Some (record { 0 = (n - 1) % 65536 })))
    by true = refl
    by false = refl

pub row_octets_lem : (w : ℕ) → item_row (item_of w) ≡ mme_row (mme_by (w % 4294967296)) ++ mme_row (mme_by (w / 4294967296))
row_octets_lem w = rw (series_row (w / 4294967296))

-- ---- rows, by the words of items

abbrev pub word_row : Item → List ℕ
word_row i = item_row (item_of (word_of i))

pub length_row : (i : Item) → length (item_row i) ≡ 6
unfolding number_octets
length_row i = by i.mme i.mce
  where
    by : (m : Option MmeId) (c : Option MceId) → length (mme_row m ++ mce_row c) ≡ 6
    by (Some v) (Some w) = refl
    by (Some v) None = refl
    by None (Some w) = refl
    by None None = refl

pub rows_small : (is : List Item) {i n : ℕ} → i ≡ length is → i ≤ n → n ≤ 256 → length (number_octets 2 n ++ each_octets word_row is) ≤ length (replicate {A = ℕ} 1538 0)
rows_small is {i} {n} e h b =
    let a = each_size word_row 6 (λ i. length_row (item_of (word_of i))) is in
    rw (length-append (number_octets 2 n) (each_octets word_row is), length_number 2 n, length-replicate) (omega arith)

each_back : (is : List Item) → Each GoodItem is → each_octets word_row is ≡ each_octets item_row is
each_back [] g = refl
each_back (i ∷ is) g = ap (λ (j : Item). item_row j ++ each_octets word_row is) (item_back i g.0) ∙ ap (item_row i ++◌) (each_back is g.1)

-- all of a list's octets
pub list_octets_lem : (is : List Item) {n : ℕ} → n ≡ length is → Each GoodItem is → list_octets 1536 item_row is ≡ number_octets 2 n ++ (each_octets word_row is ++ replicate (1536 - 6 * n) 0)
list_octets_lem is {n} e g = let a = each_size item_row 6 length_row is in rw (each_back is g, a, e)

pub none_octets : replicate 1538 0 ≡ list_octets 1536 item_row []
unfolding number_octets
none_octets = refl

pub rows_more : (is : List Item) (v : Item) {w : ℕ} → w ≡ word_of v → each_octets word_row (is ++ v ∷ []) ≡ each_octets word_row is ++ item_row (item_of w)
rows_more is v {w} e = more is ∙ ap (λ (x : ℕ). each_octets word_row is ++ item_row (item_of x)) (sym e)
  where
    more : (js : List Item) → each_octets word_row (js ++ v ∷ []) ≡ each_octets word_row js ++ word_row v
    more [] = append-nil (word_row v)
    more (j ∷ js) = ap (word_row j ++◌) (more js) ∙ sym (append_assoc (word_row j) (each_octets word_row js) (word_row v))

-- ---- what was read, as it stands in the room

module _ {l m : List ℕ} {at r : ℕ} {q : Read (List Item)} where
  pub out_none : {x : Stop} → Err x ≡ q → Wrote l at (replicate 1538 0) m r → Wrote l at (list_octets 1536 item_row (or_none q)) m r
  out_none e w = subst (λ (vs : List ℕ). Wrote l at vs m r) (none_octets ∙ ap (λ (y : Read (List Item)). list_octets 1536 item_row (or_none y)) e) w

  pub out_all : (is : List Item) {n : ℕ} → Ok is ≡ q → n ≡ length is → Each GoodItem is
      → Wrote l at (number_octets 2 n ++ (each_octets word_row is ++ replicate (1536 - 6 * n) 0)) m r → Wrote l at (list_octets 1536 item_row (or_none q)) m r
  out_all is e k g w = subst (λ (vs : List ℕ). Wrote l at vs m r) (sym (list_octets_lem is k g) ∙ ap (λ (y : Read (List Item)). list_octets 1536 item_row (or_none y)) e) w

pub octet_small : (s : List ℕ) (at : ℕ) {v : ℕ} → Octets s → Ok v ≡ number_at 1 s at → v < 256
octet_small s at o q = rw (number_got s at 1 q).1 (value_below 1 s at o)
