-- Items read one after another as words.
--     worded_got, worded_stop                    what a word that was read tells of the item
--     Reading, reading_word ..                   a loop that reads items
--     plain_in, pad_in                           the octet of a Reset Type stands inside
--     then_tt, gate_got                          what a check tells
--     in_list                                    what is known of a list that was checked, by its number
--     all_taking                                 what is known of the words
-- Assumes nothing.
use mathlib.Core.Path.{◌≡◌, ◌∙◌, refl, sym, ap, subst}
use mathlib.Core.List.{List, [], ◌∷◌, ◌++◌, map}
use Prim.Native.Nat.{ℕ, ◌+◌, ◌-◌, ◌<◌, ◌≤◌}
use native.Mathlib.Omega.{arith}
use native.Mathlib.Nat.{sub-zero}
use lib.ListN.{length, length-append}
use Rattle.lists.proofs.Copy.{map-append}
use Rattle.std.specs.Prelude.{Ok, Err}
use Rattle.octets.specs.Read.{Read, ◌>>◌, checked}
use Rattle.octets.specs.Field.{plain_at, pad_at, number_at, ends_at}
use Rattle.octets.specs.Many.{many}
use Rattle.octets.specs.declared.Part.{Part}
use Rattle.octets.specs.Write.{Wrote}
use Rattle.octets.proofs.Got.{plain_got, pad_got}
use Rattle.octets.proofs.Chain.{then_got, same_got, got_stop}
use Rattle.octets.specs.declared.Stop.{Stop}
use Rattle.octets.proofs.ManyLaws.{before, before_none, many_none, many_one, many_stop, many_each}
use Rattle.identity.specs.declared.Item.{Item}
use Rattle.item.specs.Item.{item_element_at}
use Rattle.items.specs.Items.{items_at}
use Rattle.item_words.specs.Words.{word_of}
use Rattle.item_words.specs.Taken.{worded, Filling, Taking}

-- ---- a word

pub worded_got : (r : Read (Part Item)) {w n : ℕ} → Ok (record { value = w; next = n }) ≡ worded r
    → (i : Item) × (w ≡ word_of i) × (Ok (record { value = i; next = n }) ≡ r)
worded_got (Ok p) {w} {n} q =
    let f : n ≡ p.next = ap (λ (x : Part ℕ). x.next) (same_got q) in
    (p.value, ap (λ (x : Part ℕ). x.value) (same_got q), rw f refl)
worded_got (Err x) q = got_stop q

pub worded_stop : (r : Read (Part Item)) {x : Stop} → Err x ≡ worded r → Err x ≡ r
worded_stop (Ok p) q = got_stop (sym q)
worded_stop (Err y) q = cc

-- ---- a loop

-- n of one kind, from the place from on: those of the list are read, i of them, and the next begins at at
pub record Reading {A : Type 0} (one : ℕ → Read (Part A)) (n from : ℕ) (list : List A) (i at : ℕ) : Type 0 where
  pub within : i ≤ n
  pub count : i ≡ length list
  pub rest : before list (many one (n - i) at) ≡ many one n from

module _ {A : Type 0} {one : ℕ → Read (Part A)} {n from : ℕ} where
  pub reading_none : Reading one n from [] 0 from
  reading_none = record { within = omega arith; count = refl; rest = rw sub-zero (before_none _) }

  module _ {list : List A} {i at : ℕ} (g : Reading one n from list i at) where
    pub reading_more : (p : Part A) → i < n → Ok p ≡ one at → Reading one n from (list ++ p.value ∷ []) (i + 1) p.next
    reading_more p h q =
        let k : n - (i + 1) ≡ n - i - 1 = omega arith in
        record { within = omega arith; count = rw length-append (omega (arith, g.count)); rest = rw k (many_one one list (n - i) at (λ e. omega arith) p q ∙ g.rest) }

    pub reading_stop : (x : Stop) → i < n → Err x ≡ one at → Err x ≡ many one n from
    reading_stop x h q = many_stop one list (n - i) at (λ e. omega arith) x q ∙ g.rest

    pub reading_all : n ≤ i → Ok (record { value = list; next = at }) ≡ many one n from
    reading_all h = many_none one list (n - i) at (omega arith) ∙ g.rest

-- one item more, known by its word
pub reading_word : {one : ℕ → Read (Part Item)} {n from : ℕ} {list : List Item} {i at : ℕ} → Reading one n from list i at → {w e : ℕ} → i < n → Ok (record { value = w; next = e }) ≡ worded (one at)
    → (v : Item) × (w ≡ word_of v) × Reading one n from (list ++ v ∷ []) (i + 1) e
reading_word {one} {at = at} g h q = let v = worded_got (one at) q in (v.0, v.1, reading_more g _ h v.2)

pub words_more : {w : ℕ} (is : List Item) (i : Item) → w ≡ word_of i → map word_of (is ++ i ∷ []) ≡ map word_of is ++ w ∷ []
words_more is i e = map-append word_of is (i ∷ []) ∙ ap (λ (x : ℕ). map word_of is ++ x ∷ []) (sym e)

-- ---- the octet of a Reset Type stands inside

pub plain_in : (s : List ℕ) (at b : ℕ) {u : Unit} → Ok u ≡ plain_at s at b → at + 1 ≤ length s
plain_in s at b q = (plain_got s at b q).0

pub pad_in : (s : List ℕ) (at : ℕ) {u : Unit} → Ok u ≡ pad_at s at 2 → at + 1 ≤ length s
pad_in s at q = (pad_got s at 2 (omega arith) q).0

-- ---- a check

pub then_tt : {A : Type 0} (x : Read Unit) (a : A) → x ≡ checked (x >> Ok a)
then_tt (Ok tt) a = refl
then_tt (Err x) a = refl

pub gate_got : {A : Type 0} (x : Read A) → Ok tt ≡ checked x → (a : A) × (Ok a ≡ x)
gate_got (Ok a) q = (a, refl)
gate_got (Err x) q = got_stop q

pub in_list : (s : List ℕ) (at : ℕ) {v : ℕ} → Ok v ≡ number_at 1 s at → Ok tt ≡ checked (items_at s at)
    → (p : Part (List Item)) × (Ok p ≡ many (item_element_at s) (v + 1) (at + 1)) × (Ok p.value ≡ items_at s at) × (length p.value ≡ v + 1)
unfolding items_at
in_list s at {v} h c =
    let l = gate_got (items_at s at) c in
    let a = then_got (number_at 1 s at) _ l.1 in
    let e : v ≡ a.0 = same_got (h ∙ sym a.1) in
    let b = then_got (many (item_element_at s) (a.0 + 1) (at + 1)) _ a.2 in
    let d = then_got (ends_at s b.0.next) _ b.2 in
    let m : Ok b.0 ≡ many (item_element_at s) (v + 1) (at + 1) = rw e b.1 in
    (b.0, m, sym d.2 ∙ l.1, (many_each (item_element_at s) (λ (i : Item). Unit) (λ at p q. tt) (v + 1) (at + 1) b.0 m).0)

-- ---- the words

pub all_taking : {r : Read (List Item)} {f : Read (Part (List Item))} (p : Part (List Item)) (l m : List ℕ) (k : ℕ) {n : ℕ}
    → Ok p ≡ f → Ok p.value ≡ r → length p.value ≡ n → Filling f l m k → Taking r l (Ok n) m
all_taking {r} {f} p l m k {n} q e h w =
    let v : Wrote l 0 (map word_of p.value) m k = subst (λ (y : Read (Part (List Item))). Filling y l m k) (sym q) w in
    subst (λ (y : Read (List Item)). Taking y l (Ok n) m) e (ap Ok (sym h), v.octets)
