-- The octets of the item that a word says, from the word's halves: whichever identities are there, the item's octets are these runs. And lists of them.
-- Assumes nothing.
use Rattle.std.specs.Prelude.{None, Some}
use mathlib.Core.Path.{◌≡◌, ◌∙◌, refl, sym, ap, subst}
use mathlib.Core.Bool.{Bool, true, false, not}
use mathlib.Core.List.{List, [], ◌∷◌, ◌++◌, map}
use Prim.Native.Nat.{ℕ, suc, min, ◌+◌, ◌*◌, ◌-◌, ◌/◌, ◌%◌, ◌≤◌, ◌<◌}
use native.Mathlib.Omega.{arith}
use borrow.Author.Tests.{ne_eqb}
use lib.Dec.{eqb}
use lib.ListN.{length, length-append, length-map, length-take, take, get_or, set}
use lib.Seq.{take_all, sets, get_or-set_other}
use Rattle.lists.proofs.Keep.{keep_append, length_keep}
use Rattle.lists.proofs.Slices.{take_next, take_within}
use Rattle.lists.specs.Lists.{pick}
use Rattle.packed.specs.Packed.{◌bits◌, packed, packed_in}
use Rattle.octets.specs.Write.{number_octets, length_octets, Wrote}
use Rattle.octets.specs.Many.{each_octets}
use Rattle.octets.proofs.EachWritten.{each_take}
use Rattle.octets.proofs.Writing.{wrote_then, number_two}
use Rattle.identity.specs.declared.Item.{Item}
use Rattle.items.specs.Written.{item_octets, item_element_octets, items_octets}
use Rattle.item_words.specs.Words.{item_of, identified, there_in, half_octets, IfNine, full_octets}

-- by which identities are there
module _ (crit u v : ℕ) where
  abbrev pub pieces : Bool → Bool → Item
  pieces p q = record { mme = pick p None (Some (record { 0 = u })); mce = pick q None (Some (record { 0 = v })) }

  by_halves : (p q : Bool)
      → ((((0 ∷ 14 ∷ packed (2 bits crit ∷ []) ∷ []) ++ (1 + 2 * pick p 0 1 + 2 * pick q 0 1) ∷ []) ++ (64 * pick p 0 1 + 32 * pick q 0 1) ∷ []) ++ pick p [] (number_octets 2 u)) ++ pick q [] (number_octets 2 v)
      ≡ item_element_octets crit (pieces p q)
  unfolding item_element_octets item_octets number_octets length_octets packed_in
  by_halves true true = refl
  by_halves true false = refl
  by_halves false true = refl
  by_halves false false = refl

  pub size_by_halves : (p q : Bool) → 5 + 2 * pick p 0 1 + 2 * pick q 0 1 ≡ length (item_element_octets crit (pieces p q))
  unfolding item_element_octets item_octets number_octets length_octets packed_in
  size_by_halves true true = refl
  size_by_halves true false = refl
  size_by_halves false true = refl
  size_by_halves false false = refl

module _ (crit w : ℕ) {a b : ℕ} (e : a ≡ there_in (w % 4294967296)) (f : b ≡ there_in (w / 4294967296)) where
  pub word_octets : {x : ℕ} → x ≡ packed (2 bits crit ∷ [])
      → ((((0 ∷ 14 ∷ x ∷ []) ++ (1 + 2 * a + 2 * b) ∷ []) ++ (64 * a + 32 * b) ∷ []) ++ half_octets (w % 4294967296)) ++ half_octets (w / 4294967296) ≡ item_element_octets crit (item_of w)
  word_octets g = rw (e, f, g) (by_halves crit ((w % 4294967296 - 1) % 65536) ((w / 4294967296 - 1) % 65536) (eqb (w % 4294967296) 0) (eqb (w / 4294967296) 0))

  pub word_length : 5 + 2 * a + 2 * b ≡ length (item_element_octets crit (item_of w))
  word_length = rw (e, f) (size_by_halves crit ((w % 4294967296 - 1) % 65536) ((w / 4294967296 - 1) % 65536) (eqb (w % 4294967296) 0) (eqb (w / 4294967296) 0))

-- an item with both identities
pub full_octets_lem : (crit w : ℕ) {x : ℕ} → 0 < w % 4294967296 → 0 < w / 4294967296 → x ≡ packed (2 bits crit ∷ [])
    → full_octets x ((w % 4294967296 - 1) % 65536) ((w / 4294967296 - 1) % 65536) ≡ item_element_octets crit (item_of w)
full_octets_lem crit w h k e =
    let u = number_two ((w % 4294967296 - 1) % 65536) (omega arith) in
    let v = number_two ((w / 4294967296 - 1) % 65536) (omega arith) in
    rw (ne_eqb (w % 4294967296) 0 (λ z. omega arith), ne_eqb (w / 4294967296) 0 (λ z. omega arith), ← by_halves crit ((w % 4294967296 - 1) % 65536) ((w / 4294967296 - 1) % 65536) false false, u, v, e)

pub if_nine : (b : Bool) (m c at room : ℕ) → b ≡ true → IfNine b m c at room → (0 < m) × (0 < c) × (at + 9 ≤ room)
if_nine b m c at room e h = subst (λ (t : Bool). IfNine t m c at room) e h

pub word_small : (w : ℕ) {r : ℕ} → ((crit : ℕ) → r ≡ length (item_element_octets crit (item_of w))) → r ≤ 9
word_small w e = small (there_in (w % 4294967296)) (there_in (w / 4294967296)) (one (eqb (w % 4294967296) 0)) (one (eqb (w / 4294967296) 0)) (e 0 ∙ sym (word_length 0 w refl refl))
  where
    one : (p : Bool) → pick p 0 1 ≤ 1
    one true = omega arith
    one false = omega arith

    small : (a b : ℕ) {r : ℕ} → a ≤ 1 → b ≤ 1 → r ≡ 5 + 2 * a + 2 * b → r ≤ 9
    small a b g h e = omega arith

-- ---- lists

each_in : (octets : Item → List ℕ) (ws : List ℕ) → each_octets octets (map item_of ws) ≡ each_octets (λ (w : ℕ). octets (item_of w)) ws
each_in octets [] = refl
each_in octets (w ∷ ws) = ap (octets (item_of w) ++◌) (each_in octets ws)

pub words_octets : (crit : ℕ) (ws : List ℕ) → items_octets crit (map item_of ws) ≡ (((length ws - 1) % 256) ∷ []) ++ each_octets (λ (w : ℕ). item_element_octets crit (item_of w)) ws
unfolding items_octets number_octets
words_octets crit ws =
    let e : (length ws - 1) / 1 % 256 ≡ (length ws - 1) % 256 = omega arith in
    rw (length-map ws item_of, e, each_in (item_element_octets crit) ws)

-- the size of the first i words' octets and the count's, of whatever criticality
abbrev pub WordsSized : List ℕ → ℕ → ℕ → Type 0
WordsSized ws i size = (crit : ℕ) → size ≡ 1 + length (each_octets (λ (w : ℕ). item_element_octets crit (item_of w)) (take i ws))

pub sized_word : (ws : List ℕ) (i : ℕ) {size r : ℕ} → i < length ws → WordsSized ws i size → ((crit : ℕ) → r ≡ length (item_element_octets crit (item_of (get_or ws i 0)))) → WordsSized ws (i + 1) (size + r)
sized_word ws i h s e crit =
    let a = s crit in
    let b = e crit in
    rw (each_take (λ (w : ℕ). item_element_octets crit (item_of w)) ws i 0 h, length-append) (omega arith)

pub sized_words : (ws : List ℕ) (i : ℕ) {size : ℕ} → length ws ≤ i → WordsSized ws i size → (crit : ℕ) → size ≡ length (items_octets crit (map item_of ws))
sized_words ws i h s crit = let a = s crit in let t : take i ws ≡ ws = take_all i ws h in rw (words_octets crit ws, length-append) (rw t at a)

-- ---- words kept

get_d_sets : (l : List ℕ) (at : ℕ) (vs : List ℕ) (i : ℕ) → at + length vs ≤ i → get_or (sets l at vs) i 0 ≡ get_or l i 0
get_d_sets l at [] i h = refl
get_d_sets l at (v ∷ vs) i h = get_d_sets (set l at v) (suc at) vs i (omega arith) ∙ get_or-set_other l at i v 0 (λ e. omega arith)

module _ (l : List ℕ) (i : ℕ) {m : List ℕ} {k : ℕ} (g : Wrote l 0 (identified (take i l)) m k) where
  -- what was not passed stands as it was
  pub not_passed : get_or m i 0 ≡ get_or l i 0
  not_passed =
      let a = length_keep (λ (w : ℕ). not (eqb w 0)) (take i l) in
      let b = length-take i l in
      rw g.octets (get_d_sets l 0 (identified (take i l)) i (omega arith))

  pub keep_more : {w r : ℕ} {o : List ℕ} → i < length l → w ≡ get_or m i 0 → Wrote m k (identified (w ∷ [])) o r → Wrote l 0 (identified (take (i + 1) l)) o r
  keep_more {w} h e x = rw (take_next l i 0 h, keep_append (λ (v : ℕ). not (eqb v 0)) (take i l) (get_or l i 0 ∷ []), ← not_passed, ← e) (wrote_then g x)

pub kept_all : (l : List ℕ) (n i : ℕ) {m : List ℕ} {k : ℕ} → i ≡ min n (length l) → Wrote l 0 (identified (take i l)) m k
    → (k ≡ length (identified (take n l))) × (m ≡ sets l 0 (identified (take n l)))
kept_all l n i {m} {k} e g =
    let t : take i l ≡ take n l = take_within l n (length l) refl e in
    let a = length_keep (λ (w : ℕ). not (eqb w 0)) (take n l) in
    let b = length-take n l in
    let h : Wrote l 0 (identified (take n l)) m k = rw t at g in
    let x = h.next in
    (omega arith, h.octets)
