-- The items of a message: what was read is in range, so their words say them again; those with an identity are the words that are not 0; and an item without one
-- names nothing, so that a partial reset leaves the same without it.
-- Assumes nothing.
use Rattle.identity.specs.declared.MceId.{MceId}
use Rattle.identity.specs.declared.MmeId.{MmeId}
use Prim.Native.Nat.{ℕ, ◌+◌, ◌*◌, ◌≤◌}
use mathlib.Core.Path.{◌≡◌, ◌∙◌, refl, sym, ap, subst}
use mathlib.Core.Bool.{Bool, true, false, not, ◌||◌}
use mathlib.Core.List.{List, [], ◌∷◌, ◌++◌, map}
use native.Mathlib.Omega.{arith}
use borrow.Author.Tests.{ne_eqb}
use lib.Dec.{eqb}
use lib.ListN.{length, length-map, take, drop}
use lib.Seq.{sets, sets-eq, length-sets, take-append_seam, take_all}
use Rattle.lists.specs.Lists.{pick, keep, some}
use Rattle.lists.proofs.Keep.{length_keep, keep_cong}
use Rattle.lists.proofs.Tests.{on-pick}
use Rattle.std.specs.Prelude.{Ok, Err, None, Option, Some}
use Rattle.octets.specs.Read.{Read, ◌>>=◌}
use Rattle.octets.specs.Stands.{Octets}
use Rattle.octets.specs.Many.{Each}
use Rattle.octets.specs.declared.Span.{Span}
use Rattle.octets.specs.Span.{present}
use Rattle.octets.proofs.Chain.{then_got, same_got}
use Rattle.octets.proofs.Stood.{octets_front}
use Rattle.identity.specs.declared.Item.{Item}
use Rattle.values.specs.Values.{mme_at, mce_at, tmgi_at, one_at, two_at, cause_at, wait_at}
use Rattle.names.specs.Names.{name_at}
use Rattle.items.specs.Items.{ResetType, whole, part, items_at, reset_at}
use Rattle.items.specs.Written.{GoodItem, GoodReset}
use Rattle.items.proofs.Good.{items_good, reset_good_lem}
use Rattle.diagnostics.specs.Diagnostics.{diagnostics_at}
use Rattle.item_words.specs.Words.{mme_number, mce_number, word_of, item_of, identified}
use Rattle.item_words.proofs.Back.{items_back}
use Rattle.rows.specs.declared.Kind.{Kind}
use Rattle.rows.specs.declared.Kind.TheVariants as kind
use Rattle.rows.specs.declared.Row.{Row}
use Rattle.rows.specs.Table.{meanings}
use Rattle.meaning.specs.Value as value
use Rattle.meaning.specs.Value.{Value, Given, given}
use Rattle.meaning.specs.Reading.{read_as, or_absent, value_in, values_in}
use Rattle.layout.specs.Record.{lists_of}
use Rattle.table.specs.declared.Association.{Association}
use Rattle.table.specs.Table.{State, names, named, without}
use Rattle.replies.specs.Replies.{has_identity}

-- ---- what was read

-- at most 256, in range
pub record ItemsFit (is : List Item) : Type 0 where
  pub few : length is ≤ 256
  pub each : Each GoodItem is

-- what holds of each value that a reading gives holds of the value that was read
of_read : {A : Type 0} (P : Value Span → Type 0) (put : A → Value Span) (r : Read A) {v : Value Span} → Ok v ≡ r >>= (λ x. Ok (put x)) → ((a : A) → Ok a ≡ r → P (put a)) → P v
of_read P put r q h = let a = then_got r _ q in subst P (sym (same_got a.2)) (h a.0 a.1)

module _ (s : List ℕ) (o : Octets s) where
  module _ (p : Span) (vs : List (Given Span)) (g : ItemsFit (lists_of vs).items) where
    cut : Octets (take p.to s)
    cut = octets_front s p.to o

    With : Value Span → Type 0
    With v = ItemsFit (lists_of (given v ∷ vs)).items

    with_reset_lem : (r : ResetType) → GoodReset r → With (value.reset r)
    unfolding With lists_of
    with_reset_lem whole h = g
    with_reset_lem (part is) h = record { few = h.1; each = h.2 }

    read_fits : (k : Kind) {v : Value Span} → Ok v ≡ read_as k s p → With v
    unfolding read_as With lists_of
    read_fits kind.Carried q = subst With (sym (same_got q)) g
    read_fits kind.Mme q = of_read With value.mme (mme_at (take p.to s) p.from) q (λ a h. g)
    read_fits kind.Mce q = of_read With value.mce (mce_at (take p.to s) p.from) q (λ a h. g)
    read_fits kind.Tmgi q = of_read With value.tmgi (tmgi_at (take p.to s) p.from) q (λ a h. g)
    read_fits kind.OneOctet q = of_read With value.one (one_at (take p.to s) p.from) q (λ a h. g)
    read_fits kind.TwoOctets q = of_read With value.two (two_at (take p.to s) p.from) q (λ a h. g)
    read_fits kind.Cause q = of_read With value.cause (cause_at (take p.to s) p.from) q (λ a h. g)
    read_fits kind.Wait q = of_read With value.wait (wait_at (take p.to s) p.from) q (λ a h. g)
    read_fits kind.Name q = of_read With value.name (name_at (take p.to s) p.from) q (λ a h. g)
    read_fits kind.ResetType q = of_read With value.reset (reset_at (take p.to s) p.from) q (λ a h. with_reset_lem a (reset_good_lem (take p.to s) p.from cut h))
    read_fits kind.Acknowledged q = of_read With value.list (items_at (take p.to s) p.from) q (λ a h. let x = items_good (take p.to s) p.from cut h in record { few = x.1; each = x.2 })
    read_fits (kind.Diagnostics t) q = of_read With (value.diagnostics t) (diagnostics_at (meanings t) (take p.to s) p.from) q (λ a h. g)

    value_fits : (k : Kind) → ItemsFit (lists_of (value_in k s p ∷ vs)).items
    unfolding value_in With lists_of
    value_fits k = on-pick (λ (x : Given Span). ItemsFit (lists_of (x ∷ vs)).items) (present p) (by (read_as k s p) refl) g
      where
        by : (r : Read (Value Span)) → r ≡ read_as k s p → ItemsFit (lists_of (or_absent r ∷ vs)).items
        by (Ok v) q = read_fits k q
        by (Err x) q = g

  pub items_fit : (t : List Row) (l : List Span) → ItemsFit (lists_of (values_in t s l)).items
  unfolding values_in lists_of
  items_fit [] l = record { few = omega arith; each = tt }
  items_fit (r ∷ t) [] = record { few = omega arith; each = tt }
  items_fit (r ∷ t) (p ∷ l) = value_fits p (values_in t s l) (items_fit t l) r.kind

-- ---- those with an identity

identity_word : (i : Item) → not (eqb (word_of i) 0) ≡ has_identity i
identity_word i = by i.mme i.mce
  where
    by : (m : Option MmeId) (c : Option MceId) → not (eqb (mme_number m + mce_number c * 4294967296) 0) ≡ has_identity (record { mme = m; mce = c })
    by None None = refl
    by None (Some v) = ap not (ne_eqb (0 + (v.0 + 1) * 4294967296) 0 (λ z. omega arith))
    by (Some v) c = ap not (ne_eqb (v.0 + 1 + mce_number c * 4294967296) 0 (λ z. omega arith))

words_identified : (is : List Item) → identified (map word_of is) ≡ map word_of (keep has_identity is)
words_identified [] = refl
words_identified (i ∷ is) = (λ j. pick (identity_word i j) (word_of i ∷ []) [] ++ words_identified is j) ∙ step (has_identity i)
  where
    step : (b : Bool) → pick b (word_of i ∷ []) [] ++ map word_of (keep has_identity is) ≡ map word_of (pick b (i ∷ []) [] ++ keep has_identity is)
    step true = refl
    step false = refl

each_kept : (is : List Item) → Each GoodItem is → Each GoodItem (keep has_identity is)
each_kept [] g = tt
each_kept (i ∷ is) g = on-pick (λ (x : List Item). Each GoodItem (x ++ keep has_identity is)) (has_identity i) (g.0, each_kept is g.1) (each_kept is g.1)

pub kept_fit : (is : List Item) → ItemsFit is → ItemsFit (keep has_identity is)
kept_fit is g = let n = length_keep has_identity is in let f = g.few in record { few = omega arith; each = each_kept is g.each }

-- an item without an identity names nothing
named_kept : (is : List Item) (a : Association) → named (keep has_identity is) a ≡ named is a
unfolding named
named_kept [] a = refl
named_kept (i ∷ is) a = by i.mme i.mce (named_kept is a)
  where
    by : (m : Option MmeId) (c : Option MceId) → let x : Item = record { mme = m; mce = c } in
        some (λ (y : Item). names y a) (keep has_identity is) ≡ some (λ (y : Item). names y a) is
        → some (λ (y : Item). names y a) (pick (has_identity x) (x ∷ []) [] ++ keep has_identity is) ≡ (names x a || some (λ (y : Item). names y a) is)
    by None None q = q
    by None (Some c) q = ap (names (record { mme = None; mce = Some c }) a ||◌) q
    by (Some m) c q = ap (names (record { mme = Some m; mce = c }) a ||◌) q

pub without_kept : (is : List Item) (l : State) → without (keep has_identity is) l ≡ without is l
unfolding without
without_kept is l = keep_cong _ _ (λ a. ap not (named_kept is a)) l

-- ---- in lent words

-- what was put in front stands there
pub front_put : (l vs : List ℕ) → length vs ≤ length l → take (length vs) (sets l 0 vs) ≡ vs
front_put l vs h =
    let n : 0 + length vs ≤ length l = omega arith in
    ap (take (length vs)) (sets-eq vs l 0 n) ∙ take-append_seam vs (drop (0 + length vs) l)

-- the first so many words are those of the items that have an identity
pub record Kept (is : List Item) (kept : ℕ) (o : List ℕ) : Type 0 where
  pub within : kept ≤ length o
  pub reset : map item_of (take 256 (take kept o)) ≡ keep has_identity is
  pub items : map item_of (take kept o) ≡ keep has_identity is

-- l, m and o are the words before, with the items, and with those kept
module _ (is : List Item) (g : ItemsFit is) (l m o : List ℕ) {all kept : ℕ} (z : length l ≡ 256) (a : all ≡ length is) (p : m ≡ sets l 0 (map word_of is))
    (b : kept ≡ length (identified (take all m))) (q : o ≡ sets m 0 (identified (take all m))) where
  taken : identified (take all m) ≡ map word_of (keep has_identity is)
  taken =
      let f = g.few in
      let e : all ≡ length (map word_of is) = a ∙ sym (length-map is word_of) in
      let n : length (map word_of is) ≤ length l = omega (arith, length-map is word_of) in
      let w : take all m ≡ map word_of is = rw (e, p) (front_put l (map word_of is) n) in
      (λ i. identified (w i)) ∙ words_identified is

  pub kept_from : Kept is kept o
  kept_from =
      let f = (kept_fit is g).few in
      let e : kept ≡ length (keep has_identity is) = b ∙ (ap length taken ∙ length-map (keep has_identity is) word_of) in
      let x : length m ≡ 256 = ap length p ∙ (length-sets l 0 (map word_of is) ∙ z) in
      let y : length o ≡ 256 = ap length q ∙ (length-sets m 0 (identified (take all m)) ∙ x) in
      let k : length (identified (take all m)) ≤ length m = omega arith in
      let w : take kept o ≡ map word_of (keep has_identity is) = rw (b, q) (front_put m (identified (take all m)) k) ∙ taken in
      let v : map item_of (take kept o) ≡ keep has_identity is = ap (map item_of) w ∙ items_back (keep has_identity is) (kept_fit is g).each in
      let n : length (take kept o) ≤ 256 = rw (w, length-map (keep has_identity is) word_of) f in
      record { within = omega arith; reset = ap (map item_of) (take_all 256 (take kept o) n) ∙ v; items = v }
