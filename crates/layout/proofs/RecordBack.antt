-- A record that the layout can hold is what its octets say: its parts stand at fixed places, and each says what was put there.
--     record_back      reading the octets of a record gives the record
--     record_again     writing what octets say gives the octets
--     records_differ   records that differ have octets that differ
-- Assumes nothing.
use Rattle.std.specs.Prelude.{None, Option, Some}
use Rattle.identity.specs.declared.MceId.{MceId}
use Rattle.editions.specs.declared.Message.{Message}
use Rattle.identity.specs.declared.MmeId.{MmeId}
use mathlib.Core.Path.{◌≡◌, refl, ap, sym, ◌∙◌}
use mathlib.Core.Bool.{Bool, true, false}
use mathlib.Core.List.{List, [], ◌∷◌, ◌++◌, append_assoc, append-nil}
use Prim.Native.Nat.{ℕ, min, ◌+◌, ◌-◌, ◌<◌, ◌≤◌}
use native.Mathlib.Omega.{arith}
use lib.ListN.{length, get_or, drop, replicate}
use lib.Seq.{drop_at, drop-drop, get_or-drop}
use Rattle.lists.specs.Lists.{pick, fill}
use Rattle.octets.specs.Field.{value_at}
use Rattle.octets.specs.Many.{Each, each_octets}
use Rattle.octets.specs.Write.{number_octets}
use Rattle.octets.specs.Stands.{StaysDifferent}
use Rattle.lent.specs.Lent.{same}
use Rattle.lent.proofs.Reading.{same_self, same_is}
use Rattle.identity.specs.declared.Item.{Item}
use Rattle.items.specs.Written.{mme_in, mce_in, GoodMaybe, GoodItem}
use Rattle.entries.specs.declared.Entry.{Entry}
use Rattle.editions.specs.declared.Edition.{Edition}
use Rattle.editions.specs.Editions.{table_of, number_of, numbered_by}
use Rattle.editions.proofs.Tables.{lawful_count}
use Rattle.meaning.specs.Value.{Record}
use Rattle.layout.specs.Rows.{mme_row, mce_row, item_row, entry_row, list_octets, row_mme, row_mce, row_item, row_entry, each_row}
use Rattle.layout.specs.Record.{Lists, lists_of, slot_octets, record_octets, lists_in, slots_say, said_record, is_record, no_record, lent_as, read_record}
use Rattle.layout.specs.Held.{Held}
use Rattle.layout.proofs.Sizes.{item_size, entry_size, items_size, rows_size, record_size}
use Rattle.layout.proofs.SlotBack.{two_back, slots_back}
use Rattle.layout.proofs.Announced.{announced_agree, ListsFit, lists_fit, rows_count}

-- ---- rows

mme_back : (x : Option MmeId) (t : List ℕ) → GoodMaybe (mme_in x) → row_mme (mme_row x ++ t) ≡ x
unfolding number_octets
mme_back (Some v) t h = λ i. Some (record { 0 = two_back v.0 t h i })
mme_back None t h = refl

mce_back : (x : Option MceId) (t : List ℕ) → GoodMaybe (mce_in x) → row_mce (mce_row x ++ t) ≡ x
unfolding number_octets
mce_back (Some v) t h = λ i. Some (record { 0 = two_back v.0 t h i })
mce_back None t h = refl

behind_mme : (x : Option MmeId) (t : List ℕ) → drop 3 (mme_row x ++ t) ≡ t
unfolding number_octets
behind_mme (Some v) t = refl
behind_mme None t = refl

item_back : (x : Item) (t : List ℕ) → GoodItem x → row_item (item_row x ++ t) ≡ x
item_back x t h =
    rw (append_assoc (mme_row x.mme) (mce_row x.mce) t, behind_mme x.mme (mce_row x.mce ++ t), mme_back x.mme (mce_row x.mce ++ t) h.0, mce_back x.mce t h.1)

entry_back : (x : Entry) (t : List ℕ) → x.id < 65536 → row_entry (entry_row x ++ t) ≡ x
unfolding number_octets
entry_back x t h = λ i. record { crit = x.crit; id = two_back x.id (x.error ∷ t) h i; error = x.error }

-- ---- a list: how many, rows of w octets each, zeros

value_drop : (s : List ℕ) (at k : ℕ) → value_at 2 (drop at s) k ≡ value_at 2 s (at + k)
value_drop s at k = let e : at + k + 1 ≡ at + (k + 1) = omega arith in rw (e, get_or-drop at s k 0, get_or-drop at s (k + 1) 0)

module _ {A : Type 0} (one : List ℕ → A) (row : A → List ℕ) (w : ℕ) (size : (a : A) → length (row a) ≡ w) (Good : A → Type 0)
    (back : (a : A) (t : List ℕ) → Good a → one (row a ++ t) ≡ a) where
  rows_back : (l : List A) (t : List ℕ) → Each Good l → each_row one w (length l) (each_octets row l ++ t) ≡ l
  unfolding each_row
  rows_back [] t h = refl
  rows_back (a ∷ l) t h =
      rw (append_assoc (row a) (each_octets row l) t, drop_at (row a) (each_octets row l ++ t) w (size a), back a (each_octets row l ++ t) h.0, rows_back l t h.1)

  pub list_back : (z : ℕ) (l : List A) (t s : List ℕ) (at : ℕ) → drop at s ≡ list_octets z row l ++ t → length l ≤ 256 → Each Good l
      → each_row one w (min (value_at 2 s (at + 0)) 256) (drop (at + 2) s) ≡ l
  unfolding number_octets
  list_back z l t s at e few h =
      let x = each_octets row l in
      let c : value_at 2 s (at + 0) ≡ length l
      = sym (value_drop s at 0) ∙ (ap (λ (y : List ℕ). value_at 2 y 0) (e ∙ append_assoc (number_octets 2 (length l)) (fill 0 z x) t) ∙ two_back (length l) (fill 0 z x ++ t) (omega arith)) in
      let n : min (length l) 256 ≡ length l = omega arith in
      let d : drop (at + 2) s ≡ x ++ (replicate (z - length x) 0 ++ t) = sym (drop-drop 2 at s) ∙ (ap (drop 2) e ∙ append_assoc x (replicate (z - length x) 0) t) in
      rw (c, n, d) (rows_back l (replicate (z - length x) 0 ++ t) h)

-- ---- the record

module _ (e : Edition) (r : Record) (h : Held e r) where
  l : Lists
  l = lists_of r.values

  fit : ListsFit (lists_of r.values)
  fit = lists_fit (table_of e r.message) r.values h.values

  twelve : length r.values ≤ 12
  twelve = omega (arith, rows_count (table_of e r.message) r.values h.values, lawful_count (table_of e r.message) h.table)

  pub held_size : length (record_octets e r) ≡ 2662
  held_size = record_size e r twelve fit.items.few fit.entries.few

  items_at_lem : drop 98 (record_octets e r) ≡ list_octets 1536 item_row (lists_of r.values).items ++ list_octets 1024 entry_row (lists_of r.values).entries
  unfolding record_octets
  items_at_lem = drop_at (fill 0 96 (each_octets slot_octets r.values)) _ 96 (rows_size r.values twelve)

  entries_at : drop 1636 (record_octets e r) ≡ list_octets 1024 entry_row (lists_of r.values).entries ++ []
  entries_at =
      sym (drop-drop 1538 98 (record_octets e r))
      ∙ (ap (drop 1538) items_at_lem ∙ (drop_at (list_octets 1536 item_row (lists_of r.values).items) _ 1538 (items_size (lists_of r.values).items fit.items.few) ∙ sym (append-nil _)))

  lists_back : lists_in (record_octets e r) ≡ lists_of r.values
  lists_back = λ i. record {
    items = list_back row_item item_row 6 item_size GoodItem item_back 1536 (lists_of r.values).items _ (record_octets e r) 98 items_at_lem fit.items.few fit.items.each i;
    entries = list_back row_entry entry_row 4 entry_size (λ (x : Entry). x.id < 65536) entry_back 1024 (lists_of r.values).entries [] (record_octets e r) 1636 entries_at fit.entries.few fit.entries.each i;
  }

  values_back : slots_say (lists_of r.values) (table_of e r.message) (drop 2 (record_octets e r)) ≡ r.values
  unfolding record_octets
  values_back =
      let x = each_octets slot_octets r.values in
      let more = list_octets 1536 item_row (lists_of r.values).items ++ list_octets 1024 entry_row (lists_of r.values).entries in
      rw (append_assoc x (replicate (96 - length x) 0) more)
      (slots_back (lists_of r.values) (table_of e r.message) r.values (replicate (96 - length x) 0 ++ more) h.values (announced_agree (table_of e r.message) r.values h.table h.values))

  said_back : said_record e r.message (record_octets e r) ≡ r
  unfolding said_record record_octets
  said_back =
      let v : slots_say (lists_in (record_octets e r)) (table_of e r.message) (drop 2 (record_octets e r)) ≡ r.values = rw lists_back values_back in
      λ i. record { message = r.message; crit = r.crit; values = v i }

  pub record_back : read_record e (record_octets e r) ≡ is_record r
  unfolding read_record record_octets
  record_back =
      let n : get_or (record_octets e r) 0 0 ≡ number_of e r.message = refl in
      let o : same (record_octets e (said_record e r.message (record_octets e r))) (record_octets e r) ≡ true = rw said_back (same_self (record_octets e r)) in
      rw (n, h.message, o, said_back)

-- ---- one form

same_record : {r t : Record} → is_record r ≡ is_record t → r ≡ t
same_record q = cc

no_record_lem : {A : Type 0} {r : Record} → no_record ≡ is_record r → A
no_record_lem q = absurd (let z : ◌≡◌ {A = ℕ} 0 1 = cc in omega arith)

pub record_again : (e : Edition) (s : List ℕ) {r : Record} → read_record e s ≡ is_record r → record_octets e r ≡ s
unfolding read_record
record_again e s {r} q = by (numbered_by e (get_or s 0 0)) q
  where
    formed : (x : Record) (b : Bool) → same (record_octets e x) s ≡ b → pick b (is_record x) no_record ≡ is_record r → record_octets e r ≡ s
    formed x true o q = ap (record_octets e) (sym (same_record q)) ∙ same_is (record_octets e x) s o
    formed x false o q = no_record_lem q

    by : (n : Option Message) → lent_as e s n ≡ is_record r → record_octets e r ≡ s
    by (Some m) q = formed (said_record e m s) (same (record_octets e (said_record e m s)) s) refl q
    by None q = no_record_lem q

pub records_differ : (e : Edition) → StaysDifferent (Held e) (record_octets e)
records_differ e v w a b q = same_record (sym (record_back e v a) ∙ (ap (read_record e) q ∙ record_back e w b))
