-- Where a value's list begins, by its kind: items behind the first octet of a part of the interface, or with an acknowledgement; entries behind the
-- fields of Criticality Diagnostics. No other value announces a list.
-- Assumes nothing.
use mathlib.Core.Path.{◌≡◌, refl, sym}
use mathlib.Core.Bool.{Bool, true, false}
use mathlib.Core.List.{List, ◌∷◌}
use Prim.Native.Nat.{ℕ, ◌+◌}
use lib.ListN.{take}
use Rattle.lists.specs.Lists.{pick}
use Rattle.std.specs.Prelude.{Ok, Err, None, Some}
use Rattle.std.specs.Bool.{then_some}
use Rattle.octets.specs.Read.{Read}
use Rattle.octets.specs.declared.Span.{Span}
use Rattle.octets.specs.Span.{present}
use Rattle.identity.specs.declared.Item.{Item}
use Rattle.values.specs.Values.{mme_at, mce_at, tmgi_at, one_at, two_at, cause_at, wait_at}
use Rattle.names.specs.Names.{name_at}
use Rattle.items.specs.Items.{ResetType, whole, part, items_at, reset_at}
use Rattle.entries.specs.declared.Entry.{Entry}
use Rattle.entries.specs.Entries.{maybe_list_at}
use Rattle.diagnostics.specs.declared.Head.{Head}
use Rattle.diagnostics.specs.Diagnostics.{diagnostics_at}
use Rattle.rows.specs.declared.Kind.{Kind}
use Rattle.rows.specs.declared.Kind.TheVariants as kind
use Rattle.rows.specs.declared.Triggers.{Triggers}
use Rattle.rows.specs.Table.{meanings}
use Rattle.meaning.specs.Value.{Value, Given, given, absent, carried, mme, mce, tmgi, one, two, cause, wait, name, reset, list, diagnostics}
use Rattle.meaning.specs.Reading.{read_as, value_in}
use Rattle.layout.specs.Record.{lists_of}
use Rattle.reader.specs.Steps.{ResetIs, given_read, ItemsBegin, EntriesBegin}

-- what holds of an absent value, and of each that a reading may give, holds of what stands there
on_value : {A : Type 0} (P : Given Span → Type 0) (b : Bool) (r : Read A) (is : A → Value Span) → P absent → ((a : A) → P (given (is a))) → P (pick b (given_read is r) absent)
on_value P true (Ok a) is n g = g a
on_value P true (Err x) is n g = n
on_value P false r is n g = n

module _ (s : List ℕ) (v : Span) where
  none_there : (k : Kind) → present v ≡ false → value_in k s v ≡ absent
  unfolding value_in
  none_there k e = rw e

  pub no_items_there : (k : Kind) → present v ≡ false → ItemsBegin (value_in k s v) (take v.to s) None
  unfolding lists_of
  no_items_there k e vs = rw (none_there k e)

  pub no_entries_there : (k : Kind) → present v ≡ false → EntriesBegin (value_in k s v) (take v.to s) None
  unfolding lists_of
  no_entries_there k e vs = rw (none_there k e)

  -- ---- items

  pub reset_items : (b : Bool) → present v ≡ true → ResetIs b (reset_at (take v.to s) v.from) (items_at (take v.to s) (v.from + 1))
      → ItemsBegin (value_in kind.ResetType s v) (take v.to s) (then_some b (v.from + 1))
  unfolding value_in read_as lists_of
  reset_items true p r = (r.0, r.2, λ vs. rw (p, r.1))
  reset_items false p r = λ vs. rw (p, r)

  pub list_items : (is : List Item) → present v ≡ true → items_at (take v.to s) v.from ≡ Ok is → ItemsBegin (value_in kind.Acknowledged s v) (take v.to s) (Some v.from)
  unfolding value_in read_as lists_of
  list_items is p q = (is, q, λ vs. rw (p, q))

  pub no_items : (k : Kind) → (k ≡ kind.ResetType → ⊥) × (k ≡ kind.Acknowledged → ⊥) → ItemsBegin (value_in k s v) (take v.to s) None
  unfolding value_in read_as lists_of
  no_items k o vs = by k o
    where
      by : (k : Kind) → (k ≡ kind.ResetType → ⊥) × (k ≡ kind.Acknowledged → ⊥) → (lists_of (value_in k s v ∷ vs)).items ≡ (lists_of vs).items
      by kind.Carried o = on_value (λ g. (lists_of (g ∷ vs)).items ≡ (lists_of vs).items) (present v) (Ok v) carried refl (λ a. refl)
      by kind.Mme o = on_value (λ g. (lists_of (g ∷ vs)).items ≡ (lists_of vs).items) (present v) (mme_at (take v.to s) v.from) mme refl (λ a. refl)
      by kind.Mce o = on_value (λ g. (lists_of (g ∷ vs)).items ≡ (lists_of vs).items) (present v) (mce_at (take v.to s) v.from) mce refl (λ a. refl)
      by kind.Tmgi o = on_value (λ g. (lists_of (g ∷ vs)).items ≡ (lists_of vs).items) (present v) (tmgi_at (take v.to s) v.from) tmgi refl (λ a. refl)
      by kind.OneOctet o = on_value (λ g. (lists_of (g ∷ vs)).items ≡ (lists_of vs).items) (present v) (one_at (take v.to s) v.from) one refl (λ a. refl)
      by kind.TwoOctets o = on_value (λ g. (lists_of (g ∷ vs)).items ≡ (lists_of vs).items) (present v) (two_at (take v.to s) v.from) two refl (λ a. refl)
      by kind.Cause o = on_value (λ g. (lists_of (g ∷ vs)).items ≡ (lists_of vs).items) (present v) (cause_at (take v.to s) v.from) cause refl (λ a. refl)
      by kind.Wait o = on_value (λ g. (lists_of (g ∷ vs)).items ≡ (lists_of vs).items) (present v) (wait_at (take v.to s) v.from) wait refl (λ a. refl)
      by kind.Name o = on_value (λ g. (lists_of (g ∷ vs)).items ≡ (lists_of vs).items) (present v) (name_at (take v.to s) v.from) name refl (λ a. refl)
      by kind.ResetType o = absurd (o.0 refl)
      by kind.Acknowledged o = absurd (o.1 refl)
      by (kind.Diagnostics t) o = on_value (λ g. (lists_of (g ∷ vs)).items ≡ (lists_of vs).items) (present v) (diagnostics_at (meanings t) (take v.to s) v.from) (diagnostics t) refl (λ a. refl)

  -- ---- entries

  pub diagnostics_entries : (t : Triggers) (x : _) → present v ≡ true → EntriesBegin (given_read (diagnostics t) (diagnostics_at (meanings t) (take v.to s) v.from)) (take v.to s) x
      → EntriesBegin (value_in (kind.Diagnostics t) s v) (take v.to s) x
  unfolding value_in read_as
  diagnostics_entries t x p b = rw p b

  pub no_entries : (k : Kind) → ((t : Triggers) → k ≡ kind.Diagnostics t → ⊥) → EntriesBegin (value_in k s v) (take v.to s) None
  unfolding value_in read_as lists_of
  no_entries k o vs = by k o
    where
      resetting : (a : ResetType) → (lists_of (given (reset a) ∷ vs)).entries ≡ (lists_of vs).entries
      resetting whole = refl
      resetting (part is) = refl

      by : (k : Kind) → ((t : Triggers) → k ≡ kind.Diagnostics t → ⊥) → (lists_of (value_in k s v ∷ vs)).entries ≡ (lists_of vs).entries
      by kind.Carried o = on_value (λ g. (lists_of (g ∷ vs)).entries ≡ (lists_of vs).entries) (present v) (Ok v) carried refl (λ a. refl)
      by kind.Mme o = on_value (λ g. (lists_of (g ∷ vs)).entries ≡ (lists_of vs).entries) (present v) (mme_at (take v.to s) v.from) mme refl (λ a. refl)
      by kind.Mce o = on_value (λ g. (lists_of (g ∷ vs)).entries ≡ (lists_of vs).entries) (present v) (mce_at (take v.to s) v.from) mce refl (λ a. refl)
      by kind.Tmgi o = on_value (λ g. (lists_of (g ∷ vs)).entries ≡ (lists_of vs).entries) (present v) (tmgi_at (take v.to s) v.from) tmgi refl (λ a. refl)
      by kind.OneOctet o = on_value (λ g. (lists_of (g ∷ vs)).entries ≡ (lists_of vs).entries) (present v) (one_at (take v.to s) v.from) one refl (λ a. refl)
      by kind.TwoOctets o = on_value (λ g. (lists_of (g ∷ vs)).entries ≡ (lists_of vs).entries) (present v) (two_at (take v.to s) v.from) two refl (λ a. refl)
      by kind.Cause o = on_value (λ g. (lists_of (g ∷ vs)).entries ≡ (lists_of vs).entries) (present v) (cause_at (take v.to s) v.from) cause refl (λ a. refl)
      by kind.Wait o = on_value (λ g. (lists_of (g ∷ vs)).entries ≡ (lists_of vs).entries) (present v) (wait_at (take v.to s) v.from) wait refl (λ a. refl)
      by kind.Name o = on_value (λ g. (lists_of (g ∷ vs)).entries ≡ (lists_of vs).entries) (present v) (name_at (take v.to s) v.from) name refl (λ a. refl)
      by kind.ResetType o = on_value (λ g. (lists_of (g ∷ vs)).entries ≡ (lists_of vs).entries) (present v) (reset_at (take v.to s) v.from) reset refl resetting
      by kind.Acknowledged o = on_value (λ g. (lists_of (g ∷ vs)).entries ≡ (lists_of vs).entries) (present v) (items_at (take v.to s) v.from) list refl (λ a. refl)
      by (kind.Diagnostics t) o = absurd (o t refl)

-- Criticality Diagnostics, by their fields
pub fields_entries : (t : Triggers) (s : List ℕ) (from : ℕ) {h : Head} {es : List Entry} (n : ℕ) → diagnostics_at (meanings t) s from ≡ Ok (record { head = h; entries = es })
    → Ok es ≡ maybe_list_at h.listed s n → EntriesBegin (given_read (diagnostics t) (diagnostics_at (meanings t) s from)) s (then_some h.listed n)
unfolding lists_of
fields_entries t s from {h} {es} n d q = by h.listed refl
  where
    by : (b : Bool) → h.listed ≡ b → EntriesBegin (given_read (diagnostics t) (diagnostics_at (meanings t) s from)) s (then_some b n)
    by true e = (es, rw e at (sym q), λ vs. rw (d, e))
    by false e = λ vs. rw (d, e)
