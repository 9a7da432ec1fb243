-- The size of a value, by its kind.
-- Assumes nothing.
use mathlib.Core.Path.{◌≡◌, ◌∙◌, refl, sym, ap}
use mathlib.Core.Bool.{Bool, true, false}
use mathlib.Core.List.{List, [], ◌∷◌}
use Prim.Native.Nat.{ℕ, min, ◌+◌, ◌-◌, ◌≤◌}
use native.Mathlib.Omega.{arith}
use borrow.Author.Tests.{lt-ltb, le-leb}
use lib.ListN.{length}
use lib.Seq.{length-slice}
use Rattle.lists.specs.Lists.{pick}
use Rattle.octets.specs.declared.Span.{Span}
use Rattle.octets.proofs.Back.{length_number}
use Rattle.identity.specs.declared.Tmgi.{Tmgi}
use Rattle.identity.specs.declared.Item.{Item}
use Rattle.values.specs.Written.{tmgi_octets}
use Rattle.names.specs.Names.{name_allowed}
use Rattle.names.specs.Written.{name_octets}
use Rattle.items.specs.Items.{whole, part}
use Rattle.items.specs.Written.{acknowledgement_crit, reset_crit, items_octets, reset_octets}
use Rattle.diagnostics.specs.declared.Head.{Head}
use Rattle.put_diagnostics.specs.Put.{listed_size}
use Rattle.put_diagnostics.proofs.Sizes.{listed_length, size_fits}
use Rattle.rows.specs.declared.Triggers.{Triggers}
use Rattle.rows.specs.Table.{meanings}
use Rattle.meaning.specs.Value.{carried, tmgi, one, two, name, reset, list, diagnostics, octets_in}
use Rattle.meaning.specs.Written.{octets_of, has_octets, is_list_length, under, entries_good}
use Rattle.layout.specs.Record.{lists_in}
use Rattle.plan.specs.Plan.{size_of}
use Rattle.plan.proofs.Sizes.{size_has, size_none}
use Rattle.put_message.specs.Said.{diagnostics_by}

pub tmgi_size : (v : Tmgi) → 7 ≡ size_of (tmgi v)
unfolding size_of has_octets octets_of tmgi_octets
tmgi_size v = refl

pub one_size : (v : ℕ) → 1 ≡ size_of (one v)
unfolding size_of has_octets octets_of
one_size v = sym (length_number 1 v)

pub two_size : (v : ℕ) → 2 ≡ size_of (two v)
unfolding size_of has_octets octets_of
two_size v = sym (length_number 2 v)

pub name_size : (os : List ℕ) {n : ℕ} → name_allowed os ≡ true → n ≡ length os → 2 + n ≡ size_of (name os)
unfolding size_of has_octets octets_of name_octets
name_size os h e = rw (h, e) (omega arith)

pub name_none : (os : List ℕ) → name_allowed os ≡ false → 0 ≡ size_of (name os)
unfolding size_of has_octets
name_none os h = rw h

pub whole_size : 1 ≡ size_of (reset whole)
unfolding size_of has_octets octets_of reset_octets
whole_size = refl

pub carried_size : (os : List ℕ) → length os ≡ size_of (carried os)
unfolding size_of has_octets octets_of
carried_size [] = refl
carried_size (o ∷ os) = rw (lt-ltb 0 (length (o ∷ os)) (omega arith))

module _ (s : List ℕ) (v : Span) where
  pub carried_in_lem : v.to ≤ length s → v.to - v.from ≡ length (octets_in s v)
  carried_in_lem h = rw (le-leb _ _ h) (sym (length-slice v.from v.to s h))

-- ---- items

module _ (is : List Item) where
  pub list_size : {n : ℕ} → is_list_length (length is) ≡ true → n ≡ length (items_octets acknowledgement_crit is) → n ≡ size_of (list is)
  unfolding has_octets octets_of
  list_size h e = size_has (list is) h e

  pub list_none : is_list_length (length is) ≡ false → 0 ≡ size_of (list is)
  unfolding has_octets
  list_none h = size_none (list is) h

  pub part_size : {n : ℕ} → is_list_length (length is) ≡ true → n ≡ length (items_octets reset_crit is) → 1 + n ≡ size_of (reset (part is))
  unfolding has_octets octets_of reset_octets
  part_size h e = size_has (reset (part is)) h (omega arith)

  pub part_none : is_list_length (length is) ≡ false → 0 ≡ size_of (reset (part is))
  unfolding has_octets
  part_none h = size_none (reset (part is)) h

-- ---- diagnostics

module _ (t : Triggers) (h : Head) (s : List ℕ) where
  list_same : (b : Bool) → pick b (entries_good (pick b (lists_in s).entries [])) true ≡ pick b (entries_good (lists_in s).entries) true
  list_same true = refl
  list_same false = refl

  pub trigger_bad : under (meanings t) h.trigger ≡ false → 0 ≡ size_of (diagnostics t (diagnostics_by h s))
  unfolding has_octets
  trigger_bad e = size_none (diagnostics t (diagnostics_by h s)) (rw e)

  module _ (d : under (meanings t) h.trigger ≡ true) where
    pub crit_bad : under 3 h.crit ≡ false → 0 ≡ size_of (diagnostics t (diagnostics_by h s))
    unfolding has_octets
    crit_bad e = size_none (diagnostics t (diagnostics_by h s)) (rw (d, e))

    module _ (e : under 3 h.crit ≡ true) where
      has : {b : Bool} → pick h.listed (entries_good (lists_in s).entries) true ≡ b → has_octets (diagnostics t (diagnostics_by h s)) ≡ b
      unfolding has_octets
      has f = rw (d, e) (list_same h.listed ∙ f)

      pub list_bad : pick h.listed (entries_good (lists_in s).entries) true ≡ false → 0 ≡ size_of (diagnostics t (diagnostics_by h s))
      list_bad f = size_none (diagnostics t (diagnostics_by h s)) (has f)

      pub diagnostics_size : pick h.listed (entries_good (lists_in s).entries) true ≡ true → {n m : ℕ} → m ≡ length (lists_in s).entries → m ≤ 256 → n ≡ min (listed_size h m) 18446744073709551615 → n ≡ size_of (diagnostics t (diagnostics_by h s))
      unfolding octets_of
      diagnostics_size f {n} {m} g k i =
          size_has (diagnostics t (diagnostics_by h s)) (has f) (i ∙ size_fits h m (omega arith) ∙ ap (listed_size h) g ∙ sym (listed_length h (lists_in s).entries))
