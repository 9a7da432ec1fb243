-- The size of a part, by its kind: a value that may not be written has none.
-- Assumes nothing.
use mathlib.Core.Path.{◌≡◌, ◌∙◌, refl, sym, ap}
use mathlib.Core.Bool.{Bool, true, false, not}
use mathlib.Core.List.{List, [], map}
use Prim.Native.Nat.{ℕ, min, ◌+◌, ◌*◌, ◌≤◌}
use native.Mathlib.Omega.{arith}
use native.Mathlib.Nat.{add-zero}
use borrow.Author.Tests.{leb-true}
use lib.Dec.{ltb, leb}
use lib.ListN.{length, length-map}
use lib.Seq.{slice, take_all}
use Rattle.lists.specs.Lists.{pick, some}
use Rattle.lists.proofs.Some.{some_map}
use Rattle.lists.proofs.Tests.{and_left, and_right}
use Rattle.identity.specs.declared.Item.{Item}
use Rattle.items.specs.Written.{acknowledgement_crit, items_octets}
use Rattle.entries.specs.declared.Entry.{Entry}
use Rattle.entry_words.specs.EntryWords.{entry_by}
use Rattle.item_words.specs.Words.{item_of}
use Rattle.diagnostics.specs.declared.Head.{Head}
use Rattle.diagnostics.specs.Written.{head_octets}
use Rattle.put_diagnostics.specs.Put.{listed_by, listed_size}
use Rattle.put_diagnostics.proofs.Sizes.{listed_length, size_fits, size_no}
use Rattle.rows.specs.declared.Triggers.TheVariants.{Three}
use Rattle.meaning.specs.Value.{list, diagnostics}
use Rattle.meaning.specs.Written.{octets_of, has_octets, is_list_length, under, entry_good, entries_good}
use Rattle.plan.specs.Plan.{size_of}
use Rattle.plan.proofs.Sizes.{size_has, size_none}

-- ---- items

module _ (ws : List ℕ) where
  abbrev items : List Item
  items = map item_of ws

  pub list_size : {n : ℕ} → is_list_length (length ws) ≡ true → n ≡ length (items_octets acknowledgement_crit items) → n ≡ size_of (list items)
  unfolding has_octets octets_of
  list_size h e = size_has (list items) (ap is_list_length (length-map ws item_of) ∙ h) e

  pub list_none : is_list_length (length ws) ≡ false → 0 ≡ size_of (list items)
  unfolding has_octets
  list_none h = size_none (list items) (ap is_list_length (length-map ws item_of) ∙ h)

-- ---- diagnostics

abbrev pub is_bad : ℕ → Bool
is_bad w = not (entry_good (entry_by w))

-- without a list they are few octets, however many words there are
unlisted : (h : Head) (n : ℕ) → h.listed ≡ false → min (listed_size h n) 18446744073709551615 ≡ listed_size h n
unlisted h n e = sym (size_no h n e) ∙ sym (ap (λ (b : Bool). length (head_octets h) + pick b (2 + 3 * n) 0) e ∙ add-zero (length (head_octets h)))

module _ (ws : List ℕ) where
  abbrev entries : List Entry
  entries = map entry_by ws

  pub good_none : is_list_length (length ws) ≡ false → false ≡ entries_good entries
  good_none e = rw (length-map ws entry_by, e)

  pub good_some : is_list_length (length ws) ≡ true → {b : Bool} → some is_bad (slice 0 (length ws) ws) ≡ b → not b ≡ entries_good entries
  good_some e f =
      let g = ap (some is_bad) (sym (take_all (length ws) ws (omega arith))) ∙ f in
      rw (length-map ws entry_by, e, some_map (λ (x : Entry). not (entry_good x)) entry_by ws, g)

  few : entries_good entries ≡ true → length ws ≤ 256
  few e = leb-true _ _ (rw (length-map ws entry_by) at (and_right (ltb 0 (length entries)) (leb (length entries) 256) (and_left (is_list_length (length entries)) (not (some (λ (x : Entry). not (entry_good x)) entries)) e)))

  module _ (h : Head) where
    list_same : (b : Bool) → pick b (entries_good (pick b entries [])) true ≡ pick b (entries_good entries) true
    list_same true = refl
    list_same false = refl

    pub trigger_bad : under 3 h.trigger ≡ false → 0 ≡ size_of (diagnostics Three (listed_by h ws))
    unfolding has_octets
    trigger_bad e = size_none (diagnostics Three (listed_by h ws)) (rw e)

    module _ (d : under 3 h.trigger ≡ true) where
      pub crit_bad : under 3 h.crit ≡ false → 0 ≡ size_of (diagnostics Three (listed_by h ws))
      unfolding has_octets
      crit_bad e = size_none (diagnostics Three (listed_by h ws)) (rw (d, e))

      module _ (e : under 3 h.crit ≡ true) where
        has : {b : Bool} → pick h.listed (entries_good entries) true ≡ b → has_octets (diagnostics Three (listed_by h ws)) ≡ b
        unfolding has_octets
        has f = rw (d, e) (list_same h.listed ∙ f)

        pub list_bad : pick h.listed (entries_good entries) true ≡ false → 0 ≡ size_of (diagnostics Three (listed_by h ws))
        list_bad f = size_none (diagnostics Three (listed_by h ws)) (has f)

        said : pick h.listed (entries_good entries) true ≡ true → min (listed_size h (length ws)) 18446744073709551615 ≡ listed_size h (length ws)
        said f = by h.listed refl f
          where
            by : (b : Bool) → h.listed ≡ b → pick b (entries_good entries) true ≡ true → min (listed_size h (length ws)) 18446744073709551615 ≡ listed_size h (length ws)
            by true g f = let k = few f in size_fits h (length ws) (omega arith)
            by false g f = unlisted h (length ws) g

        pub diagnostics_size : pick h.listed (entries_good entries) true ≡ true → {n : ℕ} → n ≡ min (listed_size h (length ws)) 18446744073709551615 → n ≡ size_of (diagnostics Three (listed_by h ws))
        unfolding octets_of
        diagnostics_size f i =
            size_has (diagnostics Three (listed_by h ws)) (has f) (i ∙ said f ∙ ap (listed_size h) (sym (length-map ws entry_by)) ∙ sym (listed_length h entries))
