-- The lists of a record have at most 256, and words say its entries again.
-- Assumes nothing.
use mathlib.Core.Path.{◌≡◌, ◌∙◌, refl, ap}
use mathlib.Core.Bool.{false}
use mathlib.Core.List.{List, map}
use Prim.Native.Nat.{ℕ, zero, suc, min, ◌≤◌}
use native.Mathlib.Omega.{arith}
use lib.ListN.{length, take, drop, length-map}
use lib.Seq.{sets, take_at}
use Rattle.lists.specs.Lists.{fill}
use Rattle.lists.proofs.Fill.{length_fill, take_fill}
use Rattle.identity.specs.Items.{empty_item}
use Rattle.items.specs.Written.{items_octets}
use Rattle.put_values.proofs.Put.{list_small}
use Rattle.octets.specs.Field.{value_at}
use Rattle.octets.specs.Stands.{Octets}
use Rattle.octets.specs.Many.{Each}
use Rattle.octets.proofs.Again.{value_below}
use Rattle.octets.proofs.Writing.{sets_front}
use Rattle.diagnostics.specs.declared.Head.{Head}
use Rattle.diagnostics.specs.Written.{diagnostics_octets}
use Rattle.entry_words.specs.EntryWords.{entry_word, entry_by}
use Rattle.entry_words.proofs.Back.{FitsWord, entries_back}
use Rattle.put_diagnostics.specs.Put.{listed_by}
use Rattle.layout.specs.Rows.{row_item, row_entry, each_row}
use Rattle.layout.specs.Record.{lists_in}
use Rattle.record_form.proofs.Forms.{octets_drop}
use Rattle.record_form.proofs.Formed.{length_rows}
use Rattle.put_message.specs.Said.{said_items, diagnostics_by}

rows_fit : (n : ℕ) (s : List ℕ) → Octets s → Each FitsWord (each_row row_entry 4 n s)
unfolding each_row
rows_fit zero s o = tt
rows_fit (suc n) s o = (record { id = value_below 2 s 1 o; crit = o 0; error = o 3 }, rows_fit n (drop 4 s) (octets_drop 4 s o))

pub entries_few : (s : List ℕ) → length (lists_in s).entries ≤ 256
entries_few s = omega (arith, length_rows row_entry 4 (min (value_at 2 s 1636) 256) (drop 1638 s))

items_few : (s : List ℕ) → length (said_items s) ≤ 256
items_few s = omega (arith, length_rows row_item 6 (min (value_at 2 s 98) 256) (drop 100 s))

pub items_small : (s : List ℕ) (crit : ℕ) → length (items_octets crit (said_items s)) ≤ 2305
items_small s crit =
    let is = said_items s in
    let k : length (items_octets crit (take (length is) (fill empty_item 256 is))) ≤ 2305 = list_small crit (fill empty_item 256 is) (length is) (length_fill empty_item 256 is (items_few s)) in
    rw (take_fill empty_item 256 is) at k

-- the words in front of an array
pub words_front : (s : List ℕ) {n : ℕ} → n ≡ length (lists_in s).entries → (l : List ℕ) {m : List ℕ} → length l ≡ 256 → m ≡ sets l 0 (map entry_word (lists_in s).entries) → take n m ≡ map entry_word (lists_in s).entries
words_front s {n} e l {m} h f =
    let ws = map entry_word (lists_in s).entries in
    let k : length ws ≡ length (lists_in s).entries = length-map (lists_in s).entries entry_word in
    let b : length ws ≤ length l = omega (arith, entries_few s) in
    rw (f, e, ← k, sets_front l ws b) (take_at ws (drop (length ws) l) (length ws) refl)

pub listed_said : (h : Head) (s : List ℕ) → Octets s → {ws : List ℕ} → ws ≡ map entry_word (lists_in s).entries → diagnostics_octets (listed_by h ws) ≡ diagnostics_octets (diagnostics_by h s)
listed_said h s o {ws} e =
    let b : map entry_by ws ≡ (lists_in s).entries = ap (map entry_by) e ∙ entries_back (lists_in s).entries (rows_fit (min (value_at 2 s 1636) 256) (drop 1638 s) (octets_drop 1638 s o)) in
    rw b

pub listed_not : (h : Head) (s ws : List ℕ) → h.listed ≡ false → diagnostics_octets (listed_by h ws) ≡ diagnostics_octets (diagnostics_by h s)
listed_not h s ws e = rw e
