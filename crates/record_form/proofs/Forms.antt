-- The slots of a table's rows, one after another, by what the code tests.
-- Assumes nothing.
use Rattle.std.specs.Prelude.{None, Some}
use mathlib.Core.Path.{◌≡◌, ◌∙◌, sym}
use mathlib.Core.Bool.{Bool, true, false, ◌||◌}
use mathlib.Core.List.{List}
use Prim.Native.Nat.{ℕ, ◌+◌, ◌*◌, ◌≤◌, ◌<◌}
use native.Mathlib.Numerals.{add-one}
use native.Mathlib.Omega.{arith}
use lib.ListN.{length, take, drop, get_or, drop_of_length-le}
use lib.Seq.{drop-cons, drop-drop, get_or-drop, get_or-take}
use Rattle.octets.specs.Stands.{Octets}
use Rattle.rows.specs.declared.Row.{Row}
use Rattle.rows.specs.Table.{no_row}
use Rattle.record_form.specs.Form.{slot_good, says_items, says_entries, form_from}
use Rattle.record_form.proofs.Slots.{slot_front}

pub octets_drop : (n : ℕ) (s : List ℕ) → Octets s → Octets (drop n s)
octets_drop n s o i = rw (get_or-drop n s i 0) (o (n + i))

module _ (a b : Bool) (t : List Row) (s : List ℕ) (i : ℕ) where
  pub form_stop : i < length t → 8 ≤ length (drop (2 + 8 * i) s) → slot_good (get_or t i no_row).kind (take 8 (drop (2 + 8 * i) s)) ≡ false → form_from a b (drop i t) (drop (2 + 8 * i) s) ≡ None
  unfolding form_from
  form_stop h z e = rw (drop-cons t i no_row h, sym (slot_front _ _ z) ∙ e)

  pub form_next : i < length t → 8 ≤ length (drop (2 + 8 * i) s) → let p = take 8 (drop (2 + 8 * i) s) in slot_good (get_or t i no_row).kind p ≡ true
      → form_from a b (drop i t) (drop (2 + 8 * i) s)
      ≡ form_from (a || says_items (get_or t i no_row).kind (get_or p 0 0)) (b || says_entries (get_or t i no_row).kind (get_or p 0 0) (get_or p 7 0)) (drop (i + 1) t) (drop (2 + 8 * (i + 1)) s)
  unfolding form_from
  form_next h z e =
      let p = drop (2 + 8 * i) s in
      let n : 2 + 8 * (i + 1) ≡ 2 + 8 * i + 8 = omega arith in
      rw (get_or-take 8 p 0 0 (omega arith), get_or-take 8 p 7 0 (omega arith), drop-cons t i no_row h, sym (slot_front _ _ z) ∙ e, drop-drop 8 (2 + 8 * i) s, n, add-one i)

  pub form_end : length t ≤ i → (p : List ℕ) → form_from a b (drop i t) p ≡ Some (record { items = a; entries = b })
  unfolding form_from
  form_end h p = rw (drop_of_length-le t h)
