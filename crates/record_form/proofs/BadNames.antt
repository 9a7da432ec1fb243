-- A record's names that are not allowed, slot by slot, by what the code tests.
-- Assumes nothing.
use Rattle.std.specs.Prelude.{None, Option, Some}
use mathlib.Core.Path.{◌≡◌, ◌∙◌, refl, sym, ap}
use mathlib.Core.Bool.{Bool, true, false, not, ◌||◌}
use mathlib.Core.List.{List, [], ◌∷◌, map}
use Prim.Native.Nat.{ℕ, ◌+◌, ◌*◌, ◌≤◌, ◌<◌}
use native.Mathlib.Numerals.{add-one}
use native.Mathlib.Omega.{arith}
use borrow.Author.Tests.{ne_eqb}
use lib.Dec.{eqb}
use lib.ListN.{length, take, drop, get_or, drop_of_length-le}
use lib.Seq.{drop-cons, drop-drop}
use Rattle.lists.specs.Lists.{pick, some}
use Rattle.octets.specs.Field.{value_at}
use Rattle.octets.specs.declared.Span.{Span}
use Rattle.names.specs.Names.{name_allowed, part_in}
use Rattle.rows.specs.declared.Kind.{Kind}
use Rattle.rows.specs.declared.Kind.TheVariants as kind
use Rattle.rows.specs.declared.Row.{Row}
use Rattle.rows.specs.Table.{no_row}
use Rattle.editions.specs.declared.Edition.{Edition}
use Rattle.editions.specs.declared.Message.{Message}
use Rattle.editions.specs.Editions.{table_of, numbered_by}
use Rattle.editions.proofs.Names.{numbered_number}
use Rattle.editions.proofs.Tables.{table_lawful, lawful_count}
use Rattle.meaning.specs.Value.{Value, Given, given, absent, octets_in, on_carried, on_given, said_by}
use Rattle.layout.specs.Record.{Lists, slot_says, slots_say, said_record, lists_in, is_record, no_record, lent_as, read_record, bad_name, name_refused_by, name_refused}
use Rattle.record_form.specs.Form.{formed}
use Rattle.record_form.specs.BadNames.{name_bad, slot_bad, slots_bad}
use Rattle.record_form.proofs.Formed.{formed_not, record_formed, record_not}
use Rattle.record_form.proofs.Slots.{bad_front}

-- ---- a slot

module _ (values p : List ℕ) where
  pub none_bad : get_or p 0 0 ≡ 0 → false ≡ name_bad values p
  unfolding name_bad
  none_bad h = rw h

  pub there_bad : (get_or p 0 0 ≡ 0 → ⊥) → (let from = value_at 2 p 1 in not (name_allowed (part_in values from (from + value_at 2 p 3)))) ≡ name_bad values p
  unfolding name_bad
  there_bad h = rw (ne_eqb (get_or p 0 0) 0 h)

-- ---- the slots, one after another

module _ (values : List ℕ) (t : List Row) (s : List ℕ) (i : ℕ) where
  step : i < length t → slots_bad values (drop i t) (drop (2 + 8 * i) s) ≡ (slot_bad values (get_or t i no_row).kind (drop (2 + 8 * i) s) || slots_bad values (drop (i + 1) t) (drop (2 + 8 * (i + 1)) s))
  unfolding slots_bad
  step h = let n : 2 + 8 * (i + 1) ≡ 2 + 8 * i + 8 = omega arith in rw (drop-cons t i no_row h, drop-drop 8 (2 + 8 * i) s, n, add-one i)

  pub bad_here : i < length t → 8 ≤ length (drop (2 + 8 * i) s) → slot_bad values (get_or t i no_row).kind (take 8 (drop (2 + 8 * i) s)) ≡ true → true ≡ slots_bad values (drop i t) (drop (2 + 8 * i) s)
  bad_here h z e = sym (step h ∙ rw (sym (bad_front _ _ _ z) ∙ e))

  pub bad_next : i < length t → 8 ≤ length (drop (2 + 8 * i) s) → slot_bad values (get_or t i no_row).kind (take 8 (drop (2 + 8 * i) s)) ≡ false → slots_bad values (drop (i + 1) t) (drop (2 + 8 * (i + 1)) s) ≡ slots_bad values (drop i t) (drop (2 + 8 * i) s)
  bad_next h z e = sym (step h ∙ rw (sym (bad_front _ _ _ z) ∙ e))

  pub bad_end : length t ≤ i → (p : List ℕ) → false ≡ slots_bad values (drop i t) p
  unfolding slots_bad
  bad_end h p = rw (drop_of_length-le t h)

-- ---- what they say

module _ (values : List ℕ) (l : Lists) where
  abbrev said_there : Bool → Value Span → Given (List ℕ)
  said_there b v = on_given (octets_in values) (pick b absent (given v))

  of_value : (b : Bool) (v : Value Span) → pick b false (bad_name (given (on_carried (octets_in values) v))) ≡ bad_name (said_there b v)
  of_value true v = refl
  of_value false v = refl

  of_other : (b : Bool) (v : Value Span) → bad_name (given (on_carried (octets_in values) v)) ≡ false → false ≡ bad_name (said_there b v)
  of_other true v e = refl
  of_other false v e = sym e

  slot_bad_lem : (k : Kind) (p : List ℕ) → slot_bad values k p ≡ bad_name (said_there (eqb (get_or p 0 0) 0) (slot_says l k p))
  unfolding name_bad slot_says on_carried
  slot_bad_lem kind.Name p = of_value (eqb (get_or p 0 0) 0) (slot_says l kind.Name p)
  slot_bad_lem kind.Carried p = of_other (eqb (get_or p 0 0) 0) (slot_says l kind.Carried p) refl
  slot_bad_lem kind.Mme p = of_other (eqb (get_or p 0 0) 0) (slot_says l kind.Mme p) refl
  slot_bad_lem kind.Mce p = of_other (eqb (get_or p 0 0) 0) (slot_says l kind.Mce p) refl
  slot_bad_lem kind.Tmgi p = of_other (eqb (get_or p 0 0) 0) (slot_says l kind.Tmgi p) refl
  slot_bad_lem kind.OneOctet p = of_other (eqb (get_or p 0 0) 0) (slot_says l kind.OneOctet p) refl
  slot_bad_lem kind.TwoOctets p = of_other (eqb (get_or p 0 0) 0) (slot_says l kind.TwoOctets p) refl
  slot_bad_lem kind.Cause p = of_other (eqb (get_or p 0 0) 0) (slot_says l kind.Cause p) refl
  slot_bad_lem kind.Wait p = of_other (eqb (get_or p 0 0) 0) (slot_says l kind.Wait p) refl
  slot_bad_lem kind.ResetType p = of_other (eqb (get_or p 0 0) 0) (slot_says l kind.ResetType p) refl
  slot_bad_lem kind.Acknowledged p = of_other (eqb (get_or p 0 0) 0) (slot_says l kind.Acknowledged p) refl
  slot_bad_lem (kind.Diagnostics t) p = of_other (eqb (get_or p 0 0) 0) (slot_says l (kind.Diagnostics t) p) refl

  slots_bad_lem : (t : List Row) (p : List ℕ) → slots_bad values t p ≡ some bad_name (map (on_given (octets_in values)) (slots_say l t p))
  unfolding slots_bad slots_say
  slots_bad_lem [] p = refl
  slots_bad_lem (r ∷ t) p = λ i. slot_bad_lem r.kind p i || slots_bad_lem t (drop 8 p) i

-- ---- the record

module _ (e : Edition) (s values : List ℕ) where
  pub refused_other : numbered_by e (get_or s 0 0) ≡ None → false ≡ name_refused e s values
  unfolding name_refused read_record
  refused_other f = ap (λ (x : Option Message). name_refused_by values (lent_as e s x)) (sym f)

  pub refused_size : (length s ≡ 2662 → ⊥) → false ≡ name_refused e s values
  unfolding name_refused read_record
  refused_size z = by (numbered_by e (get_or s 0 0))
    where
      by : (x : Option Message) → false ≡ name_refused_by values (lent_as e s x)
      by (Some m) = rw (record_not e m s (formed_not (table_of e m) s (lawful_count (table_of e m) (table_lawful e m)) z))
      by None = refl

  module _ {m : Message} (l : length s ≡ 2662) (f : numbered_by e (get_or s 0 0) ≡ Some m) {t : List Row} (rs : t ≡ table_of e m) where
    refused_by : name_refused e s values ≡ pick (formed t s) (slots_bad values t (drop 2 s)) false
    unfolding name_refused read_record said_record said_by
    refused_by =
        ap (λ (x : Option Message). name_refused_by values (lent_as e s x)) f
        ∙ ap (λ (g : Bool). name_refused_by values (pick g (is_record (said_record e m s)) no_record)) (record_formed e m s l (sym (numbered_number e (get_or s 0 0) m (sym f))))
        ∙ by (formed (table_of e m) s)
        ∙ ap (λ (u : List Row). pick (formed u s) (slots_bad values u (drop 2 s)) false) (sym rs)
      where
        by : (g : Bool) → name_refused_by values (pick g (is_record (said_record e m s)) no_record) ≡ pick g (slots_bad values (table_of e m) (drop 2 s)) false
        by true = sym (slots_bad_lem values (lists_in s) (table_of e m) (drop 2 s))
        by false = refl

    pub refused_none : slots_bad values t (drop 2 s) ≡ false → false ≡ name_refused e s values
    refused_none h = by (formed t s) ∙ sym (refused_by ∙ rw h)
      where
        by : (g : Bool) → false ≡ pick g false false
        by true = refl
        by false = refl

    pub refused_bad : slots_bad values t (drop 2 s) ≡ true → formed t s ≡ name_refused e s values
    refused_bad h = by (formed t s) ∙ sym (refused_by ∙ rw h)
      where
        by : (g : Bool) → g ≡ pick g true false
        by true = refl
        by false = refl
