-- Two records that are written as the same octets say the same, so they are the same but for criticality and places:
-- how long a carried value is, its octets say, which are at least one.
-- Assumes nothing.
use Rattle.std.specs.Prelude.{None, Option, Some}
use mathlib.Core.Path.{◌≡◌, ◌∙◌, refl, sym, ap, subst}
use mathlib.Core.Bool.{Bool, true, false, not}
use mathlib.Core.List.{List, [], ◌∷◌, ◌++◌, append_assoc, map}
use Prim.Native.Nat.{ℕ, ◌-◌}
use native.Mathlib.Omega.{arith}
use borrow.Author.Tests.{leb-true, ltb-true, lt-ltb}
use lib.Dec.{ltb, leb}
use lib.ListN.{length, get_or, drop, replicate}
use lib.Seq.{slice, length-slice}
use Rattle.lists.specs.Lists.{pick}
use Rattle.lists.proofs.Tests.{and_left, and_right}
use Rattle.octets.specs.Many.{Each, each_octets}
use Rattle.octets.specs.Stands.{Octets}
use Rattle.octets.specs.declared.Span.{Span}
use Rattle.lent.specs.Lent.{same}
use Rattle.lent.proofs.Reading.{same_is}
use Rattle.names.proofs.Allowed.{name_size}
use Rattle.rows.specs.declared.Row.{Row}
use Rattle.editions.specs.declared.Edition.{Edition}
use Rattle.editions.specs.declared.Message.{Message}
use Rattle.editions.specs.Editions.{table_of, number_of, numbered_by}
use Rattle.editions.proofs.Names.{numbered_listed}
use Rattle.meaning.specs.Value.{Value, Given, given, absent, carried, mme, mce, tmgi, one, two, cause, wait, name, reset, list, diagnostics, octets_in, on_carried, on_given, Said, Record, said_by, bare}
use Rattle.meaning.specs.Written.{has_octets, elements_good, octets, none, encoded}
use Rattle.meaning.specs.Ranges.{Ranged}
use Rattle.layout.specs.Rows.{item_row, entry_row, list_octets}
use Rattle.layout.specs.Record.{lists_of, slot_octets, record_octets, lists_in, said_record, is_record, no_record, lent_as, read_record, written_by, written}
use Rattle.round_trips.specs.Ties.{InTypes}
use Rattle.round_trips.specs.LentDiffer.{table_by, slots_shown, shown, slots_carry, carried_in, LentDiffer}
use Rattle.round_trips.proofs.Back.{no_octets, has_octets_lem, said_differ}
use Rattle.round_trips.proofs.GoodAgain.{Has}
use Rattle.round_trips.proofs.LentTypes.{said_types}
use Rattle.round_trips.proofs.LentSlots.{at_zero, slots_shown_lem, as_long, lists_shown, all_carried, slots_carry_lem}

-- ---- octets that are written are a record's, and those of what they say

pub record Lent (e : Edition) (s values os : List ℕ) : Type 0 where
  pub what : Record
  pub read : read_record e s ≡ is_record what
  pub named : numbered_by e (get_or s 0 0) ≡ Some what.message
  pub form : record_octets e what ≡ s
  pub says : said_record e what.message s ≡ what
  pub message : encoded e (said_by values what) ≡ octets os

pub lent_record : (e : Edition) (s values os : List ℕ) → written e s values ≡ octets os → Lent e s values os
unfolding written read_record said_record
lent_record e s values os q = by (numbered_by e (get_or s 0 0)) refl q
  where
    small : (m : Message) (b : Bool) → numbered_by e (get_or s 0 0) ≡ Some m → same (record_octets e (said_record e m s)) s ≡ true
        → pick b (encoded e (said_by values (said_record e m s))) none ≡ octets os → Lent e s values os
    small m true n x q = record { what = said_record e m s; read = rw (n, x); named = n; form = same_is _ s x; says = refl; message = q }
    small m false n x q = no_octets q

    formed : (m : Message) (b : Bool) → same (record_octets e (said_record e m s)) s ≡ b → numbered_by e (get_or s 0 0) ≡ Some m
        → written_by e values (pick b (is_record (said_record e m s)) no_record) ≡ octets os → Lent e s values os
    formed m true x n q = small m (ltb (said_record e m s).crit 3) n x q
    formed m false x n q = no_octets q

    by : (n : Option Message) → numbered_by e (get_or s 0 0) ≡ n → written_by e values (lent_as e s n) ≡ octets os → Lent e s values os
    by (Some m) n q = formed m (same (record_octets e (said_record e m s)) s) refl n q
    by None n q = no_octets q

-- ---- what is written has octets in each value

elements_has : (t : List Row) (vs : List (Given (List ℕ))) → elements_good t vs ≡ true → Each Has vs
unfolding elements_good
elements_has t [] g = tt
elements_has [] (v ∷ vs) g = cc
elements_has (r ∷ t) (absent ∷ vs) g = (tt, elements_has t vs (and_right (not r.mandatory) _ g))
elements_has (r ∷ t) (given v ∷ vs) g = (and_left (has_octets v) _ g, elements_has t vs (and_right (has_octets v) _ g))

written_has : (e : Edition) (w : Said) (os : List ℕ) → encoded e w ≡ octets os → Each Has w.values
written_has e w os q = elements_has (table_of e w.message) w.values (and_left (elements_good (table_of e w.message) w.values) _ (has_octets_lem e w os q).0)

-- ---- so what is said says the record, but for criticality and places

-- as long as the octets are
abbrev of_length : List ℕ → Span
of_length os = record { from = 0; to = length os }

length_in : (values : List ℕ) (v : Span) → ltb 0 (length (octets_in values v)) ≡ true → v.to - v.from ≡ length (octets_in values v)
length_in values v h = by (leb v.to (length values)) refl h
  where
    by : (b : Bool) → leb v.to (length values) ≡ b → ltb 0 (length (pick b (slice v.from v.to values) [])) ≡ true
        → v.to - v.from ≡ length (pick b (slice v.from v.to values) [])
    by true e h = sym (length-slice v.from v.to values (leb-true v.to (length values) e))
    by false e h = absurd (omega (arith, ltb-true 0 0 h))

module _ (values : List ℕ) where
  bare_value : (v : Value Span) → has_octets (on_carried (octets_in values) v) ≡ true → on_carried at_zero v ≡ on_carried of_length (on_carried (octets_in values) v)
  unfolding on_carried has_octets
  bare_value (carried v) h = ap (λ (n : ℕ). carried (record { from = 0; to = n })) (length_in values v h)
  bare_value (mme v) h = refl
  bare_value (mce v) h = refl
  bare_value (tmgi v) h = refl
  bare_value (one v) h = refl
  bare_value (two v) h = refl
  bare_value (cause v) h = refl
  bare_value (wait v) h = refl
  bare_value (name v) h = ap (λ (n : ℕ). name (record { from = 0; to = n })) (length_in values v (lt-ltb 0 (length (octets_in values v)) (name_size (octets_in values v) h).0))
  bare_value (reset v) h = refl
  bare_value (list v) h = refl
  bare_value (diagnostics t v) h = refl

  bare_values : (vs : List (Given Span)) → Each Has (map (on_given (octets_in values)) vs) → map (on_given at_zero) vs ≡ map (on_given of_length) (map (on_given (octets_in values)) vs)
  bare_values [] h = refl
  bare_values (absent ∷ vs) h = ap (λ (us : List (Given Span)). absent ∷ us) (bare_values vs h.1)
  bare_values (given v ∷ vs) h = λ i. given (bare_value v h.0 i) ∷ bare_values vs h.1 i

-- ---- the octets of a record without its criticality and its places

pub shown_bare : (e : Edition) (r : Record) (f : Span → List ℕ) → Ranged (table_of e r.message) (map (on_given f) r.values)
    → number_of e r.message ∷ 0 ∷ slots_shown (table_of e r.message) (drop 2 (record_octets e r)) ≡ record_octets e (bare r)
unfolding record_octets bare
shown_bare e r f g =
    let vs : List (Given Span) = r.values in
    let x : List ℕ = each_octets slot_octets vs in
    let y : List ℕ = each_octets slot_octets (map (on_given at_zero) vs) in
    let pad : List ℕ = replicate (96 - length x) 0 in
    let rest : List ℕ = list_octets 1536 item_row (lists_of vs).items ++ list_octets 1024 entry_row (lists_of vs).entries in
    let a : slots_shown (table_of e r.message) ((x ++ pad) ++ rest) ≡ (y ++ pad) ++ rest =
    ap (slots_shown (table_of e r.message)) (append_assoc x pad rest) ∙ (slots_shown_lem f (pad ++ rest) (table_of e r.message) vs g ∙ sym (append_assoc y pad rest)) in
    rw (as_long (on_given at_zero) vs, lists_shown vs) (ap (λ (p : List ℕ). number_of e r.message ∷ 0 ∷ p) a)

-- ---- a lent record, shown, and what it carries, by what it says

-- the record that what is said gives, without criticality and places
abbrev bare_of : Said → Record
bare_of w = record { message = w.message; crit = 0; values = map (on_given of_length) w.values }

pub in_types : (e : Edition) (s values os : List ℕ) → Octets s → Octets values → (r : Lent e s values os) → InTypes e (said_by values r.what)
in_types e s values os o h r = subst (λ (x : Record). InTypes e (said_by values x)) r.says (said_types e r.what.message s values (numbered_listed e (get_or s 0 0) r.what.message r.named) o h)

module _ (e : Edition) (s values os : List ℕ) (r : Lent e s values os) (g : InTypes e (said_by values r.what)) where
  shown_said : shown e s ≡ record_octets e (bare_of (said_by values r.what))
  unfolding shown bare said_by record_octets
  shown_said =
      let t : List Row = table_of e r.what.message in
      let a : shown e s ≡ get_or s 0 0 ∷ 0 ∷ slots_shown t (drop 2 s) = ap (λ (n : Option Message). get_or s 0 0 ∷ 0 ∷ slots_shown (table_by e n) (drop 2 s)) r.named in
      let b = subst (λ (x : List ℕ). get_or x 0 0 ∷ 0 ∷ slots_shown t (drop 2 x) ≡ record_octets e (bare r.what)) r.form (shown_bare e r.what (octets_in values) g.values) in
      let c : bare r.what ≡ bare_of (said_by values r.what) =
      ap (λ (vs : List (Given Span)). record { message = r.what.message; crit = 0; values = vs }) (bare_values values r.what.values (written_has e (said_by values r.what) os r.message)) in
      a ∙ (b ∙ ap (record_octets e) c)

  carried_said : carried_in e s values ≡ all_carried (said_by values r.what).values
  unfolding carried_in said_by said_record
  carried_said =
      ap (λ (n : Option Message). slots_carry (table_by e n) (drop 2 s) values) r.named
      ∙ (slots_carry_lem values (lists_in s) (table_of e r.what.message) (drop 2 s)
      ∙ ap (λ (x : Record). all_carried (map (on_given (octets_in values)) x.values)) r.says)

-- two that say the same
module _ (e : Edition) (s z values others os : List ℕ) (r : Lent e s values os) (q : Lent e z others os) (g : InTypes e (said_by values r.what)) where
  pub said_shown : said_by values r.what ≡ said_by others q.what → (shown e s ≡ shown e z) × (carried_in e s values ≡ carried_in e z others)
  said_shown x =
      let k = subst (InTypes e) x g in (
        shown_said e s values os r g ∙ (ap (λ (w : Said). record_octets e (bare_of w)) x ∙ sym (shown_said e z others os q k)),
        carried_said e s values os r g ∙ (ap (λ (w : Said). all_carried w.values) x ∙ sym (carried_said e z others os q k)),
      )

pub lent_differ : (e : Edition) → LentDiffer e
lent_differ e s z values others os o p h k a b =
    let r = lent_record e s values os a in
    let q = lent_record e z others os b in
    let g = in_types e s values os o h r in
    said_shown e s z values others os r q g (said_differ e _ _ os g (in_types e z others os p k q) r.message q.message)
