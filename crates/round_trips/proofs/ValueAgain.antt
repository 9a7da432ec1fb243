-- A value that was read, written again, is the same octets; and it has octets.
-- Assumes nothing.
use mathlib.Core.Path.{◌≡◌, ◌∙◌, refl, sym, subst}
use mathlib.Core.Bool.{Bool, true, false, not, ◌&&◌}
use mathlib.Core.List.{List, [], ◌∷◌}
use Prim.Native.Nat.{ℕ, ◌<◌, ◌≤◌}
use native.Mathlib.Omega.{arith}
use borrow.Author.Tests.{ltb-true, lt-ltb, le-leb}
use lib.Dec.{ltb}
use lib.ListN.{length, take, drop, length-drop}
use lib.Seq.{take-length, length-take-le}
use Rattle.lists.specs.Lists.{pick, some}
use Rattle.std.specs.Prelude.{Ok, None, Option, Some}
use Rattle.octets.specs.Read.{Read, ◌>>=◌}
use Rattle.octets.specs.Stands.{Fills, Octets}
use Rattle.octets.specs.declared.Span.{Span}
use Rattle.octets.proofs.Chain.{then_got, same_got}
use Rattle.octets.proofs.Stood.{octets_front}
use Rattle.octets.specs.Many.{Each}
use Rattle.values.specs.Values.{mme_at, mce_at, tmgi_at, one_at, two_at, cause_at, wait_at}
use Rattle.names.specs.Names.{name_allowed, name_at}
use Rattle.names.specs.Written.{name_octets}
use Rattle.names.proofs.Good.{name_in_lem, name_good}
use Rattle.names.proofs.Again.{name_again}
use Rattle.values.proofs.Again.{mme_again, mce_again, tmgi_again, one_again, two_again, cause_again, wait_again}
use Rattle.values.proofs.Good.{cause_good, wait_good}
use Rattle.items.specs.Items.{ResetType, whole, part, items_at, reset_at}
use Rattle.items.specs.Written.{acknowledgement_crit, GoodReset}
use Rattle.items.proofs.Again.{items_again, reset_again}
use Rattle.items.proofs.Good.{items_good, reset_good_lem}
use Rattle.entries.specs.declared.Entry.{Entry}
use Rattle.diagnostics.specs.Diagnostics.{Diagnostics, diagnostics_at}
use Rattle.diagnostics.specs.Written.{Under, GoodEntry, GoodDiagnostics}
use Rattle.diagnostics.proofs.Again.{diagnostics_again}
use Rattle.rows.specs.declared.Kind.{Kind}
use Rattle.rows.specs.declared.Kind.TheVariants as kind
use Rattle.rows.specs.Table.{meanings}
use Rattle.kinds.specs.Kinds.{legible_at}
use Rattle.meaning.specs.Value.{Value, mme, mce, tmgi, one, two, cause, wait, name, reset, list, diagnostics, octets_in, on_carried}
use Rattle.meaning.specs.Written.{octets_of, is_list_length, reset_good, under, entry_good, entries_good, diagnostics_good, has_octets}
use Rattle.meaning.specs.Reading.{read_as}
use Rattle.round_trips.specs.Ties.{items_marked}
use Rattle.round_trips.proofs.ValueBack.{front_in, scanned_as}

-- a value of a kind that can be read is read
pub read_as_lem : (k : Kind) (s : List ℕ) (p : Span) → Ok tt ≡ legible_at k (take p.to s) p.from → (v : Value Span) × (Ok v ≡ read_as k s p)
read_as_lem k s p q = let a = then_got (read_as k s p) _ (q ∙ scanned_as k s p) in (a.0, a.1)

-- what holds of each value that a reading gives holds of the value that was read
pub of_read : {A : Type 0} (P : Value Span → Type 0) (is : A → Value Span) (r : Read A) {v : Value Span} → Ok v ≡ r >>= (λ x. Ok (is x)) → ((a : A) → Ok a ≡ r → P (is a)) → P v
of_read P is r q h = let a = then_got r _ q in subst P (sym (same_got a.2)) (h a.0 a.1)

-- a name that was read at a place has the same octets in the whole
name_there : (s : List ℕ) (p v : Span) → p.to ≤ length s → Ok v ≡ name_at (take p.to s) p.from → octets_in (take p.to s) v ≡ octets_in s v
name_there s p v i e = let n = name_in_lem (take p.to s) p.from e in front_in s p.to v (omega (arith, n.2, length-take-le p.to s i)) i

module _ (s : List ℕ) (o : Octets s) (p : Span) where
  abbrev front : List ℕ
  front = take p.to s

  -- its octets fill s from the place to its end
  abbrev Filled : Value Span → Type 0
  Filled v = Fills (take p.to s) p.from (octets_of (on_carried (octets_in s) v))

  pub value_again : (k : Kind) {v : Value Span} → p.from ≤ p.to → p.to ≤ length s → Ok v ≡ read_as k s p → items_marked k (take p.to s) p.from
      → Fills (take p.to s) p.from (octets_of (on_carried (octets_in s) v))
  unfolding read_as octets_of on_carried
  value_again kind.Carried l i q m =
      let n = length-drop p.from front in
      let f = length-take-le p.to s i in
      subst Filled (sym (same_got q))
      (rw (le-leb p.to (length s) i) (record { stands = record { room = omega arith; octets = take-length (drop p.from front) }; ends = omega arith }))
  value_again kind.Mme l i q m = of_read Filled mme (mme_at front p.from) q (λ a e. mme_again front p.from (octets_front s p.to o) e)
  value_again kind.Mce l i q m = of_read Filled mce (mce_at front p.from) q (λ a e. mce_again front p.from (octets_front s p.to o) e)
  value_again kind.Tmgi l i q m = of_read Filled tmgi (tmgi_at front p.from) q (λ a e. tmgi_again front p.from (octets_front s p.to o) e)
  value_again kind.OneOctet l i q m = of_read Filled one (one_at front p.from) q (λ a e. one_again front p.from (octets_front s p.to o) e)
  value_again kind.TwoOctets l i q m = of_read Filled two (two_at front p.from) q (λ a e. two_again front p.from (octets_front s p.to o) e)
  value_again kind.Cause l i q m = of_read Filled cause (cause_at front p.from) q (λ a e. cause_again front p.from (octets_front s p.to o) e)
  value_again kind.Wait l i q m = of_read Filled wait (wait_at front p.from) q (λ a e. wait_again front p.from (octets_front s p.to o) e)
  value_again kind.Name l i q m =
      of_read Filled name (name_at front p.from) q
      (λ a e. subst (λ (x : List ℕ). Fills front p.from (name_octets x)) (name_there s p a i e) (name_again front p.from (octets_front s p.to o) e))
  value_again kind.ResetType l i q m = of_read Filled reset (reset_at front p.from) q (λ a e. reset_again front p.from (octets_front s p.to o) a e (m a e))
  value_again kind.Acknowledged l i q m = of_read Filled list (items_at front p.from) q (λ a e. items_again acknowledgement_crit front p.from (octets_front s p.to o) e m)
  value_again (kind.Diagnostics t) l i q m =
      of_read Filled (diagnostics t) (diagnostics_at (meanings t) front p.from) q
      (λ a e. let d = diagnostics_again front (octets_front s p.to o) (meanings t) p.from a e in record { stands = d.0; ends = d.1 })

-- ---- it has octets

both : {a b : Bool} → a ≡ true → b ≡ true → (a && b) ≡ true
both e f = rw (e, f)

pub counted_good : (n : ℕ) → 0 < n → n ≤ 256 → is_list_length n ≡ true
counted_good n a b = both (lt-ltb 0 n a) (le-leb n 256 b)

reset_has : (r : ResetType) → GoodReset r → reset_good r ≡ true
reset_has whole g = refl
reset_has (part is) g = counted_good (length is) g.0 g.1

under_has : (n : ℕ) (x : Option ℕ) → Under n x → under n x ≡ true
under_has n (Some v) g = lt-ltb v n g
under_has n None g = refl

-- no entry is bad
entries_has : (es : List Entry) → Each GoodEntry es → not (some (λ (e : Entry). not (entry_good e)) es) ≡ true
entries_has [] g = refl
entries_has (e ∷ es) g = rw (lt-ltb e.crit 3 g.0.crit, lt-ltb e.error 2 g.0.error) (entries_has es g.1)

list_has : (b : Bool) (es : List Entry) → b ≡ ltb 0 (length es) → length es ≤ 256 → Each GoodEntry es → pick b (entries_good es) true ≡ true
list_has false es e n g = refl
list_has true es e n g = both (counted_good (length es) (ltb-true 0 (length es) (sym e)) n) (entries_has es g)

pub diagnostics_has : (n : ℕ) (d : Diagnostics) → GoodDiagnostics n d → diagnostics_good n d ≡ true
diagnostics_has n d g =
    both (both (under_has n d.head.trigger g.head.trigger) (under_has 3 d.head.crit g.head.crit)) (list_has d.head.listed d.entries g.listed g.count g.entries)

module _ (s : List ℕ) (o : Octets s) (p : Span) where
  abbrev Has : Value Span → Type 0
  Has v = has_octets (on_carried (octets_in s) v) ≡ true

  -- a carried value too, if there is an octet
  pub value_has : (k : Kind) {v : Value Span} → p.from < p.to → p.to ≤ length s → Ok v ≡ read_as k s p → has_octets (on_carried (octets_in s) v) ≡ true
  unfolding read_as has_octets on_carried
  value_has kind.Carried l i q =
      let n = length-drop p.from (take p.to s) in
      let f = length-take-le p.to s i in
      subst Has (sym (same_got q)) (rw (le-leb p.to (length s) i) (lt-ltb 0 (length (drop p.from (take p.to s))) (omega arith)))
  value_has kind.Mme l i q = of_read Has mme (mme_at (front s o p) p.from) q (λ a e. refl)
  value_has kind.Mce l i q = of_read Has mce (mce_at (front s o p) p.from) q (λ a e. refl)
  value_has kind.Tmgi l i q = of_read Has tmgi (tmgi_at (front s o p) p.from) q (λ a e. refl)
  value_has kind.OneOctet l i q = of_read Has one (one_at (front s o p) p.from) q (λ a e. refl)
  value_has kind.TwoOctets l i q = of_read Has two (two_at (front s o p) p.from) q (λ a e. refl)
  value_has kind.Cause l i q = of_read Has cause (cause_at (front s o p) p.from) q (λ a e. lt-ltb _ _ (cause_good (front s o p) p.from e))
  value_has kind.Wait l i q = of_read Has wait (wait_at (front s o p) p.from) q (λ a e. lt-ltb _ _ (wait_good (front s o p) p.from e))
  value_has kind.Name l i q =
      of_read Has name (name_at (front s o p) p.from) q
      (λ a e. subst (λ (x : List ℕ). name_allowed x ≡ true) (name_there s p a i e) (name_good (front s o p) p.from e))
  value_has kind.ResetType l i q = of_read Has reset (reset_at (front s o p) p.from) q (λ a e. reset_has a (reset_good_lem (front s o p) p.from (octets_front s p.to o) e))
  value_has kind.Acknowledged l i q =
      of_read Has list (items_at (front s o p) p.from) q
      (λ a e. let g = items_good (front s o p) p.from (octets_front s p.to o) e in counted_good (length a) g.0 g.1)
  value_has (kind.Diagnostics t) l i q =
      of_read Has (diagnostics t) (diagnostics_at (meanings t) (front s o p) p.from) q
      (λ a e. diagnostics_has (meanings t) a (diagnostics_again (front s o p) (octets_front s p.to o) (meanings t) p.from a e).2)
