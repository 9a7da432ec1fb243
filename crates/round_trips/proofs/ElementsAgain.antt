-- Elements that were read, in the order of the rows of any table, and written again from the values of the rows, are the same octets, and as many.
-- Assumes nothing.
use mathlib.Core.Path.{◌≡◌, ◌∙◌, refl, sym, ap}
use mathlib.Core.Bool.{Bool, true, false}
use mathlib.Core.List.{List, [], ◌∷◌}
use Prim.Native.Nat.{ℕ, suc, ◌+◌, ◌-◌, ◌<◌, ◌≤◌}
use native.Mathlib.Omega.{arith}
use borrow.Author.Tests.{eqb-true, lt-ltb}
use lib.Dec.{eqb}
use lib.ListN.{length, get_or}
use Rattle.lists.specs.Lists.{pick}
use Rattle.std.specs.Prelude.{Ok}
use Rattle.octets.specs.Stands.{Fills, Octets}
use Rattle.octets.specs.declared.Span.{Span}
use Rattle.octets.specs.Span.{no_span}
use Rattle.octets.proofs.Stood.{stands_none}
use Rattle.octets.specs.Many.{Each}
use Rattle.rows.specs.declared.Kind.{Kind}
use Rattle.rows.specs.declared.Row.{Row}
use Rattle.envelopes.specs.declared.Head.{Head}
use Rattle.rows.specs.Table.{find, no_row}
use Rattle.envelopes.proofs.ScanLaws.{envelope_in}
use Rattle.meaning.specs.Value.{Value, given, on_carried, on_given, octets_in}
use Rattle.meaning.specs.Written.{octets_of}
use Rattle.meaning.specs.Reading.{read_as, value_in}
use Rattle.round_trips.specs.Ties.{Regular, row_by_id}
use Rattle.round_trips.proofs.ValueAgain.{read_as_lem, value_again}
use Rattle.round_trips.proofs.EnvelopeAgain.{fills_join, envelope_again}
use Rattle.round_trips.proofs.Ordered.{Scanned, Ordered, Holds}
use Rattle.round_trips.proofs.Rows.{octets_from, count_from, row_given, rows_absent, rows_none}

-- the row of a known id has that id
row_id : (t : List Row) (id : ℕ) → find id t < length t → (row_by_id t id).id ≡ id
unfolding find
row_id [] id h = absurd (omega arith)
row_id (r ∷ t) id h = by (eqb r.id id) refl (row_id t id) h
  where
    by : (b : Bool) → eqb r.id id ≡ b → (find id t < length t → (row_by_id t id).id ≡ id) → pick b 0 (suc (find id t)) < suc (length t)
        → (get_or (r ∷ t) (pick b 0 (suc (find id t))) no_row).id ≡ id
    by true e f k = eqb-true r.id id e
    by false e f k = f (omega arith)

-- a value that can be read where it stands is given
value_given : (k : Kind) (s : List ℕ) (x v : Span) {a : Value Span} → x ≡ v → 0 < v.to → Ok a ≡ read_as k s v → on_given (octets_in s) (value_in k s x) ≡ given (on_carried (octets_in s) a)
unfolding value_in
value_given k s x v e h q = rw (e, lt-ltb 0 v.to h, ← q)

module _ (t : List Row) (s : List ℕ) (o : Octets s) (end : ℕ) (whole : length s ≤ end) (l : List Span) (n : length l ≡ length t) where
  -- the octets and the number of the rows' values, from a row on
  abbrev Again : ℕ → ℕ → List Head → Type 0
  Again row at hs = Fills s at (octets_from t s l row) × (count_from t s l row ≡ length hs)

  -- an element at its row
  element_again : (at : ℕ) (h : Head) (hs : List Head) → Scanned t s end at (h ∷ hs) → find h.id t < length t → get_or l (find h.id t) no_span ≡ h.value → Regular t s h
      → Again (find h.id t + 1) h.value.to hs → Again (find h.id t) at (h ∷ hs)
  element_again at h hs q b e g z =
      let x = envelope_in s at q.0 in
      let c = x.1 in
      let v = read_as_lem (row_by_id t h.id).kind s h.value q.1 in
      let f = value_again s o h.value (row_by_id t h.id).kind (omega arith) x.2 v.1 g.items in
      let w = envelope_again s at h (row_by_id t h.id) (octets_of (on_carried (octets_in s) v.0)) o q.0 (sym (row_id t h.id b)) g.crit f in
      let r = row_given t s l n (find h.id t) b (on_carried (octets_in s) v.0) (value_given (row_by_id t h.id).kind s _ h.value e (omega arith) v.1) in
      (rw r.0 (fills_join w.0 w.1 z.0), r.1 ∙ ap suc z.1)

  pub elements_again : (row at : ℕ) (hs : List Head) → row ≤ length t → at ≤ length s → Scanned t s end at hs → Ordered t row hs → Holds t l row hs → Each (Regular t s) hs
      → Fills s at (octets_from t s l row) × (count_from t s l row ≡ length hs)
  elements_again row at [] b i q p h g =
      let d : row + (length t - row) ≡ length t = omega arith in
      let a = rw d at (rows_absent t s l n (length t - row) row (omega arith) (λ j x y. h j x)) in
      let z = rows_none t s l n in
      let e : length s ≤ at = rw q at whole in
      (rw (a.0 ∙ z.0) (record { stands = stands_none i; ends = omega arith }), a.1 ∙ z.1)
  elements_again row at (h ∷ hs) b i q p d g =
      let k = p.0 in
      let m = p.1 in
      let c : row + (find h.id t - row) ≡ find h.id t = omega arith in
      let a = rw c at (rows_absent t s l n (find h.id t - row) row (omega arith) (λ j x y. d.0 j x (omega arith))) in
      let r = elements_again (find h.id t + 1) h.value.to hs (omega arith) (envelope_in s at q.0).2 q.2 p.2 d.2 g.1 in
      let z = element_again at h hs q p.1 d.1 g.0 r in
      (rw a.0 z.0, a.1 ∙ z.1)
