-- Behind the judging each value that is there can be read: the scan has read it, and a row's value is that of an element of its id.
--     opened-legible   so it is of each row's value
-- Assumes nothing.
use mathlib.Core.Path.{◌≡◌, refl, sym, ap, ◌∙◌, subst}
use mathlib.Core.Bool.{Bool, true}
use mathlib.Core.List.{List, [], ◌∷◌}
use Prim.Native.Nat.{ℕ, zero, suc, ◌+◌}
use native.Mathlib.Omega.{arith}
use lib.Dec.{ltb}
use lib.ListN.{length, get_or, take, set, replicate, length-set, length-replicate}
use Rattle.lists.specs.Lists.{fill}
use Rattle.lists.proofs.Tests.{on-pick}
use Rattle.lists.proofs.Fill.{get_d_fill}
use Rattle.std.specs.Prelude.{Ok, Err}
use Rattle.octets.specs.Read.{Read, ◌>>=◌, ◌>>◌}
use Rattle.octets.specs.Many.{Each}
use Rattle.octets.specs.declared.Span.{Span}
use Rattle.octets.specs.Span.{no_span, present}
use Rattle.octets.proofs.Chain.{then_got, same_got, got_stop}
use Rattle.rows.specs.declared.Kind.{Kind}
use Rattle.rows.specs.declared.Row.{Row}
use Rattle.rows.specs.Table.{find, known, no_row, kind_of}
use Rattle.kinds.specs.Kinds.{legible_at}
use Rattle.kinds.proofs.Laws.{as_read}
use Rattle.envelopes.specs.declared.Head.{Head}
use Rattle.envelopes.specs.Envelope.{envelope_at, scan_at, on_head, heads_at}
use Rattle.envelopes.proofs.ScanLaws.{envelope_in}
use Rattle.elements.specs.Judge.{front, read_into, judged_of, extensions_behind, elements_at}
use Rattle.frames.specs.Frame.{count_at}
use Rattle.meaning.specs.Reading.{read_as}
use Rattle.verdicts.specs.Verdict.{Opening, opening_by, opened_at}
use Rattle.reader.specs.Steps.{Got, Legible, IfPresent, AllLegible}

-- ---- one value

got_then_none : {A : Type 0} (r : Read A) → ◌≡◌ {A = Read Unit} (Ok tt) (r >> Ok tt) → Got r
got_then_none (Ok a) q = tt
got_then_none (Err x) q = got_stop q

pub value_legible : (k : Kind) (s : List ℕ) (v : Span) → Ok tt ≡ legible_at k (take v.to s) v.from → Got (read_as k s v)
value_legible k s v q = got_then_none (read_as k s v) (q ∙ as_read k s v)

-- ---- elements, and the rows that have them

-- a span at a place, by what holds of it there
set_holds : (P : ℕ → Span → Type 0) (l : List Span) (i : ℕ) {v : Span} → P i v → ((k : ℕ) → P k (get_or l k no_span)) → (k : ℕ) → P k (get_or (set l i v) k no_span)
set_holds P [] i w go k = go k
set_holds P (x ∷ l) zero w go zero = w
set_holds P (x ∷ l) zero w go (suc k) = go (suc k)
set_holds P (x ∷ l) (suc i) w go zero = go zero
set_holds P (x ∷ l) (suc i) w go (suc k) = set_holds (λ j. P (suc j)) l i w (λ j. go (suc j)) k

no_spans : (n k : ℕ) → get_or (replicate n no_span) k no_span ≡ no_span
no_spans zero k = refl
no_spans (suc n) zero = refl
no_spans (suc n) (suc k) = no_spans n k

not_present : {A : Type 0} (v : Span) → v ≡ no_span → present v ≡ true → A
not_present v e p = let q : present no_span ≡ true = ap present (sym e) ∙ p in let z : ◌≡◌ {A = ℕ} 0 1 = cc in absurd (omega arith)

module _ (t : List Row) (s : List ℕ) where
  abbrev Read' : Head → Type 0
  Read' h = Legible (kind_of t h.id) s h.value

  heads_legible : (n row at : ℕ) {end : ℕ} → Ok end ≡ scan_at t s n at → Each Read' (front t row (heads_at s n at))
  unfolding front heads_at scan_at
  heads_legible zero row at q = tt
  heads_legible (suc n) row at {end} q = by (envelope_at s at) refl q (λ row to. heads_legible n row to)
    where
      by : (r : Read Head) → r ≡ envelope_at s at
          → Ok end ≡ (r >>= λ h. legible_at (kind_of t h.id) (take h.value.to s) h.value.from >> scan_at t s n h.value.to)
          → ((row to : ℕ) → Ok end ≡ scan_at t s n to → Each Read' (front t row (heads_at s n to)))
          → Each Read' (front t row (on_head (λ h. heads_at s n h.value.to) r))
      by (Ok h) e q go =
          let x = then_got (legible_at (kind_of t h.id) (take h.value.to s) h.value.from) _ q in
          let i = envelope_in s at e in
          let w : Read' h = record { order = omega arith; within = i.2; value = value_legible (kind_of t h.id) s h.value x.1 } in
          on-pick (Each Read') (known t h.id)
          (on-pick (Each Read') (ltb (find h.id t) row) tt (w, go (find h.id t + 1) h.value.to x.2))
          (w, go row h.value.to x.2)
      by (Err x) e q go = tt

  abbrev At : ℕ → Span → Type 0
  At k v = IfPresent (get_or t k no_row).kind s v

  rows_legible : (l : List Span) (hs : List Head) → Each Read' hs → ((k : ℕ) → At k (get_or l k no_span)) → (k : ℕ) → At k (get_or (read_into t l hs) k no_span)
  unfolding read_into
  rows_legible l [] g go k = go k
  rows_legible l (h ∷ hs) g go k = rows_legible (set l (find h.id t) h.value) hs g.1 (set_holds At l (find h.id t) (λ p. g.0) go) k

  rows_count : (l : List Span) (hs : List Head) → length (read_into t l hs) ≡ length l
  unfolding read_into
  rows_count l [] = refl
  rows_count l (h ∷ hs) = rows_count (set l (find h.id t) h.value) hs ∙ length-set l (find h.id t) h.value

  pub record Spans (l : List Span) : Type 0 where
    pub count : length l ≡ length t
    pub each : (k : ℕ) → IfPresent (get_or t k no_row).kind s (get_or l k no_span)

  pub opened_spans : (c : Bool) (from : ℕ) {o : Opening} → Ok o ≡ opened_at t c s from → Spans o.spans
  unfolding opened_at elements_at judged_of
  opened_spans c from {o} q =
      let a = then_got (count_at c s from) _ q in
      let n = a.0.elements in
      let b = then_got (elements_at t a.0.container s n (from + 3)) _ a.2 in
      let x = then_got (extensions_behind t a.0.container s n (from + 3)) _ b.1 in
      let d = then_got (scan_at t s n (from + 3)) _ x.1 in
      let hs = front t 0 (heads_at s n (from + 3)) in
      let e : o.spans ≡ read_into t (replicate (length t) no_span) hs
      = ap (λ (x : Opening). x.spans) (same_got b.2 ∙ ap (opening_by n) (same_got x.2)) in
      subst Spans (sym e) (record {
        count = rows_count (replicate (length t) no_span) hs ∙ length-replicate (length t) no_span;
        each = rows_legible (replicate (length t) no_span) hs (heads_legible n 0 (from + 3) d.1) (λ k p. not_present _ (no_spans (length t) k) p);
      })

  -- as an array of 12
  pub array_legible : {l : List Span} → Spans l → AllLegible t s (fill no_span 12 l)
  array_legible {l} g k h = rw (get_d_fill no_span 12 l k) (g.each k)
