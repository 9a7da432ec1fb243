-- Elements laid out in octets, judged by any table whose ids are distinct: all are read, in order, known, and none is missing.
-- Assumes nothing.
use Prim.Native.Nat.{ℕ, zero, suc, ◌+◌, ◌≤◌}
use mathlib.Core.Path.{◌≡◌, ◌∙◌, refl, sym, ap}
use mathlib.Core.Bool.{true, false}
use mathlib.Core.List.{List, [], ◌∷◌, ◌++◌, append_assoc}
use native.Mathlib.Omega.{arith}
use borrow.Author.Tests.{lt-ltb, le-ltb, eq-eqb}
use lib.ListN.{length, get_or, set, replicate, length-append}
use lib.Seq.{set_at}
use Rattle.lists.specs.Lists.{apart}
use Rattle.std.specs.Prelude.{Ok}
use Rattle.octets.specs.declared.Span.{Span}
use Rattle.octets.specs.Span.{no_span}
use Rattle.octets.proofs.Chain.{past, then_got, same_got}
use Rattle.octets.proofs.Back.{ends_back}
use Rattle.kinds.proofs.Laws.{of_kind}
use Rattle.rows.specs.declared.Row.{Row}
use Rattle.envelopes.specs.declared.Head.{Head}
use Rattle.rows.specs.Table.{find, no_row, kind_of}
use Rattle.envelopes.specs.Envelope.{scan_at, heads_at}
use Rattle.elements.specs.Judge.{Found, front, read_into, unknown_of, missing_of, judged_of, extensions_at, elements_at}
use Rattle.meaning.specs.Value.{Given, given, absent}
use Rattle.meaning.specs.Written.{octets_of, how_many}
use Rattle.meaning.specs.Reading.{read_as, value_in, values_in}
use Rattle.round_trips.proofs.ValueBack.{said_in, value_read}
use Rattle.editions.proofs.Tables.{Placed, alike, placed}
use Rattle.round_trips.proofs.Laid.{Laid, ends, skip, more, span_of, head_of}

-- the heads of the elements that are there
unfoldable pub heads_of : List Row → List (Given (List ℕ)) → ℕ → List Head
heads_of [] vs at = []
heads_of (r ∷ t) [] at = []
heads_of (r ∷ t) (given v ∷ vs) at = head_of r (octets_of v) at ∷ heads_of t vs (span_of (octets_of v) at).to
heads_of (r ∷ t) (absent ∷ vs) at = heads_of t vs at

-- where the value of each row stands
unfoldable pub spans_of : List (Given (List ℕ)) → ℕ → List Span
spans_of [] at = []
spans_of (given v ∷ vs) at = span_of (octets_of v) at ∷ spans_of vs (span_of (octets_of v) at).to
spans_of (absent ∷ vs) at = no_span ∷ spans_of vs at

-- ---- what is read

module _ {s : List ℕ} where
  heads_laid : {at : ℕ} {t : List Row} {vs : List (Given (List ℕ))} → Laid s at t vs → heads_at s (how_many vs) at ≡ heads_of t vs at
  unfolding heads_at how_many heads_of
  heads_laid (ends h) = refl
  heads_laid (skip h l) = heads_laid l
  heads_laid (more q h w l) = rw (← q, heads_laid l)

  heads_length : {at : ℕ} {t : List Row} {vs : List (Given (List ℕ))} → Laid s at t vs → length (heads_of t vs at) ≡ how_many vs
  unfolding how_many heads_of
  heads_length (ends h) = refl
  heads_length (skip h l) = heads_length l
  heads_length (more q h w l) = ap suc (heads_length l)

  -- no more elements than rows
  pub count_rows : {at : ℕ} {t : List Row} {vs : List (Given (List ℕ))} → Laid s at t vs → how_many vs ≤ length t
  unfolding how_many
  count_rows (ends h) = omega arith
  count_rows (skip h l) = let b = count_rows l in omega arith
  count_rows (more q h w l) = let b = count_rows l in omega arith

  pub spans_length : {at : ℕ} {t : List Row} {vs : List (Given (List ℕ))} → Laid s at t vs → length (spans_of vs at) ≡ length t
  unfolding spans_of
  spans_length (ends h) = refl
  spans_length (skip h l) = ap suc (spans_length l)
  spans_length (more q h w l) = ap suc (spans_length l)

  pub spans_in_lem : {at : ℕ} {t : List Row} {vs : List (Given (List ℕ))} → Laid s at t vs → (k : ℕ) → (get_or (spans_of vs at) k no_span).to ≤ length s
  unfolding spans_of
  spans_in_lem (ends h) k = omega arith
  spans_in_lem (skip h l) zero = omega arith
  spans_in_lem (skip h l) (suc k) = spans_in_lem l k
  spans_in_lem (more q h w l) zero = h
  spans_in_lem (more q h w l) (suc k) = spans_in_lem l k

  pub missing_laid : {at : ℕ} {t : List Row} {vs : List (Given (List ℕ))} → Laid s at t vs → missing_of t (spans_of vs at) ≡ []
  unfolding spans_of missing_of
  missing_laid (ends h) = refl
  missing_laid (skip h l) = rw h (missing_laid l)
  missing_laid (more {at} {v = v} q h w l) = rw (lt-ltb 0 (span_of (octets_of v) at).to (omega arith)) (missing_laid l)

  pub values_laid : {at : ℕ} {t : List Row} {vs : List (Given (List ℕ))} → Laid s at t vs → said_in t s (spans_of vs at) ≡ vs
  unfolding spans_of values_in value_in
  values_laid (ends h) = refl
  values_laid (skip h l) = ap (λ (x : List (Given (List ℕ))). absent ∷ x) (values_laid l)
  values_laid (more {at} {r} {v = v} q h w l) =
      let a = then_got (read_as r.kind s (span_of (octets_of v) at)) _ w in
      rw (lt-ltb 0 (span_of (octets_of v) at).to (omega arith), ← a.1, ← same_got a.2, values_laid l)

-- ---- by the table

module _ (t : List Row) {s : List ℕ} where
  scan_laid : (k : ℕ) {at : ℕ} {rs : List Row} {vs : List (Given (List ℕ))} → Placed t k rs → Laid s at rs vs
      → (end : ℕ) × (Ok end ≡ scan_at t s (how_many vs) at) × (length s ≤ end)
  unfolding scan_at how_many
  scan_laid k p (ends {at} h) = (at, refl, h)
  scan_laid k p (skip h l) = scan_laid (suc k) p.1 l
  scan_laid k p (more {r = r} q h w l) =
      let e : kind_of t r.id ≡ r.kind = ap (λ (j : ℕ). (get_or t j no_row).kind) p.0.found ∙ ap (λ (x : Row). x.kind) p.0.row in
      let x = scan_laid (suc k) p.1 l in
      (x.0, past _ _ q (past _ tt (of_kind _ _ e (value_read r.kind s _ w)) x.1), x.2)

  front_laid : (k row : ℕ) → row ≤ k → {at : ℕ} {rs : List Row} {vs : List (Given (List ℕ))} → Placed t k rs → Laid s at rs vs → front t row (heads_of rs vs at) ≡ heads_of rs vs at
  unfolding front heads_of
  front_laid k row b p (ends h) = refl
  front_laid k row b p (skip h l) = front_laid (suc k) row (omega arith) p.1 l
  front_laid k row b p (more q h w l) =
      rw (p.0.found, lt-ltb k (length t) p.0.within, le-ltb k row b, front_laid (suc k) (k + 1) (omega arith) p.1 l)

  unknown_laid : (k : ℕ) {at : ℕ} {rs : List Row} {vs : List (Given (List ℕ))} → Placed t k rs → Laid s at rs vs → unknown_of t (heads_of rs vs at) ≡ []
  unfolding unknown_of heads_of
  unknown_laid k p (ends h) = refl
  unknown_laid k p (skip h l) = unknown_laid (suc k) p.1 l
  unknown_laid k p (more q h w l) = rw (p.0.found, lt-ltb k (length t) p.0.within, unknown_laid (suc k) p.1 l)

  -- behind the places of the k rows before
  read_laid : (k : ℕ) (before : List Span) → length before ≡ k → {at : ℕ} {rs : List Row} {vs : List (Given (List ℕ))} → Placed t k rs → Laid s at rs vs
      → read_into t (before ++ replicate (length rs) no_span) (heads_of rs vs at) ≡ before ++ spans_of vs at
  unfolding read_into heads_of spans_of
  read_laid k before e p (ends h) = refl
  read_laid k before e p (skip h l) =
      simp append_assoc at (read_laid (suc k) (before ++ no_span ∷ []) (length-append before _ ∙ (omega arith)) p.1 l)
  read_laid k before e p (more {at} {r} {t = rs} {v} {vs} q h w l) =
      let x : Span = span_of (octets_of v) at in
      let z : set (before ++ no_span ∷ replicate (length rs) no_span) (find r.id t) x ≡ (before ++ x ∷ []) ++ replicate (length rs) no_span =
      ap (λ (j : ℕ). set (before ++ no_span ∷ replicate (length rs) no_span) j x) p.0.found
      ∙ (set_at before no_span _ x k e ∙ sym (append_assoc before (x ∷ []) _)) in
      ap (λ (l : List Span). read_into t l (heads_of rs vs x.to)) z
      ∙ (read_laid (suc k) (before ++ x ∷ []) (length-append before _ ∙ (omega arith)) p.1 l ∙ append_assoc before (x ∷ []) _)

-- ---- the judging

pub elements_back : (t : List Row) → apart alike t ≡ true → {s : List ℕ} {at : ℕ} {vs : List (Given (List ℕ))} → Laid s at t vs
    → Ok (record { place = how_many vs; spans = spans_of vs at; listed = [] }) ≡ elements_at t false s (how_many vs) at
unfolding elements_at extensions_at judged_of unknown_of
elements_back t d {s} {at} {vs} l =
    let p = placed t d in
    let x = scan_laid t 0 p l in
    past _ [] (past _ x.0 x.1 (past _ tt (ends_back s x.0 x.2) refl))
    (ap (λ (f : Found). Ok f)
    (rw (heads_laid l, front_laid t 0 0 (omega arith) p l, heads_length l, eq-eqb (how_many vs) (how_many vs) refl, read_laid t 0 [] refl p l, unknown_laid t 0 p l, missing_laid l)))
