-- The walk, element after element, over any table.
--     Step                       what the walk holds: the elements done, and what the definitions make of the rest
--     Sought, sought_past        the same, with an element that was read, while its row is sought
--     step_start                 nothing is done
--     step_known, step_unknown   an element more, of a row, or unknown
--     walk_end, walk_misplaced   the walk stops, and found what counts
--     walk_cut, walk_bad         it stops at what cannot be read
-- Assumes nothing.
use mathlib.Core.Path.{◌≡◌, ◌∙◌, refl, sym, ap, subst}
use mathlib.Core.List.{List, [], ◌∷◌, ◌++◌, append_assoc, append-nil}
use Prim.Native.Nat.{ℕ, ◌+◌, ◌-◌, ◌<◌, ◌≤◌}
use native.Mathlib.Omega.{arith}
use native.Mathlib.Nat.{sub-zero}
use borrow.Author.Tests.{lt-ltb, le-ltb}
use lib.ListN.{length, take, drop, set, get_or, replicate, length-append, length-replicate, replicate-append-replicate}
use lib.Seq.{set_out}
use Rattle.lists.specs.Lists.{fill}
use Rattle.lists.proofs.Fill.{fill_set}
use Rattle.std.specs.Prelude.{Ok, Err}
use Rattle.octets.specs.declared.Stop.{Stop}
use Rattle.octets.specs.declared.Span.{Span}
use Rattle.octets.specs.Span.{no_span}
use Rattle.octets.proofs.Chain.{got_stop}
use Rattle.kinds.specs.Kinds.{legible_at}
use Rattle.kinds.proofs.Laws.{carried}
use Rattle.entries.specs.declared.Entry.{Entry}
use Rattle.rows.specs.declared.Row.{Row}
use Rattle.rows.specs.Table.{no_row, find, kind_of}
use Rattle.rows.proofs.TableLaws.{row_here, row_past, row_kind, ended, unread}
use Rattle.envelopes.specs.declared.Head.{Head}
use Rattle.envelopes.specs.Envelope.{envelope_at, scan_at, heads_at}
use Rattle.envelopes.proofs.ScanLaws.{scan_cut, scan_bad, scan_more, heads_none, heads_one}
use Rattle.elements.specs.Judge.{front, read_into, read_of, unknown_entry, unknown_of}
use Rattle.elements.proofs.WalkLaws.{read_snoc, read_rows, unknown_snoc}
use Rattle.judging.specs.declared.Tally.{Tally}
use Rattle.judging.specs.Judging.{tally_of, tallied, Seen, WalkedTo}
use Rattle.judging.proofs.TallyLaws.{tally_more}

fill_none : (n : ℕ) → n ≤ 12 → replicate 12 no_span ≡ fill no_span 12 (replicate n no_span)
fill_none n h =
    let e : n + (12 - n) ≡ 12 = omega arith in
    sym (ap (λ (k : ℕ). replicate n no_span ++ replicate (12 - k) no_span) (length-replicate n no_span) ∙ (replicate-append-replicate n (12 - n) no_span ∙ ap (λ (k : ℕ). replicate k no_span) e))

-- ---- what the walk holds

pub record Step (t : List Row) (s : List ℕ) (n from row i at : ℕ) (places : List Span) (tally : Tally) : Type 0 where
  pub done : List Head
  pub order : done ++ front t row (heads_at s (n - i) at) ≡ front t 0 (heads_at s n from)
  pub size : length done ≡ i
  pub count : i ≤ n
  pub read : places ≡ fill no_span 12 (read_of t done)
  pub list : tally ≡ tally_of (unknown_of t done)
  pub faults : scan_at t s (n - i) at ≡ scan_at t s n from

-- an element was read, and its id stands in none of the first k rows
pub record Sought (t : List Row) (s : List ℕ) (n from row i at : ℕ) (places : List Span) (tally : Tally) (h : Head) (k : ℕ) : Type 0 where
  pub step : Step t s n from row i at places tally
  pub more : i < n
  pub read : Ok h ≡ envelope_at s at
  pub rest : k + find h.id (drop k t) ≡ find h.id t

-- what an unknown element is tally as
abbrev unknown : Head → Entry
unknown h = record { crit = h.crit; id = h.id; error = 0 }

-- it stops there
abbrev Stops : List Row → List ℕ → ℕ → ℕ → ℕ → ℕ → List Span → Tally → Type 0
Stops t s n from i at places tally = WalkedTo t s n from places (record { at = at; place = i; tally = tally })

pub step_start : (t : List Row) {s : List ℕ} {n from : ℕ} → length t ≤ 12 → Step t s n from 0 0 from (replicate 12 no_span) (tally_of [])
unfolding read_into unknown_of
step_start t h = record { done = []; order = rw sub-zero; size = refl; count = omega arith; read = fill_none (length t) h; list = refl; faults = rw sub-zero }

module _ {t : List Row} {s : List ℕ} {n from row i at : ℕ} {places : List Span} {tally : Tally} (p : Step t s n from row i at places tally) where
  -- nothing more counts
  over : front t row (heads_at s (n - i) at) ≡ [] → Stops t s n from i at places tally
  over e =
      let q : p.done ≡ front t 0 (heads_at s n from) = sym (append-nil p.done) ∙ (ap (λ (x : List Head). p.done ++ x) (sym e) ∙ p.order) in
      record {
        within = p.count;
        faults = p.faults;
        seen = λ to g. subst (λ (f : List Head). Seen t f places (record { at = at; place = i; tally = tally })) q
            (record { place = sym p.size; spans = p.read; tally = p.list });
      }

  -- something cannot be read
  broken : {x : Stop} → Err x ≡ scan_at t s (n - i) at → Stops t s n from i at places tally
  broken q = record { within = p.count; faults = p.faults; seen = λ to g. got_stop (g ∙ sym q) }

  pub walk_end : n ≤ i → Stops t s n from i at places tally
  unfolding front
  walk_end h = over (rw (heads_none t s (n - i) at (omega arith)))

  pub walk_cut : i < n → {x : Stop} → Err x ≡ envelope_at s at → Stops t s n from i at places tally
  walk_cut b {x} q = broken {x = x} (scan_cut t s (n - i) at (λ e. omega arith) q)

module _ {t : List Row} {s : List ℕ} {n from row i at : ℕ} {places : List Span} {tally : Tally} {h : Head} {k : ℕ} (p : Sought t s n from row i at places tally h k) where
  left : n - i ≡ 0 → ⊥
  left e = let b = p.more in omega arith

  -- the element is done, and row' is the first row that may still come
  done_with : (row' : ℕ) → front t row (heads_at s (n - i) at) ≡ h ∷ front t row' (heads_at s (n - i - 1) h.value.to)
      → Ok tt ≡ legible_at (kind_of t h.id) (take h.value.to s) h.value.from
      → {places' : List Span} → places' ≡ fill no_span 12 (read_of t (p.step.done ++ h ∷ []))
      → {after : Tally} → after ≡ tally_of (unknown_of t p.step.done ++ unknown_entry t h)
      → Step t s n from row' (i + 1) h.value.to places' after
  done_with row' g r x l =
      let z : n - (i + 1) ≡ n - i - 1 = omega arith in
      let b = p.more in
      let d = p.step.done in
      record {
        done = d ++ h ∷ [];
        order = rw z (append_assoc d (h ∷ []) _ ∙ (ap (λ (x : List Head). d ++ x) (sym g) ∙ p.step.order));
        size = length-append d (h ∷ []) ∙ ap (λ (j : ℕ). j + 1) p.step.size;
        count = omega arith;
        read = x;
        list = l ∙ ap tally_of (sym (unknown_snoc t d h));
        faults = rw z (scan_more t s (n - i) at left h p.read r ∙ p.step.faults);
      }

  module _ (a : length t ≤ k) where
    pub step_unknown : Step t s n from row (i + 1) h.value.to places (tallied tally h.crit)
    unfolding front
    step_unknown =
        let f = ended t h.id k a p.rest in
        let z = read_rows t p.step.done in
        done_with row
        (rw (heads_one t s (n - i) at left h p.read, f, le-ltb k (length t) a))
        (rw (← unread t h.id (rw f a)) (carried _ _))
        (p.step.read ∙ ap (fill no_span 12) (sym (set_out (read_of t p.step.done) (find h.id t) h.value (omega arith)) ∙ read_snoc t _ p.step.done h))
        (rw (f, le-ltb k (length t) a) (tally_more tally _ p.step.list (unknown h)))

  module _ (a : k < length t) where
    pub sought_past : ((get_or t k no_row).id ≡ h.id → ⊥) → Sought t s n from row i at places tally h (k + 1)
    sought_past e = record { step = p.step; more = p.more; read = p.read; rest = row_past t h.id k a p.rest e }

    module _ (e : (get_or t k no_row).id ≡ h.id) where
      here : find h.id t ≡ k
      here = row_here t h.id k a p.rest e

      kind : (get_or t k no_row).kind ≡ kind_of t h.id
      kind = row_kind t h.id k a p.rest e

      pub walk_bad : {x : Stop} → Err x ≡ legible_at (get_or t k no_row).kind (take h.value.to s) h.value.from → Stops t s n from i at places tally
      walk_bad {x} r = broken p.step {x = x} (scan_bad t s (n - i) at left h p.read (rw kind at r))

      pub walk_misplaced : k < row → Stops t s n from i at places tally
      unfolding front
      walk_misplaced c = over p.step (rw (heads_one t s (n - i) at left h p.read, here, lt-ltb k (length t) a, lt-ltb k row c))

      pub step_known : row ≤ k → Ok tt ≡ legible_at (get_or t k no_row).kind (take h.value.to s) h.value.from
          → Step t s n from (k + 1) (i + 1) h.value.to (set places k h.value) tally
      unfolding front
      step_known c r =
          let d = p.step.done in
          done_with (k + 1)
          (rw (heads_one t s (n - i) at left h p.read, here, lt-ltb k (length t) a, le-ltb k row c))
          (rw kind at r)
          (rw p.step.read (fill_set no_span 12 (read_of t d) h.value k (rw (read_rows t d) a) ∙ ap (fill no_span 12) (ap (λ (j : ℕ). set (read_of t d) j h.value) (sym here) ∙ read_snoc t _ d h)))
          (p.step.list ∙ ap tally_of (sym (rw (here, lt-ltb k (length t) a) (append-nil _))))
