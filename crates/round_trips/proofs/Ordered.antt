-- Elements that were scanned stand one after another; where each is known and counts, they come in the order of their rows, and each row holds its own.
-- Assumes nothing.
use mathlib.Core.Path.{◌≡◌, ◌∙◌, refl, ap, subst}
use mathlib.Core.Bool.{Bool, true, false}
use mathlib.Core.List.{List, [], ◌∷◌}
use Prim.Native.Nat.{ℕ, zero, suc, ◌+◌, ◌<◌, ◌≤◌}
use native.Mathlib.Omega.{arith}
use borrow.Author.Tests.{ltb-true, ltb-false}
use lib.Dec.{ltb}
use lib.ListN.{length, take, set, get_or, length-set}
use lib.Seq.{get_or-set_same, get_or-set_other}
use Rattle.lists.specs.Lists.{pick}
use Rattle.std.specs.Prelude.{Ok}
use Rattle.octets.specs.Read.{Read}
use Rattle.octets.specs.declared.Span.{Span}
use Rattle.octets.specs.Span.{no_span}
use Rattle.octets.proofs.Chain.{then_got, same_got}
use Rattle.octets.specs.Many.{Each}
use Rattle.kinds.specs.Kinds.{legible_at}
use Rattle.rows.specs.declared.Row.{Row}
use Rattle.envelopes.specs.declared.Head.{Head}
use Rattle.rows.specs.Table.{find, kind_of}
use Rattle.envelopes.specs.Envelope.{envelope_at, scan_at, on_head, heads_at}
use Rattle.elements.specs.Judge.{front, read_into}
use Rattle.round_trips.specs.Ties.{Regular}

module _ (t : List Row) (s : List ℕ) (end : ℕ) where
  -- elements, each with a value that can be read, from the place on up to the end
  abbrev pub Scanned : ℕ → List Head → Type 0
  Scanned at [] = end ≡ at
  Scanned at (h ∷ hs) = (Ok h ≡ envelope_at s at) × (Ok tt ≡ legible_at (kind_of t h.id) (take h.value.to s) h.value.from) × Scanned h.value.to hs

  pub scanned : (n at : ℕ) → Ok end ≡ scan_at t s n at → (length (heads_at s n at) ≡ n) × Scanned at (heads_at s n at)
  unfolding scan_at heads_at
  scanned zero at q = (refl, same_got q)
  scanned (suc n) at q =
      let a = then_got (envelope_at s at) _ q in
      let b = then_got (legible_at (kind_of t a.0.id) (take a.0.value.to s) a.0.value.from) _ a.2 in
      let r = scanned n a.0.value.to b.2 in
      subst (λ (x : Read Head). (length (on_head (λ h. heads_at s n h.value.to) x) ≡ suc n) × Scanned at (on_head (λ h. heads_at s n h.value.to) x)) a.1
      (ap suc r.0, (a.1, b.1, r.1))

module _ (t : List Row) where
  -- each is known, and none comes before row, nor before the row behind the one before it
  abbrev pub Ordered : ℕ → List Head → Type 0
  Ordered row [] = Unit
  Ordered row (h ∷ hs) = (row ≤ find h.id t) × (find h.id t < length t) × Ordered (find h.id t + 1) hs

  pub ordered : (s : List ℕ) (row : ℕ) (hs : List Head) → Each (Regular t s) hs → length hs ≤ length (front t row hs) → (front t row hs ≡ hs) × Ordered row hs
  unfolding front
  ordered s row [] g l = (refl, tt)
  ordered s row (h ∷ hs) g l = rw g.0.known (by (ltb (find h.id t) row) refl (ordered s (find h.id t + 1) hs g.1) (rw g.0.known at l))
    where
      fs : List Head
      fs = front t (find h.id t + 1) hs

      by : (b : Bool) → ltb (find h.id t) row ≡ b → (length hs ≤ length fs → (fs ≡ hs) × Ordered (find h.id t + 1) hs) → length (h ∷ hs) ≤ length (pick b [] (h ∷ fs))
          → (pick b [] (h ∷ fs) ≡ h ∷ hs) × Ordered row (h ∷ hs)
      by true e r k = absurd (omega arith)
      by false e r k =
          let x = r (omega arith) in
          (ap (λ (y : List Head). h ∷ y) x.0, (ltb-false (find h.id t) row e, ltb-true (find h.id t) (length t) g.0.known, x.1))

  -- rows before the first that may still come keep what they hold
  kept : (j row : ℕ) (l : List Span) (hs : List Head) → j < row → Ordered row hs → get_or (read_into t l hs) j no_span ≡ get_or l j no_span
  unfolding read_into
  kept j row l [] b o = refl
  kept j row l (h ∷ hs) b o =
      let k = o.0 in
      kept j (find h.id t + 1) (set l (find h.id t) h.value) hs (omega arith) o.2 ∙ get_or-set_other l (find h.id t) j h.value no_span (λ e. omega arith)

  -- from row on, the spans are those of the elements, and nothing between
  abbrev pub Holds : List Span → ℕ → List Head → Type 0
  Holds l row [] = (j : ℕ) → row ≤ j → get_or l j no_span ≡ no_span
  Holds l row (h ∷ hs) =
      ((j : ℕ) → row ≤ j → j < find h.id t → get_or l j no_span ≡ no_span) × (get_or l (find h.id t) no_span ≡ h.value) × Holds l (find h.id t + 1) hs

  pub holds : (row : ℕ) (l : List Span) (hs : List Head) → length l ≡ length t → ((j : ℕ) → row ≤ j → get_or l j no_span ≡ no_span) → Ordered row hs → Holds (read_into t l hs) row hs
  unfolding read_into
  holds row l [] n e o = e
  holds row l (h ∷ hs) n e o =
      let m : List Span = set l (find h.id t) h.value in
      let b = o.0 in
      let c = o.1 in (
        λ j x y. kept j (find h.id t + 1) m hs (omega arith) o.2 ∙ (get_or-set_other l (find h.id t) j h.value no_span (λ z. omega arith) ∙ e j x),
        kept (find h.id t) (find h.id t + 1) m hs (omega arith) o.2 ∙ get_or-set_same l (find h.id t) h.value no_span (omega arith),
        holds (find h.id t + 1) m hs (length-set l (find h.id t) h.value ∙ n)
            (λ j x. get_or-set_other l (find h.id t) j h.value no_span (λ z. omega arith) ∙ e j (omega arith)) o.2,
      )
