-- One element more, or one row more: what is read, unknown and missing of the first, and behind it what the last adds.
-- Assumes nothing.
use mathlib.Core.Path.{◌≡◌, ◌∙◌, refl, sym, ap}
use mathlib.Core.List.{List, [], ◌∷◌, ◌++◌, append_assoc, append-nil}
use Prim.Native.Nat.{ℕ, zero, suc, ◌<◌}
use native.Mathlib.Omega.{arith}
use lib.ListN.{length, take, set, get_or, replicate, length-set, length-replicate}
use Rattle.octets.specs.declared.Span.{Span}
use Rattle.octets.specs.Span.{no_span}
use Rattle.entries.specs.declared.Entry.{Entry}
use Rattle.rows.specs.declared.Row.{Row}
use Rattle.rows.specs.Table.{no_row, find}
use Rattle.envelopes.specs.declared.Head.{Head}
use Rattle.elements.specs.Judge.{read_into, read_of, unknown_entry, unknown_of, missing_entry, missing_of}

pub read_snoc : (t : List Row) (l : List Span) (ys : List Head) (h : Head) → set (read_into t l ys) (find h.id t) h.value ≡ read_into t l (ys ++ h ∷ [])
unfolding read_into
read_snoc t l [] h = refl
read_snoc t l (y ∷ ys) h = read_snoc t (set l (find y.id t) y.value) ys h

read_length : (t : List Row) (l : List Span) (ys : List Head) → length (read_into t l ys) ≡ length l
unfolding read_into
read_length t l [] = refl
read_length t l (y ∷ ys) = read_length t (set l (find y.id t) y.value) ys ∙ length-set l _ _

pub read_rows : (t : List Row) (ys : List Head) → length (read_of t ys) ≡ length t
read_rows t ys = read_length t (replicate (length t) no_span) ys ∙ length-replicate (length t) no_span

pub unknown_snoc : (t : List Row) (ys : List Head) (h : Head) → unknown_of t (ys ++ h ∷ []) ≡ unknown_of t ys ++ unknown_entry t h
unfolding unknown_of
unknown_snoc t [] h = append-nil (unknown_entry t h)
unknown_snoc t (y ∷ ys) h = rw (unknown_snoc t ys h) (sym (append_assoc (unknown_entry t y) (unknown_of t ys) (unknown_entry t h)))

pub missing_snoc : (t : List Row) (l : List Span) (k : ℕ) → k < length t → k < length l
    → missing_of (take (suc k) t) (take (suc k) l) ≡ missing_of (take k t) (take k l) ++ missing_entry (get_or t k no_row) (get_or l k no_span)
unfolding missing_of
missing_snoc [] l k h g = absurd (omega arith)
missing_snoc (r ∷ t) [] k h g = absurd (omega arith)
missing_snoc (r ∷ t) (v ∷ l) zero h g = append-nil (missing_entry r v)
missing_snoc (r ∷ t) (v ∷ l) (suc k) h g =
    ap (λ (es : List Entry). missing_entry r v ++ es) (missing_snoc t l k (omega arith) (omega arith)) ∙ sym (append_assoc (missing_entry r v) (missing_of (take k t) (take k l)) _)
