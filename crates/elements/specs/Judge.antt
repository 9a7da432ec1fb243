-- Judging elements, over any table.
use Rattle.std.specs.Prelude.{ℕ, ◌+◌, Bool, true, false, List, [], ◌∷◌, ◌++◌, ltb, eqb, length, set, replicate, Ok}
use Rattle.lists.specs.Lists.{pick}
use Rattle.octets.specs.Read.{Read, ◌>>=◌, ◌>>◌}
use Rattle.octets.specs.Field.{below_at, ends_at}
use Rattle.octets.specs.declared.Span.{Span}
use Rattle.octets.specs.Span.{no_span, present}
use Rattle.entries.specs.declared.Entry.{Entry}
use Rattle.rows.specs.declared.Row.{Row}
use Rattle.envelopes.specs.declared.Head.{Head}
use Rattle.rows.specs.Table.{find, known}
use Rattle.envelopes.specs.Envelope.{scan_at, heads_at}

-- The elements before the first known one that is out of order or repeated; row is the first row that may still come.
unfoldable pub front : List Row → ℕ → List Head → List Head
front t row [] = []
front t row (h ∷ hs) =
    pick (known t h.id)
    (pick (ltb (find h.id t) row) [] (h ∷ front t (find h.id t + 1) hs))
    (h ∷ front t row hs)

-- the value of each known element, at its row; an unknown one has no row, and is stored behind the last, which is nowhere
unfoldable pub read_into : List Row → List Span → List Head → List Span
read_into t l [] = l
read_into t l (h ∷ hs) = read_into t (set l (find h.id t) h.value) hs

abbrev pub read_of : List Row → List Head → List Span
read_of t hs = read_into t (replicate (length t) no_span) hs

-- criticality ignore is never listed
abbrev pub ignored : ℕ → Bool
ignored crit = eqb crit 1

-- an unknown element of reject or notify is listed as not understood
abbrev pub unknown_entry : List Row → Head → List Entry
unknown_entry t h = pick (known t h.id) [] (pick (ignored h.crit) [] (record { crit = h.crit; id = h.id; error = 0 } ∷ []))

unfoldable pub unknown_of : List Row → List Head → List Entry
unknown_of t [] = []
unknown_of t (h ∷ hs) = unknown_entry t h ++ unknown_of t hs

-- a mandatory row of reject or notify without a value is listed as missing
abbrev pub missing_entry : Row → Span → List Entry
missing_entry r v = pick (present v) [] (pick r.mandatory (pick (ignored r.crit) [] (record { crit = r.crit; id = r.id; error = 1 } ∷ [])) [])

unfoldable pub missing_of : List Row → List Span → List Entry
missing_of [] l = []
missing_of (r ∷ t) [] = []
missing_of (r ∷ t) (v ∷ l) = missing_entry r v ++ missing_of t l

-- what the judging finds
pub record Found : Type 0 where
  pub place : ℕ
  pub spans : List Span
  pub listed : List Entry

-- Only what stands before the place counts as read or as unknown; nothing counts as missing where that is not all.
-- xs are the extensions in a container behind the elements: unknown, whatever their ids, since no row is theirs.
unfoldable pub judged_of : List Row → ℕ → List Head → List Head → Found
judged_of t n hs xs =
    let f : List Head = front t 0 hs in
    record {
      place = length f;
      spans = read_of t f;
      listed = unknown_of t f ++ pick (eqb (length f) n) (unknown_of [] xs ++ missing_of t (read_of t f)) [];
    }

-- n extensions fill the octets, each in its envelope: elements of no table, so no value is read
abbrev pub counted_extensions_at : List ℕ → ℕ → ℕ → Read (List Head)
counted_extensions_at s n at = do
  to ← scan_at [] s n at
  ends_at s to
  Ok (heads_at s n at)

-- what stands behind the elements, up to the end: nothing, or a container, which is the number of extensions less 1, 0 to 65,534, and the extensions
unfoldable pub extensions_at : Bool → List ℕ → ℕ → Read (List Head)
extensions_at false s at = ends_at s at >> Ok []
extensions_at true s at = do
  n ← below_at 65535 s at
  counted_extensions_at s (n + 1) (at + 2)

-- the extensions behind n elements
abbrev pub extensions_behind : List Row → Bool → List ℕ → ℕ → ℕ → Read (List Head)
extensions_behind t container s n at = do
  to ← scan_at t s n at
  extensions_at container s to

-- n elements and what stands behind them: faults anywhere come before the judging
unfoldable pub elements_at : List Row → Bool → List ℕ → ℕ → ℕ → Read Found
elements_at t container s n at = do
  xs ← extensions_behind t container s n at
  Ok (judged_of t n (heads_at s n at) xs)
