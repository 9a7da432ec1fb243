-- The octets of a table's rows from one of them on, and how many have a value: a row without one adds nothing, a row with one its element.
-- Assumes nothing.
use mathlib.Core.Path.{◌≡◌, ◌∙◌, refl}
use mathlib.Core.List.{List, [], ◌∷◌, ◌++◌}
use Prim.Native.Nat.{ℕ, zero, suc, ◌+◌, ◌<◌, ◌≤◌}
use native.Mathlib.Numerals.{add-one}
use native.Mathlib.Nat.{add-zero}
use native.Mathlib.Omega.{arith}
use lib.ListN.{length, drop, get_or, drop_of_length-le}
use lib.Seq.{drop-cons}
use Rattle.octets.specs.declared.Span.{Span}
use Rattle.octets.specs.Span.{no_span}
use Rattle.rows.specs.declared.Row.{Row}
use Rattle.rows.specs.Table.{no_row}
use Rattle.meaning.specs.Value.{Value, Given, given, absent, octets_in, on_given}
use Rattle.meaning.specs.Written.{octets_of, element_octets, elements_octets, how_many}
use Rattle.meaning.specs.Reading.{value_in, values_in}
use Rattle.round_trips.proofs.ValueBack.{said_in}
use Rattle.round_trips.proofs.Laid.{envelope_octets}

-- one more, if it is there
abbrev more : Given (List ℕ) → ℕ → ℕ
more (given v) n = suc n
more absent n = n

count_more : (v : Given (List ℕ)) (vs : List (Given (List ℕ))) → how_many (v ∷ vs) ≡ more v (how_many vs)
unfolding how_many
count_more (given v) vs = refl
count_more absent vs = refl

module _ (t : List Row) (s : List ℕ) (l : List Span) where
  abbrev pub octets_from : ℕ → List ℕ
  octets_from j = elements_octets (drop j t) (said_in (drop j t) s (drop j l))

  abbrev pub count_from : ℕ → ℕ
  count_from j = how_many (said_in (drop j t) s (drop j l))

  -- octets and their number are the same from one row on and from another
  abbrev Same : ℕ → ℕ → Type 0
  Same j k = (octets_from j ≡ octets_from k) × (count_from j ≡ count_from k)

module _ (t : List Row) (s : List ℕ) (l : List Span) (n : length l ≡ length t) where
  row_from : (j : ℕ) → j < length t → (v : Given (List ℕ)) → on_given (octets_in s) (value_in (get_or t j no_row).kind s (get_or l j no_span)) ≡ v
      → (octets_from t s l j ≡ element_octets (get_or t j no_row) v ++ octets_from t s l (j + 1)) × (count_from t s l j ≡ more v (count_from t s l (j + 1)))
  unfolding values_in elements_octets
  row_from j h v e =
      let a = drop-cons t j no_row h in
      let b = drop-cons l j no_span (omega arith) in
      rw (a, b, e, add-one j) (refl, count_more v _)

  pub row_given : (j : ℕ) → j < length t → (v : Value (List ℕ)) → on_given (octets_in s) (value_in (get_or t j no_row).kind s (get_or l j no_span)) ≡ given v
      → (octets_from t s l j ≡ envelope_octets (get_or t j no_row) (octets_of v) ++ octets_from t s l (j + 1)) × (count_from t s l j ≡ suc (count_from t s l (j + 1)))
  row_given j h v e = row_from j h (given v) e

  row_absent : (j : ℕ) → j < length t → get_or l j no_span ≡ no_span → Same t s l j (j + 1)
  unfolding value_in
  row_absent j h e = row_from j h absent (rw e)

  -- rows without a value, one after another
  pub rows_absent : (d j : ℕ) → j + d ≤ length t → ((i : ℕ) → j ≤ i → i < j + d → get_or l i no_span ≡ no_span) → Same t s l j (j + d)
  rows_absent zero j h e = rw (add-zero j) (refl, refl)
  rows_absent (suc d) j h e =
      let a = row_absent j (omega arith) (e j (omega arith) (omega arith)) in
      let b = rows_absent d (j + 1) (omega arith) (λ i x y. e i (omega arith) (omega arith)) in
      let k : j + 1 + d ≡ j + suc d = omega arith in
      let c = rw k at b in
      (a.0 ∙ c.0, a.1 ∙ c.1)

  pub rows_none : (octets_from t s l (length t) ≡ []) × (count_from t s l (length t) ≡ 0)
  unfolding values_in elements_octets how_many
  rows_none = rw (drop_of_length-le t {i = length t} (omega arith)) (refl, refl)
