-- A record's values, one for each row: the slots put so far, and the first value that announces a list.
--     slot_more, slots_all     one slot more is put; all are, and zeros behind them
--     rest_more, rest_found    a value announces no list: what is left does; a value announces one: that is the record's
-- Assumes nothing.
use mathlib.Core.Path.{◌≡◌, refl, sym, ap, ◌∙◌}
use mathlib.Core.Bool.{Bool, true, false}
use mathlib.Core.List.{List, [], ◌∷◌}
use Prim.Native.Nat.{ℕ, zero, suc, ◌+◌, ◌*◌, ◌-◌, ◌≤◌, ◌<◌}
use native.Mathlib.Numerals.{add-one}
use native.Mathlib.Omega.{arith}
use borrow.Author.Tests.{ltb-false}
use lib.ListN.{length, get_or, take, drop, replicate, drop_of_length-le}
use lib.Seq.{drop-cons, take_all}
use Rattle.lists.specs.Lists.{fill}
use Rattle.octets.specs.Many.{each_octets}
use Rattle.std.specs.Prelude.{Ok, None, Some}
use Rattle.octets.specs.Read.{Read}
use Rattle.octets.specs.Write.{number_octets, Wrote}
use Rattle.octets.specs.declared.Span.{Span}
use Rattle.octets.specs.Span.{no_span, present}
use Rattle.octets.proofs.Writing.{wrote_then}
use Rattle.octets.proofs.EachWritten.{wrote_more}
use Rattle.rows.specs.declared.Kind.{Kind}
use Rattle.rows.specs.declared.Row.{Row}
use Rattle.rows.specs.Table.{no_row}
use Rattle.meaning.specs.Value.{Given, absent}
use Rattle.meaning.specs.Reading.{value_in, values_in}
use Rattle.layout.specs.Rows.{item_row, entry_row, list_octets}
use Rattle.layout.specs.Record.{Lists, lists_of, slot_octets}
use Rattle.layout.proofs.Sizes.{slot_size, slots_size}
use Rattle.reader.specs.Steps.{IfPresent, ListBegins}

pub values_length : (t : List Row) (s : List ℕ) (l : List Span) → length t ≤ length l → length (values_in t s l) ≡ length t
unfolding values_in
values_length [] s l h = refl
values_length (r ∷ t) s [] h = absurd (omega arith)
values_length (r ∷ t) s (v ∷ l) h = ap suc (values_length t s l (omega arith))

values_at : (t : List Row) (s : List ℕ) (l : List Span) (k : ℕ) → k < length t → length t ≤ length l
    → get_or (values_in t s l) k absent ≡ value_in (get_or t k no_row).kind s (get_or l k no_span)
unfolding values_in
values_at [] s l k h z = absurd (omega arith)
values_at (r ∷ t) s [] k h z = absurd (omega arith)
values_at (r ∷ t) s (v ∷ l) zero h z = refl
values_at (r ∷ t) s (v ∷ l) (suc k) h z = values_at t s l k (omega arith) (omega arith)

-- what the values from k on announce is what all do
abbrev pub Rest : {A : Type 0} → (Lists → List A) → List Row → List ℕ → List Span → ℕ → Type 0
Rest of t s l k = of (lists_of (values_in (drop k t) s (drop k l))) ≡ of (lists_of (values_in t s l))

module _ (t : List Row) (s : List ℕ) (l : List Span) where
  -- ---- slots

  pub slots_all : {room₀ room m : List ℕ} {at next q : ℕ} (k : ℕ) → k ≡ length t → length t ≤ length l
      → Wrote room₀ at (each_octets slot_octets (take k (values_in t s l))) room next
      → Wrote room next (replicate (96 - 8 * length t) 0) m q
      → Wrote room₀ at (fill 0 96 (each_octets slot_octets (values_in t s l))) m q
  slots_all k e z w x =
      let v = values_in t s l in
      let n = values_length t s l z in
      let f : length (each_octets slot_octets v) ≡ 8 * length t = slots_size v ∙ ap (8 *◌) n in
      rw f (wrote_then (rw (take_all k v (omega arith)) at w) x)

  -- the row at k, and where its value stands
  module _ (z : length t ≤ length l) (k : ℕ) (h : k < length t) {r : Row} {v : Span} (d : r ≡ get_or t k no_row) (f : v ≡ get_or l k no_span) where
    value_here : get_or (values_in t s l) k absent ≡ value_in r.kind s v
    value_here = rw (d, f) (values_at t s l k h z)

    pub slot_more : {room₀ room m : List ℕ} {at next q : ℕ} → next + 8 ≤ length room
        → Wrote room₀ at (each_octets slot_octets (take k (values_in t s l))) room next
        → Wrote room next (slot_octets (value_in r.kind s v)) m q
        → (q ≡ next + 8) × Wrote room₀ at (each_octets slot_octets (take (k + 1) (values_in t s l))) m q
    slot_more {room} {m} {next} {q} b w x =
        let n = values_length t s l z in (
          omega (arith, x.next, slot_size (value_in r.kind s v)),
          wrote_more slot_octets (values_in t s l) k absent (omega arith) w (rw (← value_here) at x),
        )

    values_from : values_in (drop k t) s (drop k l) ≡ value_in r.kind s v ∷ values_in (drop (k + 1) t) s (drop (k + 1) l)
    unfolding values_in
    values_from = let b : k < length l = omega arith in rw (d, f, add-one k, drop-cons t k no_row h, drop-cons l k no_span b)

    -- ---- lists
    module _ {A : Type 0} (of : Lists → List A) (reading : List ℕ → ℕ → Read (List A)) (front : List ℕ) where
      abbrev behind : List (Given Span)
      behind = values_in (drop (k + 1) t) s (drop (k + 1) l)

      pub rest_more : ListBegins of reading (value_in r.kind s v) front None → Rest of t s l k → Rest of t s l (k + 1)
      rest_more b r = sym (b behind) ∙ (ap (λ (vs : List (Given Span)). of (lists_of vs)) (sym values_from) ∙ r)

      pub rest_found : {at : ℕ} → ListBegins of reading (value_in r.kind s v) front (Some at) → Rest of t s l k → reading front at ≡ Ok (of (lists_of (values_in t s l)))
      rest_found b r = b.1 ∙ ap Ok (sym (b.2 behind) ∙ (ap (λ (vs : List (Given Span)). of (lists_of vs)) (sym values_from) ∙ r))

  pub rest_none : {A : Type 0} (of : Lists → List A) (k : ℕ) → length t ≤ k → Rest of t s l k → of (lists_of (values_in t s l)) ≡ of (lists_of {C = Span} [])
  unfolding values_in
  rest_none of k h r = sym r ∙ ap (λ (x : List Row). of (lists_of (values_in x s (drop k l)))) (drop_of_length-le t h)

-- ---- no list

pub no_item_rows : list_octets 1536 item_row [] ≡ replicate 1538 0
unfolding number_octets
no_item_rows = refl

pub no_entry_rows : list_octets 1024 entry_row [] ≡ replicate 1026 0
unfolding number_octets
no_entry_rows = refl

-- what is not there begins and ends nowhere
pub ends_inside : (k : Kind) (s : List ℕ) (v : Span) → IfPresent k s v → v.to ≤ length s
ends_inside k s v p = by (present v) refl
  where
    by : (b : Bool) → present v ≡ b → v.to ≤ length s
    by true e = (p e).within
    by false e = omega (arith, ltb-false 0 v.to e)
