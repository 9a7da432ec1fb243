-- Elements laid out in octets, row after row of a table: each is read where its envelope stands, and nothing stands behind the last;
-- the octets of elements that are good are so laid.
-- Assumes nothing.
use Prim.Native.Nat.{ℕ, ◌+◌, ◌<◌, ◌≤◌}
use mathlib.Core.Path.{◌≡◌, refl}
use mathlib.Core.Bool.{true, false, not}
use mathlib.Core.List.{List, [], ◌∷◌, ◌++◌}
use native.Mathlib.Omega.{arith}
use borrow.Author.Tests.{not-true}
use lib.ListN.{length, take, length-append}
use Rattle.lists.proofs.Tests.{and_left, and_right}
use Rattle.std.specs.Prelude.{Ok}
use Rattle.packed.specs.Packed.{◌bits◌, packed, Fit}
use Rattle.octets.specs.Write.{number_octets, length_octets}
use Rattle.octets.specs.Stands.{Stands, Fills}
use Rattle.octets.specs.declared.Span.{Span}
use Rattle.octets.proofs.Chain.{past}
use Rattle.octets.proofs.Stood.{stands_split, fills_front}
use Rattle.octets.proofs.Back.{length_number, number_back, choice_back, rest_back, open_back}
use Rattle.octets.specs.Many.{Each}
use Rattle.rows.specs.declared.Row.{Row}
use Rattle.envelopes.specs.declared.Head.{Head}
use Rattle.envelopes.specs.Envelope.{criticality_at, envelope_at}
use Rattle.meaning.specs.Value.{Value, Given, given, absent}
use Rattle.meaning.specs.Written.{octets_of, has_octets, elements_octets, elements_good}
use Rattle.meaning.specs.Ranges.{Ranged}
use Rattle.round_trips.proofs.ValueBack.{said_at, value_back, value_size}
use Rattle.editions.proofs.Tables.{Fits}

-- the octets of a value, in the envelope of its row
abbrev pub envelope_octets : Row → List ℕ → List ℕ
envelope_octets r os = number_octets 2 r.id ++ (packed (2 bits r.crit ∷ []) ∷ (length_octets (length os) ++ os))

-- where octets stand in an envelope that begins at the place
abbrev pub span_of : List ℕ → ℕ → Span
span_of os at = record { from = at + 3 + length (length_octets (length os)); to = at + 3 + length (length_octets (length os)) + length os }

abbrev pub head_of : Row → List ℕ → ℕ → Head
head_of r os at = record { id = r.id; crit = r.crit; value = span_of os at }

pub data Laid (s : List ℕ) : ℕ → List Row → List (Given (List ℕ)) → Type 0 where
  ends : {at : ℕ} → length s ≤ at → Laid s at [] []
  skip : {at : ℕ} {r : Row} {t : List Row} {vs : List (Given (List ℕ))} → r.mandatory ≡ false → Laid s at t vs → Laid s at (r ∷ t) (absent ∷ vs)
  more : {at : ℕ} {r : Row} {t : List Row} {v : Value (List ℕ)} {vs : List (Given (List ℕ))}
      → Ok (head_of r (octets_of v) at) ≡ envelope_at s at → (span_of (octets_of v) at).to ≤ length s
      → Ok v ≡ said_at r.kind s (span_of (octets_of v) at)
      → Laid s (span_of (octets_of v) at).to t vs → Laid s at (r ∷ t) (given v ∷ vs)

-- ---- an envelope

pub criticality_back : (s : List ℕ) (at crit : ℕ) → crit < 3 → Stands s at (packed (2 bits crit ∷ []) ∷ []) → Ok crit ≡ criticality_at s at
unfolding criticality_at
criticality_back s at crit c h =
    let fit : Fit 8 (2 bits crit ∷ []) = (omega arith, omega arith, tt) in
    past _ crit (choice_back s at [] (2 bits crit) [] fit (omega arith) h 3 c) (past _ tt (rest_back s at (2 bits crit ∷ []) fit (omega arith) (omega arith) h) refl)

-- an envelope's octets, and the place behind them
span_end : (r : Row) (os : List ℕ) (at : ℕ) → (span_of os at).to ≡ at + length (envelope_octets r os)
span_end r os at =
    rw (length-append (number_octets 2 r.id) (packed (2 bits r.crit ∷ []) ∷ (length_octets (length os) ++ os)), length_number 2 r.id, length-append (length_octets (length os)) os)
    (omega arith)

module _ (s : List ℕ) (at : ℕ) (r : Row) (f : Fits r) (os : List ℕ) (p : 0 < length os) (b : length os < 16384) (h : Stands s at (envelope_octets r os)) where
  within : Stands s at (number_octets 2 r.id) × Stands s (at + 2) (packed (2 bits r.crit ∷ []) ∷ []) × Stands s (at + 3) (length_octets (length os) ++ os)
  within =
      let ls : List ℕ = length_octets (length os) in
      let a = stands_split (number_octets 2 r.id) (packed (2 bits r.crit ∷ []) ∷ (ls ++ os)) h in
      let c : Stands s (at + 2) (packed (2 bits r.crit ∷ []) ∷ (ls ++ os)) = rw (length_number 2 r.id) at a.1 in
      let d = stands_split (packed (2 bits r.crit ∷ []) ∷ []) (ls ++ os) c in
      let k : at + 2 + 1 ≡ at + 3 = omega arith in
      (a.0, d.0, rw k at d.1)

  pub envelope_back : Ok (head_of r os at) ≡ envelope_at s at
  unfolding envelope_at
  envelope_back =
      let w = within in
      past _ r.id (number_back 2 s at r.id f.id w.0)
      (past _ r.crit (criticality_back s (at + 2) r.crit f.crit w.1)
      (past _ _ (open_back s (at + 3) os p b w.2) refl))

  -- the value fills the octets up to its end
  pub value_fills : Fills (take (span_of os at).to s) (span_of os at).from os
  value_fills = fills_front (stands_split (length_octets (length os)) os within.2).1

-- ---- elements

module _ (s : List ℕ) (short : length s < 16384) where
  pub laid : (t : List Row) (vs : List (Given (List ℕ))) (at : ℕ) → Each Fits t → Ranged t vs → elements_good t vs ≡ true → Fills s at (elements_octets t vs) → Laid s at t vs
  unfolding Ranged elements_good elements_octets
  laid [] [] at f g e h = let z = h.ends in let k : length s ≤ at = omega arith in ends k
  laid [] (v ∷ vs) at f g e h = absurd g
  laid (r ∷ t) [] at f g e h = absurd g
  laid (r ∷ t) (absent ∷ vs) at f g e h =
      skip (not-true r.mandatory (and_left (not r.mandatory) _ e)) (laid t vs at f.1 g.1 (and_right (not r.mandatory) _ e) h)
  laid (r ∷ t) (given v ∷ vs) at f g e h =
      let os : List ℕ = octets_of v in
      let good = and_left (has_octets v) _ e in
      let a = stands_split (envelope_octets r os) (elements_octets t vs) h.stands in
      let k : (span_of os at).to ≡ at + length (envelope_octets r os) = span_end r os at in
      let room = a.0.room in
      let z = h.ends in
      let n = length-append (envelope_octets r os) (elements_octets t vs) in
      let p = value_size v g.0.1 good in
      let b : length os < 16384 = omega arith in
      let rest : Fills s (span_of os at).to (elements_octets t vs) = record { stands = rw k a.1; ends = omega arith } in
      more (envelope_back s at r f.0 os p b a.0) (omega arith)
      (rw g.0.0 at (value_back s (span_of os at) v g.0.1 good (omega arith) (value_fills s at r f.0 os p b a.0)))
      (laid t vs (span_of os at).to f.1 g.1 (and_right (has_octets v) _ e) rest)
