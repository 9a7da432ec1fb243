-- The frame of a message, and the count of its elements, are read back.
-- Assumes nothing.
use Prim.Native.Nat.{ℕ, ◌+◌, ◌<◌}
use mathlib.Core.Path.{◌≡◌, refl}
use mathlib.Core.Bool.{Bool, true, false}
use mathlib.Core.List.{List, [], ◌∷◌, ◌++◌}
use native.Mathlib.Omega.{arith}
use lib.ListN.{length, length-append}
use Rattle.std.specs.Prelude.{Ok}
use Rattle.packed.specs.Packed.{◌bits◌, bit, packed_in, packed, Fit}
use Rattle.octets.specs.Write.{number_octets, length_octets}
use Rattle.octets.specs.Stands.{Stands, Fills}
use Rattle.octets.proofs.Chain.{past}
use Rattle.octets.proofs.Writing.{number_one}
use Rattle.octets.proofs.Stood.{stands_split, stands_alone}
use Rattle.octets.proofs.Back.{length_number, number_back, choice_back, flag_back, plain_back, rest_back, open_back, ends_back}
use Rattle.editions.specs.declared.Code.{Code}
use Rattle.rows.specs.declared.Row.{Row}
use Rattle.frames.specs.Frame.{kind_at, frame_at, container_at, count_at}
use Rattle.meaning.specs.Value.{Given}
use Rattle.meaning.specs.Written.{how_many, elements_octets, inside_octets, frame_octets}
use Rattle.round_trips.proofs.Laid.{criticality_back}

kind_back : (s : List ℕ) (k : ℕ) → k < 3 → Stands s 0 (packed (bit false ∷ 2 bits k ∷ []) ∷ []) → Ok k ≡ kind_at s
unfolding kind_at
kind_back s k b h =
    let fit : Fit 8 (bit false ∷ 2 bits k ∷ []) = (omega arith, omega arith, (omega arith, omega arith, tt)) in
    past _ tt (plain_back s 0 [] (2 bits k ∷ []) fit (omega arith) h)
    (past _ k (choice_back s 0 (bit false ∷ []) (2 bits k) [] fit (omega arith) h 3 b)
    (past _ tt (rest_back s 0 (bit false ∷ 2 bits k ∷ []) fit (omega arith) (omega arith) h) refl))

-- where what a frame holds begins
abbrev pub inside_at : List ℕ → ℕ
inside_at os = 3 + length (length_octets (length os))

module _ (c : Code) (os : List ℕ) where
  frame_stands : Stands (frame_octets c os) 0 (packed (bit false ∷ 2 bits c.kind ∷ []) ∷ [])
      × Stands (frame_octets c os) 1 (c.code ∷ [])
      × Stands (frame_octets c os) 2 (packed (2 bits c.crit ∷ []) ∷ [])
      × Stands (frame_octets c os) 3 (length_octets (length os) ++ os)
  frame_stands =
      let s : List ℕ = frame_octets c os in
      let a = stands_split (packed (bit false ∷ 2 bits c.kind ∷ []) ∷ []) (c.code ∷ packed (2 bits c.crit ∷ []) ∷ (length_octets (length os) ++ os)) (stands_alone s) in
      let b = stands_split (c.code ∷ []) (packed (2 bits c.crit ∷ []) ∷ (length_octets (length os) ++ os)) a.1 in
      let d = stands_split (packed (2 bits c.crit ∷ []) ∷ []) (length_octets (length os) ++ os) b.1 in
      (a.0, b.0, d.0, d.1)

  pub frame_fills : Fills (frame_octets c os) (inside_at os) os
  frame_fills =
      let n = length-append (length_octets (length os)) os in
      record { stands = (stands_split (length_octets (length os)) os frame_stands.3).1; ends = omega arith }

  pub frame_back : c.kind < 3 → c.code < 256 → c.crit < 3 → 0 < length os → length os < 16384
      → Ok (record { kind = c.kind; code = c.code; crit = c.crit; from = inside_at os }) ≡ frame_at (frame_octets c os)
  unfolding frame_at
  frame_back k d e p b =
      let s : List ℕ = frame_octets c os in
      let h = frame_stands in
      let f = frame_fills.ends in
      past _ c.kind (kind_back s c.kind k h.0)
      (past _ c.code (number_back 1 s 1 c.code d (rw (number_one c.code d) h.1))
      (past _ c.crit (criticality_back s 2 c.crit e h.2)
      (past _ _ (open_back s 3 os p b h.3)
      (past _ tt (ends_back s (inside_at os + length os) (omega arith)) refl))))

-- the count, and the elements behind it
module _ (s : List ℕ) (from : ℕ) (t : List Row) (vs : List (Given (List ℕ))) (f : Fills s from (inside_octets t vs)) where
  inside_stands : Stands s from (packed (bit false ∷ []) ∷ []) × Stands s (from + 1) (number_octets 2 (how_many vs)) × Stands s (from + 3) (elements_octets t vs)
  unfolding inside_octets
  inside_stands =
      let a = stands_split (packed (bit false ∷ []) ∷ []) (number_octets 2 (how_many vs) ++ elements_octets t vs) f.stands in
      let b = stands_split (number_octets 2 (how_many vs)) (elements_octets t vs) a.1 in
      let k : from + 1 + length (number_octets 2 (how_many vs)) ≡ from + 3 = rw (length_number 2 (how_many vs)) (omega arith) in
      (a.0, b.0, rw k at b.1)

  -- two bits of zero are one octet with one
  two : Stands s from (packed (bit false ∷ bit false ∷ []) ∷ [])
  unfolding packed_in
  two = inside_stands.0

  -- no container, whether or not the message can have one: the bits are pad, or say so
  pub count_back : (c : Bool) → how_many vs < 65536 → Ok (record { elements = how_many vs; container = false }) ≡ count_at c s from
  unfolding count_at container_at
  count_back false b =
      let h = inside_stands in
      past _ tt (plain_back s from [] [] (omega arith, omega arith, tt) (omega arith) h.0)
      (past _ tt (rest_back s from (bit false ∷ []) (omega arith, omega arith, tt) (omega arith) (omega arith) h.0)
      (past _ _ (number_back 2 s (from + 1) (how_many vs) b h.1) refl))
  count_back true b =
      let h = inside_stands in
      let fit : Fit 8 (bit false ∷ bit false ∷ []) = (omega arith, omega arith, (omega arith, omega arith, tt)) in
      past _ tt (plain_back s from [] [] (omega arith, omega arith, tt) (omega arith) h.0)
      (past _ false (flag_back s from (bit false ∷ []) false [] fit (omega arith) two)
      (past _ tt (rest_back s from (bit false ∷ bit false ∷ []) fit (omega arith) (omega arith) two)
      (past _ _ (number_back 2 s (from + 1) (how_many vs) b h.1) refl)))

  pub elements_fill : Fills s (from + 3) (elements_octets t vs)
  unfolding inside_octets
  elements_fill =
      let n = length-append (number_octets 2 (how_many vs)) (elements_octets t vs) in
      let m = length_number 2 (how_many vs) in
      let e = f.ends in
      record { stands = inside_stands.2; ends = omega arith }
