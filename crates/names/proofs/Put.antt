-- A name's octets, and how they are written.
-- Assumes nothing.
use mathlib.Core.Path.{◌≡◌}
use mathlib.Core.Bool.{false}
use mathlib.Core.List.{List, [], ◌∷◌}
use Prim.Native.Nat.{ℕ, ◌-◌, ◌/◌, ◌≤◌}
use native.Mathlib.Omega.{arith}
use lib.Bits.{bit_or}
use lib.ListN.{length}
use Rattle.packed.specs.Packed.{placed}
use Rattle.octets.specs.Write.{Wrote}
use Rattle.octets.proofs.Writing.{wrote_then}
use Rattle.names.specs.Names.{name_allowed}
use Rattle.names.specs.Written.{sized_octets, name_octets, GoodName}
use Rattle.names.proofs.Size.{first_together, second_together}

pub name_octets_lem : (os : List ℕ) → GoodName os → name_octets os ≡ sized_octets os
unfolding name_octets
name_octets_lem os good = rw good

pub no_octets : (os : List ℕ) → name_allowed os ≡ false → name_octets os ≡ []
unfolding name_octets
no_octets os bad = rw bad

pub wrote_name : {l m n k : List ℕ} {at p q r : ℕ} (os : List ℕ) (less : ℕ) → less ≡ length os - 1 → length os ≤ 150
    → Wrote l at (bit_or 0 (placed 1 7 (less / 2)) ∷ []) m p → Wrote m p (bit_or 0 (placed 0 1 less) ∷ []) n q → Wrote n q os k r → Wrote l at (sized_octets os) k r
wrote_name os less e h a b c =
    rw (← e, ← first_together (less / 2) (omega arith), ← second_together less) (wrote_then (wrote_then a b) c)
