-- Packed fields of an octet: bits taken out of it, fields put together in it.
use Rattle.std.specs.Prelude.{ℕ, ◌+◌, ◌*◌, ◌-◌, ◌/◌, ◌%◌, ◌^◌, ◌<◌, ◌≤◌, Bool, true, false, List, [], ◌∷◌}

-- w bits of an octet, behind its first b
unfoldable pub bits_of : ℕ → ℕ → ℕ → ℕ
bits_of x b w = x / 2 ^ (8 - (b % 8 + w)) % 2 ^ w

-- a packed field: how many bits, and the number in them
pub record Field : Type 0 where
  pub width : ℕ
  pub value : ℕ

infix 80 ◌bits◌
abbrev pub ◌bits◌ : ℕ → ℕ → Field
◌bits◌ w v = record { width = w; value = v }

abbrev pub bit : Bool → Field
bit true = 1 bits 1
bit false = 1 bits 0

abbrev pub widths : List Field → ℕ
widths [] = 0
widths (f ∷ fs) = f.width + widths fs

-- fields from the top of r bits on; the bits behind them are pad, which is zero
unfoldable pub packed_in : ℕ → List Field → ℕ
packed_in r [] = 0
packed_in r (f ∷ fs) = f.value * 2 ^ (r - f.width) + packed_in (r - f.width) fs

-- fields in an octet
abbrev pub packed : List Field → ℕ
packed fs = packed_in 8 fs

-- fields fit into r bits: each number into its width, and the widths together into r
abbrev pub Fit : ℕ → List Field → Type 0
Fit r [] = Unit
Fit r (f ∷ fs) = (f.width ≤ r) × (f.value < 2 ^ f.width) × Fit (r - f.width) fs

-- v in the w bits of an octet behind its first b, the others zero
unfoldable pub placed : ℕ → ℕ → ℕ → ℕ
placed b w v = v % 2 ^ w * 2 ^ (8 - (b % 8 + w))
