-- The octets of fields, and what a writer leaves.
use Rattle.std.specs.Prelude.{ℕ, zero, suc, min, ◌+◌, ◌/◌, ◌%◌, ◌^◌, ◌≡◌, List, [], ◌∷◌, length, ltb}
use Rattle.std.proofs.lemmas.List.Edits.{sets}
use Rattle.lists.specs.Lists.{pick}
use Rattle.packed.specs.Packed.{◌bits◌, packed}

-- a number in k octets, the highest first
unfoldable pub number_octets : ℕ → ℕ → List ℕ
number_octets zero v = []
number_octets (suc k) v = (v / 256 ^ k % 256) ∷ number_octets k v

-- a length: 0 to 127 in one octet; to 16,383 in two, the first with top bits 10; a longer one has no form
unfoldable pub length_octets : ℕ → List ℕ
length_octets n =
    pick (ltb n 128) (n ∷ [])
    (pick (ltb n 16384) (packed (2 bits 2 ∷ 6 bits (n / 256) ∷ []) ∷ (n % 256) ∷ []) [])

-- l with the octets vs put in from the place on is m, as far as l goes, and r is the place behind them, at most l's end
pub record Wrote {A : Type 0} (l : List A) (at : ℕ) (vs m : List A) (r : ℕ) : Type 0 where
  pub octets : m ≡ sets l at vs
  pub next : r ≡ min (at + length vs) (length l)
