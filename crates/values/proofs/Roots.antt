-- The root values of the groups of causes.
-- Assumes nothing.
use Prim.Native.Nat.{ℕ, zero, suc, ◌^◌, ◌<◌, ◌≤◌}
use native.Mathlib.Omega.{arith}
use Rattle.values.specs.Values.{root_of, bits_of_root}

-- their numbers have three bits at most, and those are enough
pub root_width : (g : ℕ) → (bits_of_root g ≤ 3) × (root_of g ≤ 2 ^ bits_of_root g)
root_width zero = (omega arith, omega arith)
root_width (suc zero) = (omega arith, omega arith)
root_width (suc (suc zero)) = (omega arith, omega arith)
root_width (suc (suc (suc zero))) = (omega arith, omega arith)
root_width (suc (suc (suc (suc zero)))) = (omega arith, omega arith)
root_width (suc (suc (suc (suc (suc g))))) = (omega arith, omega arith)

-- there are five groups
pub root_group : (g : ℕ) {v : ℕ} → v < root_of g → g < 5
root_group zero h = omega arith
root_group (suc zero) h = omega arith
root_group (suc (suc zero)) h = omega arith
root_group (suc (suc (suc zero))) h = omega arith
root_group (suc (suc (suc (suc zero)))) h = omega arith
root_group (suc (suc (suc (suc (suc g))))) h = absurd (omega arith)
