-- What is known of places where something was read.
-- Assumes nothing.
use mathlib.Core.Path.{◌≡◌}
use mathlib.Core.List.{List}
use Prim.Native.Nat.{ℕ, ◌<◌}
use native.Mathlib.Omega.{arith}
use lib.ListN.{length}
use Rattle.std.specs.Prelude.{Ok}
use Rattle.octets.proofs.Chain.{then_got}
use Rattle.octets.proofs.Got.{plain_got}
use Rattle.entries.specs.Entries.{crit_at}

pub crit_in : (s : List ℕ) (at b : ℕ) {v : ℕ} → Ok v ≡ crit_at s at b → at < length s
unfolding crit_at
crit_in s at b q = omega (arith, (plain_got s at b (then_got _ _ q).1).0)
