-- `names::name_at` meets its contract: where the extension bit was read, its octet is there.
-- Assumes nothing.
use native.Mathlib.Omega.{arith}
use Rattle.octets.proofs.Got.{plain_got}
use Rattle.names.proofs.name_at.Goals as goal

pub size_at-requires : goal.size_at-requires
size_at-requires c = omega (arith, (plain_got _ _ 0 c.in_ok-plain_at.ensures).0)
