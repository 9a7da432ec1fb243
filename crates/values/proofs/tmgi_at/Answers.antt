-- the first octet stands inside
use native.Mathlib.Omega.{arith}
use Rattle.octets.proofs.Got.{plain_got}
use Rattle.values.proofs.tmgi_at.Goals as goal

pub overflow_add-at : goal.overflow_add-at
overflow_add-at c = let h = plain_got _ _ _ c.in_ok-plain_at.ensures in omega arith
