-- What is known of places where something was read.
-- Assumes nothing.
use mathlib.Core.Path.{◌≡◌}
use mathlib.Core.Bool.{Bool, true, false}
use mathlib.Core.List.{List}
use Prim.Native.Nat.{ℕ, ◌+◌, ◌<◌, ◌≤◌}
use native.Mathlib.Omega.{arith}
use lib.ListN.{length}
use Rattle.std.specs.Prelude.{Ok}
use Rattle.octets.proofs.Chain.{then_got}
use Rattle.octets.proofs.Got.{plain_got}
use Rattle.diagnostics.specs.declared.Marks.{Marks}
use Rattle.diagnostics.specs.Diagnostics.{after, marks_at}

pub after_le : (b : Bool) (n p : ℕ) → after b n p ≤ p + n
after_le true n p = omega arith
after_le false n p = omega arith

pub marks_in_lem : (s : List ℕ) (at : ℕ) {m : Marks} → Ok m ≡ marks_at s at → at < length s
unfolding marks_at
marks_in_lem s at q = omega (arith, (plain_got s at 0 (then_got _ _ q).1).0)
