use mathlib.Core.Path.{◌≡◌}
use Prim.Native.Nat.{◌+◌, ◌-◌}
use Rattle.names.specs.Names.{chars_at}
use Rattle.names.proofs.chars_at.Given as goal

abbrev pub invariant-loop-i : goal.invariant-loop-i
invariant-loop-i l = chars_at (l.at + l.n - l.i) l.s l.i ≡ chars_at l.n l.s l.at
