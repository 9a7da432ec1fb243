use lib.ListN.{take}
use lib.Seq.{sets}
use mathlib.Core.Path.{◌≡◌}
use Rattle.octets.proofs.put_octets.Given as goal

abbrev pub invariant-loop-i : goal.invariant-loop-i
invariant-loop-i l = l.room ≡ sets l.initial.room l.start (take l.i l.vs)
