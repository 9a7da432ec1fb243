use Rattle.std.proofs.Common.{length, ◌-◌, ◌≤◌}
use Rattle.capture.proofs.play_whole.Given as goal

-- what was played stands within the octets, and each play that goes on takes some
abbrev pub invariant-loop-octets : goal.invariant-loop-octets
invariant-loop-octets g l = l.octets ≤ length l.s

abbrev pub decreases-loop-octets : goal.decreases-loop-octets
decreases-loop-octets g l = length l.s - l.octets
