-- The numbers of the first i records are gathered, and of each the TMGI is octets.
use Rattle.std.proofs.Common.{◌≡◌, take}
use Rattle.console.specs.Numbers.{gathered}
use Rattle.console.proofs.Gathered.{Each}
use Rattle.console.proofs.m3ap_count.Given as goal

abbrev pub invariant-loop-i : goal.invariant-loop-i
invariant-loop-i l = (l.g ≡ gathered (take l.i l.run)) × Each (take l.i l.run)
