use mathlib.Core.List.{map}
use lib.ListN.{length, drop}
use Rattle.distinct.specs.Bits.{told}
use Rattle.distinct.proofs.Sets.{Met}
use Rattle.lent.specs.Tests.{numbers_at}
use Rattle.lent.proofs.series_held.Given as goal

abbrev pub invariant-loop-i : goal.invariant-loop-i
invariant-loop-i g l = Met g.row.W (map (told g.row.W) (numbers_at l.from l.n (drop 2 l.s))) (length (numbers_at l.from l.n (drop 2 l.s))) l.set.words l.i
