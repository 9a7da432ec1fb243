use Rattle.std.proofs.Common.{length, map}
use Rattle.distinct.proofs.Sets.{Met}
use Rattle.distinct.proofs.unequal_by_set.Given as goal

abbrev pub invariant-loop-x : goal.invariant-loop-x
invariant-loop-x g l = Met 1024 (map g.I.Identity.number l.ids) (length l.ids) l.set.words l.x-index
