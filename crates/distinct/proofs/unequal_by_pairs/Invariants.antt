use Rattle.std.proofs.Common.{◌≡◌, true, take}
use Rattle.lists.specs.Lists.{apart}
use Rattle.distinct.specs.Series.{alike}
use Rattle.distinct.proofs.unequal_by_pairs.Given as goal

abbrev pub invariant-loop-i : goal.invariant-loop-i
invariant-loop-i g l = apart (alike g.I.Identity.number) (take l.i l.ids) ≡ true
