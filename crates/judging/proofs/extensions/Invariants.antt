use Rattle.std.proofs.Common.{◌-◌}
use Rattle.judging.proofs.BehindLaws.{Passing}
use Rattle.judging.proofs.extensions.Given as goal

-- the extensions passed are counted
abbrev pub invariant-loop : goal.invariant-loop
invariant-loop l = Passing l.s l.n l.from l.initial.tally (l.n - l.counter) l.at l.tally
