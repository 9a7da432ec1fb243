use Rattle.std.proofs.Common.{◌-◌}
use Rattle.rows.specs.Table.{rows_in}
use Rattle.judging.proofs.NotedLaws.{Unknowns}
use Rattle.judging.proofs.note_unknown.Given as goal

-- the unknown ones of the elements passed are noted
abbrev pub invariant-loop : goal.invariant-loop
invariant-loop l = Unknowns (rows_in l.t) l.s l.n l.from l.initial.words l.initial.count (l.n - l.counter) l.at l.words l.count
