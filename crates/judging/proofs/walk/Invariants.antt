use Rattle.std.proofs.Common.{◌≡◌, ◌-◌, ◌≤◌, length}
use Rattle.rows.specs.Table.{rows_in}
use Rattle.judging.proofs.StepLaws.{Step, Sought}
use Rattle.judging.proofs.walk.Given as goal

-- the element that was read, while its id is sought among the rows
abbrev pub invariant-loop-k : goal.invariant-loop-k
invariant-loop-k l = (l.k ≤ length (rows_in l.t)) × Sought (rows_in l.t) l.s l.n l.from l.row l.i l.at l.places l.tally l.h l.k × (l.i ≡ l.initial.i)

-- the elements done, and what the definitions make of the rest
abbrev pub invariant-walk : goal.invariant-walk
invariant-walk l = Step (rows_in l.t) l.s l.n l.from l.row l.i l.at l.places l.tally

abbrev pub decreases-walk : goal.decreases-walk
decreases-walk l = l.n - l.i
