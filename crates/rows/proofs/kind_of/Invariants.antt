use Rattle.std.proofs.Common.{◌≡◌, ◌+◌, ◌≤◌, length, drop}
use Rattle.rows.specs.Table.{rows_in, find}
use Rattle.rows.proofs.kind_of.Given as goal

abbrev pub invariant-loop-r : goal.invariant-loop-r
invariant-loop-r l = (l.r-index ≤ length (rows_in l.t)) × (l.r-index + find l.id (drop l.r-index (rows_in l.t)) ≡ find l.id (rows_in l.t))
