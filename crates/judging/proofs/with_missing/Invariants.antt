use Rattle.std.proofs.Common.{length, take}
use Rattle.rows.specs.Table.{rows_in}
use Rattle.elements.specs.Judge.{missing_of}
use Rattle.judging.specs.Judging.{CountedBehind}
use Rattle.judging.proofs.with_missing.Given as goal

-- the rows passed that have no value are counted
abbrev pub invariant-loop-r : goal.invariant-loop-r
invariant-loop-r l = CountedBehind (missing_of (take (length l.yielded) (rows_in l.t)) (take (length l.yielded) l.places)) l.initial.tally l.tally
