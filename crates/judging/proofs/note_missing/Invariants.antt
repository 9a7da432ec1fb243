use Rattle.std.proofs.Common.{length, take}
use Rattle.rows.specs.Table.{rows_in}
use Rattle.elements.specs.Judge.{missing_of}
use Rattle.judging.specs.Judging.{NotedBehind}
use Rattle.judging.proofs.note_missing.Given as goal

-- the rows passed that have no value are noted behind what was
abbrev pub invariant-loop-r : goal.invariant-loop-r
invariant-loop-r l = NotedBehind (missing_of (take (length l.yielded) (rows_in l.t)) (take (length l.yielded) l.places)) l.initial.words l.seen l.words l.count
