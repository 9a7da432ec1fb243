use Rattle.std.proofs.Common.{◌≡◌, length, drop}
use Rattle.rows.specs.Table.{rows_in}
use Rattle.meaning.specs.Reading.{values_in}
use Rattle.shown.specs.Shown.{found_among}
use Rattle.shown.proofs.name_among.Given as goal

-- the rows passed have no name
abbrev pub invariant-loop-r : goal.invariant-loop-r
invariant-loop-r l = found_among (values_in (drop (length l.yielded) (rows_in l.t)) l.s (drop (length l.yielded) l.places)) ≡ found_among (values_in (rows_in l.t) l.s l.places)
