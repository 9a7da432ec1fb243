use Rattle.std.proofs.Common.{◌≡◌, ◌≤◌, length, drop}
use Rattle.rows.specs.Table.{rows_in}
use Rattle.meaning.specs.Reading.{values_in}
use Rattle.requests.specs.Requests.{seen}
use Rattle.requests.proofs.seen_in.Given as goal

abbrev pub invariant-loop-k : goal.invariant-loop-k
invariant-loop-k l = (l.k ≤ length (rows_in l.t)) × (l.x ≡ seen (values_in (drop l.k (rows_in l.t)) l.s (drop l.k l.places)))
