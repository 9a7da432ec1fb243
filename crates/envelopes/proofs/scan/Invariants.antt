use Rattle.std.proofs.Common.{◌≡◌, ◌-◌}
use Rattle.rows.specs.Table.{rows_in}
use Rattle.envelopes.specs.Envelope.{scan_at}
use Rattle.envelopes.proofs.scan.Given as goal

abbrev pub invariant-loop : goal.invariant-loop
invariant-loop l = scan_at (rows_in l.t) l.s (l.n - l.counter) l.at ≡ scan_at (rows_in l.t) l.s l.n l.from
