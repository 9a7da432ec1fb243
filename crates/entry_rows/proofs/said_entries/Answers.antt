-- `entry_rows::said_entries` meets its contract: as many are said as the count says, up to 256.
-- Assumes nothing.
use native.Mathlib.Omega.{arith}
use Rattle.entry_rows.proofs.Saying.{said_count}
use Rattle.entry_rows.proofs.said_entries.Goals as goal

pub returns : goal.returns
returns c = omega (arith, said_count c.args.s.now, c.min.ensures, c.from-n.ensures, c.from_be_bytes.ensures, c.octet_in-2.ensures, c.octet_in.ensures)
