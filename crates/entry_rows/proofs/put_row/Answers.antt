-- `entry_rows::put_row` meets its contract: three writers, one after another.
-- Assumes nothing.
use Rattle.octets.proofs.Writing.{wrote_then}
use Rattle.entry_rows.proofs.put_row.Goals as goal

pub returns : goal.returns
returns c = wrote_then c.put_octet-next.ensures (wrote_then c.put_two-last.ensures c.put_octet.ensures)
