-- `put_diagnostics::put_entry` meets its contract: the octet that has begun, with the criticality, is written, and then the id.
-- Assumes nothing.
use Rattle.octets.proofs.Writing.{wrote_then}
use Rattle.put_diagnostics.proofs.put_entry.Goals as goal

pub returns : goal.returns
returns c = rw (← c.with_bits.ensures) (wrote_then c.put_octet-next.ensures c.put_two.ensures)
