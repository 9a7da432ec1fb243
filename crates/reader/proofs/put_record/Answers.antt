-- `reader::put_record` meets its contract. Each part begins where the one before it ends. Assumes nothing.
use Rattle.octets.proofs.Writing.{wrote_then}
use Rattle.layout.specs.Record.{record_octets}
use Rattle.reader.proofs.put_record.Goals as goal

pub returns : goal.returns
unfolding record_octets
returns c = rw (← c.number_of-number.ensures) (wrote_then c.put_octet-next.ensures (wrote_then c.put_octet-rows.ensures (wrote_then c.put_slots-items.ensures (wrote_then c.put_items-entries.ensures c.put_entries.ensures)))).octets
