-- `octets::put_three` meets its contract: the octets one after another. Assumes nothing.
use Rattle.octets.proofs.Writing.{wrote_then}
use Rattle.octets.proofs.put_three.Goals as goal

pub returns : goal.returns
returns c = wrote_then (wrote_then c.put_octet-second.ensures c.put_octet-third.ensures) c.put_octet.ensures
