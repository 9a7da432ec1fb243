-- `octets::put_two` meets its contract. The octets are those of the writers on the way, one after another. Assumes nothing.
use native.Mathlib.Omega.{arith}
use Rattle.octets.proofs.Writing.{number_two, wrote_then}
use Rattle.octets.proofs.put_two.Goals as goal

pub returns : goal.returns
returns c = rw (number_two c.args.v (omega arith)) (wrote_then c.put_octet-next.ensures c.put_octet.ensures)
