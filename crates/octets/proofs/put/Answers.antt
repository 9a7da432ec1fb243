-- `octets::put` meets its contract. Each return is the chain of the readings on the way to it. Assumes nothing.
use Rattle.octets.proofs.Writing.{wrote_one, wrote_past}
use Rattle.octets.proofs.put.Goals as goal

pub returns-then-at-room : goal.returns-then-at-room
returns-then-at-room g c = wrote_one _ _ _ c.if-at-room.true

pub returns : goal.returns
returns g c = wrote_past _ _ _ c.if-at-room.false
