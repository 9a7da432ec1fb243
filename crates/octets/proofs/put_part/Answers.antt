use Rattle.octets.proofs.AtOnce.{between_places}
use Rattle.octets.proofs.put_part.Goals as goal

pub returns : goal.returns
returns c = let a = c.args in rw (between_places a.s.now a.from a.to c.min-start.result c.min-end.result c.min-end.ensures c.min-start.ensures) at c.put_octets.ensures
