-- the entry is whole, so what the call is handed is the entry's; the call says the rest
use Rattle.evening.proofs.Playing.{turned}
use Rattle.evening.proofs.take_turn.Goals as goal

pub returns : goal.returns
returns c = turned c.args.s.now c.args.unit.now c.args.room.now c.requires.0 c.two-offered.ensures c.call-b.ensures c.number_of.ensures c.held.ensures
