-- by the kind, what was called says it
use Rattle.reader.proofs.Slots.{two_slots}
use Rattle.reader.proofs.value_slot.Goals as goal

pub returns-in-Mme : goal.returns-in-Mme
returns-in-Mme c = let a = c.args in rw (two_slots a.s.now a.v a.kind c.in-Mme.is) c.two_slot.ensures
