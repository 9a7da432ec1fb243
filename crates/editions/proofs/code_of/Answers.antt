-- `editions::code_of` meets its contract: the three parts of the head. Assumes nothing.
use Rattle.editions.proofs.code_of.Goals as goal

pub returns : goal.returns
returns c = let h = c.head_of-h.ensures in rw (h.kind, h.code, h.crit)
