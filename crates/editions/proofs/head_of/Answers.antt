-- `editions::head_of` meets its contract. Assumes nothing.
use Rattle.editions.proofs.Forms.{heads_of_lem}
use Rattle.editions.proofs.head_of.Goals as goal

pub returns : goal.returns
returns c = heads_of_lem c.args.e c.args.m c.printed_head.ensures
