-- `put_diagnostics::put_listed` meets its contract: the fields before the list are put, and the list if they say that it is there.
-- Assumes nothing.
use Rattle.octets.proofs.Writing.{wrote_then}
use Rattle.put_diagnostics.proofs.Putting.{listed_no, listed_yes, wrote_as}
use Rattle.put_diagnostics.proofs.put_listed.Goals as goal

pub returns-then-head : goal.returns-then-head
returns-then-head c = wrote_as (listed_yes c.args.head c.args.words.now c.if-head.true) (wrote_then c.put_head-next.ensures c.put_words.ensures)

pub returns : goal.returns
returns c = wrote_as (listed_no c.args.head c.args.words.now c.if-head.false) c.put_head-next.ensures
