-- `put_message::put_diagnostics` meets its contract: by the test; without a list no word says an entry. Assumes nothing.
use mathlib.Core.List.{[]}
use Rattle.plan.proofs.Steps.{wrote_as}
use Rattle.put_message.proofs.Words.{listed_not}
use Rattle.put_message.proofs.put_diagnostics.Goals as goal

pub returns : goal.returns
returns c = wrote_as (listed_not c.args.head c.args.s.now [] c.if-head.false) c.put_listed.ensures
