-- By whether there is room.
use borrow.Author.Rules.{rules}
use Rattle.lists.proofs.Slices.{length_of}
use Rattle.table.proofs.Holding.{started, not_started}
use Rattle.table.proofs.start.Goals as goal

pub returns-then-n-lt256 : goal.returns-then-n-lt256
returns-then-n-lt256 c = started c.args.t (search (rules, length_of)) c.min-n.ensures c.args.a c.if-n-lt256.true

pub returns-else-n-lt256 : goal.returns-else-n-lt256
returns-else-n-lt256 c = not_started c.args.t (search (rules, length_of)) c.min-n.ensures c.args.a c.if-n-lt256.false
