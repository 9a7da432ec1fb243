-- The slots of both identities are walked, the second where the first has none that names it.
use Rattle.reset.proofs.Slots.{named_either}
use Rattle.reset.proofs.named.Goals as goal

pub returns-then-named_in : goal.returns-then-named_in
returns-then-named_in c = let f = rw c.slot_of.ensures at c.named_in.ensures in
    rw (named_either _ c.args.a, ← f, c.if-named_in.true)

pub returns-else-named_in : goal.returns-else-named_in
returns-else-named_in c = let f = rw c.slot_of.ensures at c.named_in.ensures in
    let g = rw c.slot_of-else-named_in.ensures at c.named_in-else-named_in.ensures in
    rw (named_either _ c.args.a, ← f, c.if-named_in.false) g
