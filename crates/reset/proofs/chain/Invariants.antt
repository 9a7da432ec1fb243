use Rattle.lists.specs.Chains.{Chained}
use Rattle.reset.specs.Slots.{slot_at}
use Rattle.reset.proofs.chain.Given as goal

abbrev pub invariant-loop-i : goal.invariant-loop-i
invariant-loop-i l = Chained (slot_at l.words) 4096 256 l.head l.next l.i
