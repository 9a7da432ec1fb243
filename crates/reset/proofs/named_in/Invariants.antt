use Rattle.reset.proofs.Slots.{Walked}
use Rattle.reset.proofs.named_in.Given as goal

abbrev pub invariant-loop-k : goal.invariant-loop-k
invariant-loop-k l = Walked l.words l.h l.a l.k

abbrev pub decreases-loop-k : goal.decreases-loop-k
decreases-loop-k l = l.k
