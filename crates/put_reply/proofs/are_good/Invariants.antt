use lib.ListN.{length}
use Rattle.lists.proofs.Search.{Sought}
use Rattle.put_reply.proofs.Sizes.{is_bad}
use Rattle.put_reply.proofs.are_good.Given as goal

abbrev pub invariant-loop-w : goal.invariant-loop-w
invariant-loop-w l = Sought is_bad l.noted 0 (length l.noted) l.w-index
