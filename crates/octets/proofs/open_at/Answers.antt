-- the length that was read ends inside
use Rattle.octets.proofs.Got.{length_got, length_in}
use Rattle.octets.proofs.open_at.Goals as goal

pub overflow_sub-s : goal.overflow_sub-s
overflow_sub-s c = (length_in c.args.s.now c.args.at (length_got c.args.s.now c.args.at c.in_ok-n.ensures)).1
