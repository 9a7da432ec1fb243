-- the first octet was read
use Rattle.std.proofs.Common.{arith}
use Rattle.octets.proofs.Got.{plain_got}
use Rattle.frames.proofs.count_at.Goals as goal

pub overflow_add-from : goal.overflow_add-from
overflow_add-from c = omega (arith, (plain_got c.args.s.now c.args.from 0 c.in_ok-plain_at.ensures).0)
