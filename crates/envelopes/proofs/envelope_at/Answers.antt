-- an id that was read stands inside
use Rattle.std.proofs.Common.{arith}
use Rattle.octets.proofs.Got.{number_got}
use Rattle.envelopes.proofs.envelope_at.Goals as goal

pub overflow_add-at : goal.overflow_add-at
overflow_add-at c = omega (arith, (number_got c.args.s.now c.args.at 2 c.in_ok-id.ensures).0)

pub overflow_add-at-2 : goal.overflow_add-at-2
overflow_add-at-2 c = omega (arith, (number_got c.args.s.now c.args.at 2 c.in_ok-id.ensures).0)
