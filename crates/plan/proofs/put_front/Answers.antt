-- `plan::put_front` meets its contract: the parts one after another. Assumes nothing.
use Rattle.octets.proofs.Writing.{wrote_then}
use Rattle.plan.specs.Plan.{front_octets}
use Rattle.plan.proofs.Steps.{crit_octet}
use Rattle.plan.proofs.put_front.Goals as goal

pub returns : goal.returns
unfolding front_octets
returns c = rw (← crit_octet c.args.crit, ← c.with_bits.ensures) (wrote_then c.put_two-second.ensures (wrote_then c.put_octet-third.ensures c.put_length.ensures))
