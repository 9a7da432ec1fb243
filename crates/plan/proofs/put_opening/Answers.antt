-- `plan::put_opening` meets its contract: the parts one after another. Assumes nothing.
use Rattle.octets.proofs.Writing.{wrote_then}
use Rattle.plan.proofs.Steps.{opening_same, wrote_as}
use Rattle.plan.proofs.put_opening.Goals as goal

pub returns : goal.returns
returns c = let a = c.args in wrote_as (opening_same a.inside a.count _ _ a.code c.with_bits.ensures c.with_bits-2.ensures) (wrote_then c.put_octet-second.ensures (wrote_then c.put_octet-third.ensures (wrote_then c.put_octet-fourth.ensures (wrote_then c.put_length-message.ensures (wrote_then c.put_octet-number.ensures c.put_two.ensures)))))
