-- `put_message::put_reset` meets its contract: by the first octet. Assumes nothing.
use Rattle.packed.specs.Packed.{packed_in}
use borrow.Author.Tests.{eq-eqb, ne_eqb}
use Rattle.octets.proofs.Writing.{wrote_then}
use Rattle.items.specs.Written.{reset_octets}
use Rattle.put_message.proofs.put_reset.Goals as goal

pub returns : goal.returns
unfolding reset_octets packed_in
returns c = rw (eq-eqb _ _ c.if-there-ne2.false) (wrote_then c.put_octet-first.ensures c.put_said.ensures)

pub returns-then-there-ne2 : goal.returns-then-there-ne2
unfolding reset_octets packed_in
returns-then-there-ne2 c = rw (ne_eqb _ _ c.if-there-ne2.true) c.put_octet.ensures
