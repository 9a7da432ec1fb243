-- `put_values::cause_octet` meets its contract: the fields, put in one after another, are the packed octet. Assumes nothing.
use native.Mathlib.Omega.{arith}
use native.Mathlib.Nat.{lt_of_lt_of_le}
use Rattle.values.proofs.Roots.{root_width, root_group}
use Rattle.put_values.proofs.Put.{cause_together}
use Rattle.put_values.proofs.cause_octet.Goals as goal

pub returns : goal.returns
returns c = let g = root_group c.args.c.group c.requires in
    rw (c.with_bits.ensures, c.with_bits-plain.ensures, c.with_bits-group.ensures, c.width_of.ensures) (cause_together _ _ _ (omega arith) (root_width c.args.c.group).0 (lt_of_lt_of_le c.requires (root_width c.args.c.group).1))
