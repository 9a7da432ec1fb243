-- Twelve octets into as many: nothing of what stood there is left.
use mathlib.Core.Path.{◌∙◌}
use native.Mathlib.Omega.{arith}
use Rattle.put_table.proofs.Writing.{row_put}
use Rattle.put_table.proofs.put_row.Goals as goal

pub returns : goal.returns
returns c =
    c.copy_from_slice.ensures.after ∙ rw (c.to_be_bytes-mme.ensures, c.to_be_bytes-mce.ensures, c.from.ensures, c.is_some.ensures, c.unwrap_or.ensures) (row_put c.args.a (omega arith) (omega arith))
