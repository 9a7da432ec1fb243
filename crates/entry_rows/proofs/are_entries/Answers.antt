-- `entry_rows::are_entries` meets its contract: three tests, and when octets are those of what they say.
-- Assumes nothing.
use Rattle.lent.proofs.Reading.{tail_part}
use mathlib.Core.Path.{◌∙◌}
use native.Mathlib.Omega.{arith}
use Rattle.entry_rows.proofs.OneForm.{form, not_few, not_long}
use Rattle.entry_rows.proofs.Saying.{said_few}
use Rattle.layout.specs.Record.{lists_in}
use Rattle.entry_rows.proofs.are_entries.Goals as goal

pub returns-then-s-ne2662 : goal.returns-then-s-ne2662
returns-then-s-ne2662 c = let s = c.args.s.now in not_long s (lists_in s).entries (said_few s) c.if-s-ne2662.true

pub returns-then-n-gt256 : goal.returns-then-n-gt256
returns-then-n-gt256 c = let s = c.args.s.now in not_few s (omega (arith, c.if-n-gt256.true, c.from-n.ensures, c.from_be_bytes.ensures))

pub returns : goal.returns
returns c = let s = c.args.s.now in (rw tail_part at c.all_zero.ensures) ∙ form s (λ i. (c.type_inv.s i).fits) (omega arith) (omega (arith, c.from-n.ensures, c.from_be_bytes.ensures)) c.if-n-gt256.false
