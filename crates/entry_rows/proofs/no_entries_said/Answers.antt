-- `entry_rows::no_entries_said` meets its contract: no entries are 1,026 zeros.
-- Assumes nothing.
use Rattle.lent.proofs.Reading.{tail_part}
use mathlib.Core.List.{[]}
use mathlib.Core.Path.{◌∙◌}
use native.Mathlib.Omega.{arith}
use Rattle.entry_rows.proofs.OneForm.{no_form, not_long}
use Rattle.entry_rows.proofs.no_entries_said.Goals as goal

pub returns-then-s-ne2662 : goal.returns-then-s-ne2662
returns-then-s-ne2662 c = not_long c.args.s.now [] (omega arith) c.if-s-ne2662.true

pub returns : goal.returns
returns c = (rw tail_part at c.all_zero.ensures) ∙ no_form c.args.s.now (omega arith)
