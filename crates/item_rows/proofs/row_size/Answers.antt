-- `item_rows::row_size` meets its contract: two octets more for each flag that is set. Assumes nothing.
use Rattle.item_rows.proofs.Said.{row_sized}
use native.Mathlib.Omega.{arith}
use mathlib.Core.Path.{◌∙◌}
use Rattle.item_rows.proofs.row_size.Goals as goal

pub returns : goal.returns
returns c = ((λ crit. c.from.ensures ∙ row_sized c.args.s.now c.args.at c.octet_in.ensures c.octet_in-2.ensures c.there-a.ensures.0 c.there-b.ensures.0 crit), omega arith)
