-- `put_message::part_size` meets its contract: by the number of items; their octets are few. Assumes nothing.
use native.Mathlib.Omega.{arith}
use Rattle.put_message.proofs.Words.{items_small}
use mathlib.Core.Path.{◌∙◌, sym}
use Rattle.items.specs.Written.{reset_crit}
use Rattle.put_message.specs.Said.{said_items}
use Rattle.put_message.proofs.Sizes.{part_size, part_none}
use Rattle.put_message.proofs.part_size.Goals as goal

pub overflow_add-result : goal.overflow_add-result
overflow_add-result c = omega (arith, c.said_size.ensures reset_crit, items_small c.args.s.now reset_crit)

pub returns-then-fits_a_list : goal.returns-then-fits_a_list
returns-then-fits_a_list c = part_size (said_items c.args.s.now) (rw c.said_items.ensures at (sym c.fits_a_list.ensures ∙ c.if-fits_a_list.true)) (c.said_size.ensures reset_crit)

pub returns-else-fits_a_list : goal.returns-else-fits_a_list
returns-else-fits_a_list c = part_none (said_items c.args.s.now) (rw c.said_items.ensures at (sym c.fits_a_list.ensures ∙ c.if-fits_a_list.false))
