-- `put_message::list_size` meets its contract: by the number of items. Assumes nothing.
use mathlib.Core.Path.{◌∙◌, sym}
use Rattle.items.specs.Written.{acknowledgement_crit}
use Rattle.put_message.specs.Said.{said_items}
use Rattle.put_message.proofs.Sizes.{list_size, list_none}
use Rattle.put_message.proofs.list_size.Goals as goal

pub returns-then-fits_a_list : goal.returns-then-fits_a_list
returns-then-fits_a_list c = list_size (said_items c.args.s.now) (rw c.said_items.ensures at (sym c.fits_a_list.ensures ∙ c.if-fits_a_list.true)) (c.said_size.ensures acknowledgement_crit)

pub returns-else-fits_a_list : goal.returns-else-fits_a_list
returns-else-fits_a_list c = list_none (said_items c.args.s.now) (rw c.said_items.ensures at (sym c.fits_a_list.ensures ∙ c.if-fits_a_list.false))
