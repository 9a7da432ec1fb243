-- `put_reply::list_size` meets its contract: by how many there are. Assumes nothing.
use mathlib.Core.Path.{sym, ◌∙◌}
use Rattle.items.specs.Written.{acknowledgement_crit}
use Rattle.put_reply.proofs.Sizes.{list_size, list_none}
use Rattle.put_reply.proofs.list_size.Goals as goal

pub returns-else-fits_a_list : goal.returns-else-fits_a_list
returns-else-fits_a_list c = list_none c.args.kept.now (sym c.fits_a_list.ensures ∙ c.if-fits_a_list.false)

pub returns-then-fits_a_list : goal.returns-then-fits_a_list
returns-then-fits_a_list c = list_size c.args.kept.now (sym c.fits_a_list.ensures ∙ c.if-fits_a_list.true) (c.words_size.ensures acknowledgement_crit)
