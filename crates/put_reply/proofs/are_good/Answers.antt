-- `put_reply::are_good` meets its contract: the loop's invariant: none of the first i entries is bad. Assumes nothing.
use mathlib.Core.Path.{sym, ◌∙◌, ap}
use mathlib.Core.Bool.{not}
use native.Mathlib.Omega.{arith}
use Rattle.lists.proofs.Search.{sought_none, sought_more, sought_found, sought_all}
use Rattle.put_reply.proofs.Sizes.{good_none, good_some}
use Rattle.put_reply.proofs.are_good.Goals as goal

pub returns-then-not-fits_a_list : goal.returns-then-not-fits_a_list
returns-then-not-fits_a_list c = good_none c.args.noted.now (sym c.fits_a_list.ensures ∙ c.if-not-fits_a_list.true)

pub loop-w-init : goal.loop-w-init
loop-w-init c = sought_none (omega arith)

pub returns-then-not-is_entry_good : goal.returns-then-not-is_entry_good
returns-then-not-is_entry_good c = good_some c.args.noted.now (sym c.fits_a_list.ensures ∙ c.if-not-fits_a_list.false) (sought_found c.loop-w.invariant 0 c.loop-w-test.true (omega arith) (ap not (sym c.is_entry_good.ensures ∙ c.if-not-is_entry_good.true)))

pub loop-w-preserved : goal.loop-w-preserved
loop-w-preserved c = sought_more c.loop-w.invariant 0 c.loop-w-test.true (omega arith) (ap not (sym c.is_entry_good.ensures ∙ c.if-not-is_entry_good.false))

pub returns : goal.returns
returns c = good_some c.args.noted.now (sym c.fits_a_list.ensures ∙ c.if-not-fits_a_list.false) (sought_all c.loop-w.invariant c.loop-w-test.false)
