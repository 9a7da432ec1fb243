-- `put_reply::diagnostics_size` meets its contract: what is tested in turn says whether they have octets, and the entries count only where a list is there. Assumes nothing.
use mathlib.Core.Path.{sym, ◌∙◌}
use Rattle.put_reply.proofs.Sizes.{trigger_bad, crit_bad, list_bad, diagnostics_size}
use Rattle.put_reply.proofs.diagnostics_size.Goals as goal

pub returns-then-not-is_under : goal.returns-then-not-is_under
returns-then-not-is_under c = trigger_bad c.args.noted.now c.args.h (sym c.is_under.ensures ∙ c.if-not-is_under.true)

pub returns-then-not-is_under-2 : goal.returns-then-not-is_under-2
returns-then-not-is_under-2 c = crit_bad c.args.noted.now c.args.h (sym c.is_under.ensures ∙ c.if-not-is_under.false) (sym c.is_under-2.ensures ∙ c.if-not-is_under-2.true)

pub returns-then-not-is_list_good : goal.returns-then-not-is_list_good
returns-then-not-is_list_good c = list_bad c.args.noted.now c.args.h (sym c.is_under.ensures ∙ c.if-not-is_under.false) (sym c.is_under-2.ensures ∙ c.if-not-is_under-2.false) (sym c.is_list_good.ensures ∙ c.if-not-is_list_good.true)

pub returns : goal.returns
returns c = diagnostics_size c.args.noted.now c.args.h (sym c.is_under.ensures ∙ c.if-not-is_under.false) (sym c.is_under-2.ensures ∙ c.if-not-is_under-2.false) (sym c.is_list_good.ensures ∙ c.if-not-is_list_good.false) c.listed_size.ensures
