-- `link::write_in` meets its contract: 12 for a name that is refused, else what becomes of the record. Assumes nothing.
use mathlib.Core.Path.{refl, sym, ◌∙◌}
use Rattle.link.specs.Link.{write_for}
use Rattle.link.proofs.write_in.Goals as goal

pub returns-then-name_refused : goal.returns-then-name_refused
unfolding write_for
returns-then-name_refused c = rw (sym c.name_refused.ensures ∙ c.if-name_refused.true) (record { answer = c.plain.ensures; room = refl })

pub returns : goal.returns
unfolding write_for
returns c = rw (sym c.name_refused.ensures ∙ c.if-name_refused.false) c.write_allowed.ensures
