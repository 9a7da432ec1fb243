-- octets of no unit are 21, whatever the answer
use mathlib.Core.Path.{sym, ap, ◌∙◌}
use Rattle.identity.specs.Items.{empty_item}
use Rattle.units.specs.Unit.{MaybeUnit}
use Rattle.unit.specs.Unit.{bare_on}
use Rattle.unit.proofs.Laws.{found, has_no_unit}
use Rattle.unit.proofs.bare.Goals as goal

pub returns-in-None : goal.returns-in-None
returns-in-None c = c.hand_back-in-None.ensures ∙ sym (ap (λ (y : MaybeUnit). bare_on y c.args.answer) (has_no_unit c.args.unit.now empty_item c.in-None.ensures))

pub returns-in-Some : goal.returns-in-Some
returns-in-Some c = c.hand_back.ensures ∙ sym (ap (λ (y : MaybeUnit). bare_on y c.args.answer) (found c.args.unit.now empty_item c.in-Some.ensures).rows.0)
