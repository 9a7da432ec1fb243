-- `record_form::is_formed` meets its contract: slot by slot, then what stands behind them; other octets are too few or too many. Assumes nothing.
use mathlib.Core.Path.{◌∙◌, sym}
use Rattle.record_form.proofs.Formed.{formed_by, formed_not}
use Rattle.record_form.proofs.is_formed.Goals as goal

pub returns-then-s-ne2662 : goal.returns-then-s-ne2662
returns-then-s-ne2662 c = let a = c.args in sym (formed_not a.rows.rows.now a.s.now a.rows.few c.if-s-ne2662.true)

pub returns-in-Some : goal.returns-in-Some
returns-in-Some c = let a = c.args in c.is_behind.ensures ∙ formed_by a.rows.rows.now a.s.now c.if-s-ne2662.false a.rows.few (sym c.in-Some.is ∙ c.form_of.ensures)

pub returns-in-None : goal.returns-in-None
returns-in-None c = let a = c.args in formed_by a.rows.rows.now a.s.now c.if-s-ne2662.false a.rows.few (sym c.in-None.is ∙ c.form_of.ensures)
