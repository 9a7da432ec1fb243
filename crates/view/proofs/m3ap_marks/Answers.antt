-- By what was looked up.
use mathlib.Core.Path.{sym, ◌∙◌}
use native.Mathlib.Omega.{arith}
use Rattle.identity.specs.Items.{empty_item}
use Rattle.units.proofs.Parts.{octet_is}
use Rattle.view.proofs.Found.{found, has_no_unit}
use Rattle.view.proofs.m3ap_marks.Goals as goal

pub overflow_cast-result : goal.overflow_cast-result
overflow_cast-result c = let x = found c.args.unit.now empty_item (sym c.in-Some.is ∙ c.look_up.ensures) in record { fits = omega (arith, x.few) }

pub returns-in-None : goal.returns-in-None
returns-in-None c = rw (has_no_unit c.args.unit.now empty_item (sym c.in-None.is ∙ c.look_up.ensures))

pub returns-in-Some : goal.returns-in-Some
returns-in-Some c = let x = found c.args.unit.now empty_item (sym c.in-Some.is ∙ c.look_up.ensures) in rw (x.unit, c.from.ensures, octet_is, c.is_open.ensures, x.count)
