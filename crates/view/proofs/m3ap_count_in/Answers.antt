-- By what was looked up.
use mathlib.Core.Path.{sym, ◌∙◌}
use native.Mathlib.Omega.{arith}
use Rattle.identity.specs.Items.{empty_item}
use Rattle.view.proofs.Found.{found, has_no_unit}
use lib.Seq.{length-take-le}
use Rattle.view.proofs.m3ap_count_in.Goals as goal

pub slice_bounds-count_in-end : goal.slice_bounds-count_in-end
slice_bounds-count_in-end c = let x = found c.args.unit.now empty_item (sym c.in-Some.is ∙ c.look_up.ensures) in sym (length-take-le 3074 c.args.unit.now (omega (arith, x.long)))

pub count_in-requires : goal.count_in-requires
count_in-requires c = let x = found c.args.unit.now empty_item (sym c.in-Some.is ∙ c.look_up.ensures) in let k = length-take-le 3074 c.args.unit.now (omega (arith, x.long)) in omega (arith, x.few)

pub returns-in-None : goal.returns-in-None
returns-in-None c = let x = has_no_unit c.args.unit.now empty_item (sym c.in-None.is ∙ c.look_up.ensures) in rw x

pub returns-in-Some : goal.returns-in-Some
returns-in-Some c = let x = found c.args.unit.now empty_item (sym c.in-Some.is ∙ c.look_up.ensures) in rw (x.unit, c.count_in.ensures)
