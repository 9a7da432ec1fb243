-- `put_message::put_row` meets its contract: nothing for a size of 0, else what stands before the value, and the value. Assumes nothing.
use mathlib.Core.Path.{◌∙◌, sym, ap}
use native.Mathlib.Omega.{arith}
use Rattle.meaning.specs.Written.{element_octets}
use Rattle.octets.proofs.Writing.{wrote_none, wrote_then}
use Rattle.plan.specs.Plan.{size_given}
use Rattle.plan.proofs.Steps.{wrote_as}
use Rattle.plan.proofs.Messages.{element_none, element_is}
use Rattle.put_message.specs.Said.{value_by, given_by}
use Rattle.put_message.proofs.Values.{given_there}
use Rattle.put_message.proofs.put_row.Goals as goal

pub returns-then-size-eq0 : goal.returns-then-size-eq0
returns-then-size-eq0 c = let a = c.args in wrote_as (element_none a.row (given_by a.values.now a.s.now a.row.kind a.p.now) c.requires.2 c.if-size-eq0.true) (wrote_none _ _ (omega (arith, c.requires.0)))

pub returns : goal.returns
returns c = let a = c.args in
    let g = given_there a.values.now a.s.now a.row.kind a.p.now (λ z. c.if-size-eq0.false (c.requires.2 ∙ z)) in
    wrote_as (element_is a.row (value_by a.values.now a.s.now a.row.kind a.p.now) c.requires.1 (c.requires.2 ∙ ap size_given g) c.requires.3 ∙ ap (element_octets a.row) (sym g)) (wrote_then c.put_front-value.ensures c.put_value.ensures)
