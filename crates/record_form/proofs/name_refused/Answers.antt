-- `record_form::name_refused` meets its contract: by the tests. Assumes nothing.
use mathlib.Core.Path.{◌∙◌, sym}
use native.Mathlib.Omega.{arith}
use Rattle.record_form.proofs.BadNames.{refused_size, refused_other, refused_none, refused_bad}
use Rattle.record_form.proofs.name_refused.Goals as goal

pub returns-then-s-ne2662 : goal.returns-then-s-ne2662
returns-then-s-ne2662 c = let a = c.args in refused_size a.e a.s.now a.values.now c.if-s-ne2662.true

pub returns-in_default : goal.returns-in_default
returns-in_default c = let a = c.args in refused_other a.e a.s.now a.values.now (sym c.numbered.ensures ∙ c.in_default.is)

pub returns-then-are_slots_bad : goal.returns-then-are_slots_bad
returns-then-are_slots_bad c = let a = c.args in
    c.is_formed.ensures
    ∙ refused_bad a.e a.s.now a.values.now (omega (arith, c.if-s-ne2662.false)) (sym c.numbered.ensures ∙ c.in-Some.is) c.rows_of-rows.ensures (sym c.are_slots_bad.ensures ∙ c.if-are_slots_bad.true)

pub returns-else-are_slots_bad : goal.returns-else-are_slots_bad
returns-else-are_slots_bad c = let a = c.args in
    c.if-are_slots_bad.false ∙ refused_none a.e a.s.now a.values.now (omega (arith, c.if-s-ne2662.false)) (sym c.numbered.ensures ∙ c.in-Some.is) c.rows_of-rows.ensures (sym c.are_slots_bad.ensures ∙ c.if-are_slots_bad.false)
