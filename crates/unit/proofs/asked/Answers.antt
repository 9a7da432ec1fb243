-- what is inside stops; or what it asks for is decided, which is what the verdict says
use Rattle.std.proofs.Common.{◌∙◌, arith}
use Rattle.units.specs.Unit.{read_unit}
use Rattle.carry.specs.Carry.{ruling}
use Rattle.verdicts.specs.declared.Refusal.TheVariants as refusal
use Rattle.judging.proofs.Steps.{verdict_stops}
use Rattle.unit.proofs.Reading.{numbers_fit, noted_count, decided_by}
use Rattle.unit.proofs.Laws.{none_listed, on_same, bare_called}
use Rattle.unit.proofs.asked.Goals as goal

pub invariant_of-h : goal.invariant_of-h
invariant_of-h c = let a = c.args in record { octets = λ i. omega (arith, c.type_inv.message i); fit = numbers_fit a.e a.m c.rows_of-t.ensures; counted = noted_count _ c.opened_at.ensures c.in-Ok.is }

pub carried_out-requires : goal.carried_out-requires
carried_out-requires c = none_listed c.ask_of.result c.seen_in-seen.result c.in-Ok.o.outcome c.rule-q.ensures

pub returns-in-Ok : goal.returns-in-Ok
returns-in-Ok c =
    let a = c.args in
    on_same a.e a.unit.now a.room.now (read_unit a.unit.now) _ _
    (decided_by a.e a.m a.f a.message.now c.rows_of-t.ensures c.has_container-c.ensures c.opened_at.ensures c.in-Ok.is (c.rule-q.ensures ∙ (λ i. ruling (c.ask_of.ensures i) (c.seen_in-seen.ensures i) c.in-Ok.o.outcome)) a.offered)
    c.carried_out.ensures

pub returns-in-Err : goal.returns-in-Err
returns-in-Err c =
    let a = c.args in
    bare_called a.e a.unit.now (record { message = a.message.now; offered = a.offered; room = a.room.now }) (refusal.Stopped c.in-Err.x)
    (verdict_stops a.e a.m a.f a.message.now c.rows_of-t.ensures c.has_container-c.ensures c.opened_at.ensures c.in-Err.is) c.bare.ensures
