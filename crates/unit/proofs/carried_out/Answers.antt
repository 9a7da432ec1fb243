-- no unit; or what is decided on what it holds is settled
use Rattle.unit.specs.Heard.{items_heard, noted_heard}
use Rattle.unit.proofs.Laws.{found, has_no_unit, items_agree, on_decision, off_unit}
use Rattle.unit.proofs.carried_out.Goals as goal

pub settle_noted-requires : goal.settle_noted-requires
settle_noted-requires c =
    let a = c.args in
    record { has_rows = (found a.unit.now c.asked.result c.in-Some.ensures).rows; reply_value = items_agree _ a.offered a.q c.requires c.decide-d.ensures }

pub returns-in-None : goal.returns-in-None
returns-in-None c = let a = c.args in rw c.hand_back.ensures (off_unit a.h.now.edition a.unit.now a.room.now _ (has_no_unit a.unit.now c.asked.result c.in-None.ensures))

pub returns-in-Some : goal.returns-in-Some
returns-in-Some c =
    let a = c.args in
    let h = a.h.now in
    let x = found a.unit.now c.asked.result c.in-Some.ensures in
    on_decision h.edition a.unit.now a.room.now h.frame (items_heard h) (noted_heard h) a.offered a.q x.rows.0 c.asked.ensures x.standing c.decide-d.ensures c.settle_noted.ensures
