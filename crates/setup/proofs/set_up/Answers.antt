-- `setup::set_up` meets its contract: each refusal in its turn, and then what the writer answered. Assumes nothing.
use mathlib.Core.Path.{refl, sym, ◌∙◌}
use Rattle.identity.specs.Items.{empty_item}
use Rattle.setup.specs.Setup.{Setup}
use Rattle.setup.proofs.Laws.{has_no_unit, a_unit, not_a_unit, name_not_allowed, already_open, no_request, sent_so, no_room_so, not_written_so}
use Rattle.setup.proofs.set_up.Goals as goal

pub returns-in_default : goal.returns-in_default
returns-in_default c = let a = c.args in
    let d : Setup = record { said = a.said.now; values = a.values.now; room = a.room.now } in
    not_a_unit a.e a.unit.now d (has_no_unit a.unit.now empty_item (sym c.in_default.is ∙ c.look_up.ensures)) _ c.refused.ensures

pub returns-then-name_refused : goal.returns-then-name_refused
returns-then-name_refused c = let a = c.args in
    let d : Setup = record { said = a.said.now; values = a.values.now; room = a.room.now } in
    let u = a_unit a.unit.now empty_item (sym c.in-Some.is ∙ c.look_up.ensures) in
    name_not_allowed a.e a.unit.now d u (sym c.name_refused.ensures ∙ c.if-name_refused.true) _ c.refused-then-name_refused.ensures

pub returns-then-is_open : goal.returns-then-is_open
returns-then-is_open c = let a = c.args in
    let d : Setup = record { said = a.said.now; values = a.values.now; room = a.room.now } in
    let u = a_unit a.unit.now empty_item (sym c.in-Some.is ∙ c.look_up.ensures) in
    already_open a.e a.unit.now d u (sym c.name_refused.ensures ∙ c.if-name_refused.false) (sym c.is_open.ensures ∙ c.if-is_open.true) _ c.refused-then-is_open.ensures

pub returns-then-not-is_request : goal.returns-then-not-is_request
returns-then-not-is_request c = let a = c.args in
    let d : Setup = record { said = a.said.now; values = a.values.now; room = a.room.now } in
    let u = a_unit a.unit.now empty_item (sym c.in-Some.is ∙ c.look_up.ensures) in
    no_request a.e a.unit.now d u (sym c.name_refused.ensures ∙ c.if-name_refused.false) (sym c.is_open.ensures ∙ c.if-is_open.false) (sym c.is_request.ensures ∙ c.if-not-is_request.true) _ c.refused-then-not-is_request.ensures

pub returns-in-Err-NotWritten : goal.returns-in-Err-NotWritten
returns-in-Err-NotWritten c = let a = c.args in
    let d : Setup = record { said = a.said.now; values = a.values.now; room = a.room.now } in
    let u = a_unit a.unit.now empty_item (sym c.in-Some.is ∙ c.look_up.ensures) in
    not_written_so a.e a.unit.now d u (sym c.name_refused.ensures ∙ c.if-name_refused.false) (sym c.is_open.ensures ∙ c.if-is_open.false)
    (sym c.is_request.ensures ∙ c.if-not-is_request.false) c.write.ensures (rw c.in-Err-NotWritten.field-0-is at c.in-Err-NotWritten.is) c.refused-in-Err-NotWritten.ensures

pub returns-in-Err-NoRoom : goal.returns-in-Err-NoRoom
returns-in-Err-NoRoom c = let a = c.args in
    let d : Setup = record { said = a.said.now; values = a.values.now; room = a.room.now } in
    let u = a_unit a.unit.now empty_item (sym c.in-Some.is ∙ c.look_up.ensures) in
    no_room_so a.e a.unit.now d u (sym c.name_refused.ensures ∙ c.if-name_refused.false) (sym c.is_open.ensures ∙ c.if-is_open.false)
    (sym c.is_request.ensures ∙ c.if-not-is_request.false) c.write.ensures (rw c.in-Err-NoRoom.field-0-is at c.in-Err-NoRoom.is) c.refused-in-Err-NoRoom.ensures

pub returns-in-Ok : goal.returns-in-Ok
returns-in-Ok c = let a = c.args in
    let d : Setup = record { said = a.said.now; values = a.values.now; room = a.room.now } in
    let u = a_unit a.unit.now empty_item (sym c.in-Some.is ∙ c.look_up.ensures) in
    sent_so a.e a.unit.now d u (sym c.name_refused.ensures ∙ c.if-name_refused.false) (sym c.is_open.ensures ∙ c.if-is_open.false)
    (sym c.is_request.ensures ∙ c.if-not-is_request.false) c.write.ensures c.in-Ok.is refl c.put_open.ensures
