-- by the steps of reading: a refusal has its answer, and what asks for something is carried out
use Rattle.std.proofs.Common.{refl, sym, ◌∙◌}
use Rattle.calls.specs.Call.{Call}
use Rattle.verdicts.specs.declared.Refusal.TheVariants as refusal
use Rattle.requests.specs.Requests.{asks}
use Rattle.judging.proofs.Steps.{too_long, frame_stops, not_named, not_among, judged_inside}
use Rattle.unit.proofs.Reading.{long_answers, stopped_answers, named_answers}
use Rattle.unit.proofs.Laws.{bare_called, called, not_asked_for}
use Rattle.unit.proofs.call.Goals as goal

pub returns-then-message-gt8192 : goal.returns-then-message-gt8192
returns-then-message-gt8192 c =
    let a = c.args in
    let x : Call = record { message = a.message.now; offered = a.offered; room = a.room.now } in
    called a.e a.unit.now x (too_long a.e asks a.message.now c.if-message-gt8192.true) (long_answers a.e a.message.now c.if-message-gt8192.true) refl (bare_called a.e a.unit.now x refusal.TooLong refl c.bare.ensures)

pub returns-in-Err : goal.returns-in-Err
returns-in-Err c =
    let a = c.args in
    let x : Call = record { message = a.message.now; offered = a.offered; room = a.room.now } in
    called a.e a.unit.now x (frame_stops a.e asks a.message.now c.if-message-gt8192.false c.in-Err.ensures) (stopped_answers a.e a.message.now c.if-message-gt8192.false c.in-Err.ensures) refl (bare_called a.e a.unit.now x (refusal.Stopped c.in-Err.x) refl c.bare-in-Err.ensures)

pub returns-in_default : goal.returns-in_default
returns-in_default c =
    let a = c.args in
    let x : Call = record { message = a.message.now; offered = a.offered; room = a.room.now } in
    let n = sym c.in_default.ensures in
    called a.e a.unit.now x (not_named a.e asks a.message.now c.if-message-gt8192.false c.in-Ok.ensures n) (named_answers a.e a.message.now c.if-message-gt8192.false c.in-Ok.ensures n) refl (bare_called a.e a.unit.now x refusal.NotAmong refl c.bare-in_default.ensures)

pub returns-then-is_unasked : goal.returns-then-is_unasked
returns-then-is_unasked c =
    let a = c.args in
    let x : Call = record { message = a.message.now; offered = a.offered; room = a.room.now } in
    let n = sym c.in-Some.ensures in
    not_asked_for a.e a.unit.now x (named_answers a.e a.message.now c.if-message-gt8192.false c.in-Ok.ensures n) (sym c.is_unasked.ensures ∙ c.if-is_unasked.true) c.bare-then-is_unasked.ensures

pub returns-then-asks : goal.returns-then-asks
returns-then-asks c =
    let a = c.args in
    let x : Call = record { message = a.message.now; offered = a.offered; room = a.room.now } in
    let n = sym c.in-Some.ensures in
    called a.e a.unit.now x (judged_inside a.e asks a.message.now c.if-message-gt8192.false c.in-Ok.ensures n (sym c.asks.ensures ∙ c.if-asks.true)) (named_answers a.e a.message.now c.if-message-gt8192.false c.in-Ok.ensures n) (sym c.is_unasked.ensures ∙ c.if-is_unasked.false)
    c.asked.ensures

pub returns : goal.returns
returns c =
    let a = c.args in
    let x : Call = record { message = a.message.now; offered = a.offered; room = a.room.now } in
    let n = sym c.in-Some.ensures in
    called a.e a.unit.now x (not_among a.e asks a.message.now c.if-message-gt8192.false c.in-Ok.ensures n (sym c.asks.ensures ∙ c.if-asks.false)) (named_answers a.e a.message.now c.if-message-gt8192.false c.in-Ok.ensures n) (sym c.is_unasked.ensures ∙ c.if-is_unasked.false)
    (bare_called a.e a.unit.now x refusal.NotAmong refl c.bare-2.ensures)
