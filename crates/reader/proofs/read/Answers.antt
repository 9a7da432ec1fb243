-- Each return is one case of the verdict.
use mathlib.Core.Path.{refl, sym, ◌∙◌}
use Rattle.std.proofs.lemmas.Result.{err_from_is_err_and}
use Rattle.verdicts.specs.Verdict.{every}
use Rattle.judging.proofs.Steps.{too_long, frame_stops, not_named, judged_inside}
use Rattle.reader.proofs.Record.{answers_as, answers_refused}
use Rattle.reader.proofs.read.Goals as goal

pub returns-then-s-gt8192 : goal.returns-then-s-gt8192
returns-then-s-gt8192 c = answers_refused c.args.e c.args.room.now (too_long c.args.e every c.args.s.now c.if-s-gt8192.true)

pub returns-in_err-f : goal.returns-in_err-f
returns-in_err-f c =
    let a = c.args in
    let p = err_from_is_err_and c.from_residual.result c.from_residual.ensures.1 in
    rw (p.1, p.2) (answers_refused a.e a.room.now (frame_stops a.e every a.s.now c.if-s-gt8192.false c.in_err-f.ensures))

pub returns-in-Some : goal.returns-in-Some
returns-in-Some c =
    let a = c.args in
    answers_as a.e a.room.now (judged_inside a.e every a.s.now c.if-s-gt8192.false c.in_ok-f.ensures (sym c.message_of.ensures ∙ c.in-Some.is) refl) c.read_inside.ensures

pub returns-in-None : goal.returns-in-None
returns-in-None c =
    let a = c.args in
    answers_refused a.e a.room.now (not_named a.e every a.s.now c.if-s-gt8192.false c.in_ok-f.ensures (sym c.message_of.ensures ∙ c.in-None.is))
