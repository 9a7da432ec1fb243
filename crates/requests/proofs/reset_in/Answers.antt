-- what can be read is a part or the whole by its second bit
use Rattle.std.proofs.Common.{◌∙◌}
use Rattle.requests.proofs.Laws.{reset_by_flag, flag_there, ok_some, ok_none}
use Rattle.requests.proofs.reset_in.Goals as goal

pub returns-in_err-part : goal.returns-in_err-part
returns-in_err-part c =
    let a = c.args in
    let g = ok_some _ c.ok.ensures.value c.in_ok-ok.was ∙ c.reset_gate.ensures in
    let f = ok_none _ c.ok-2.ensures.value c.in_err-part.was in
    flag_there a.s.now a.at g (f.1 ∙ c.flag_at.ensures)

pub returns-then-part : goal.returns-then-part
returns-then-part c =
    let a = c.args in
    let g = ok_some _ c.ok.ensures.value c.in_ok-ok.was ∙ c.reset_gate.ensures in
    let f = ok_some _ c.ok-2.ensures.value c.in_ok-part.was ∙ c.flag_at.ensures in
    reset_by_flag a.s.now a.at g f c.if-part.true

pub returns-else-part : goal.returns-else-part
returns-else-part c =
    let a = c.args in
    let g = ok_some _ c.ok.ensures.value c.in_ok-ok.was ∙ c.reset_gate.ensures in
    let f = ok_some _ c.ok-2.ensures.value c.in_ok-part.was ∙ c.flag_at.ensures in
    reset_by_flag a.s.now a.at g f c.if-part.false
