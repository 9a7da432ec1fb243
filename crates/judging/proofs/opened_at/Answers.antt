use Rattle.std.proofs.Common.{◌∙◌, sym}
use Rattle.rows.specs.Table.{rows_in}
use Rattle.verdicts.specs.Verdict.{opened_at}
use Rattle.judging.proofs.OpenedLaws.{opens_got, opens_stop}
use Rattle.judging.proofs.opened_at.Goals as goal

pub returns-then-is_err : goal.returns-then-is_err
returns-then-is_err c = let a = c.args in opens_stop (opened_at (rows_in a.t) a.c a.s.now a.from) c.judged_at-opened.ensures (sym c.is_err.ensures.value ∙ c.if-is_err.true)

pub returns-else-is_err : goal.returns-else-is_err
returns-else-is_err c = let a = c.args in opens_got (opened_at (rows_in a.t) a.c a.s.now a.from) c.judged_at-opened.ensures (sym c.is_err.ensures.value ∙ c.if-is_err.false)
