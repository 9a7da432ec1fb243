-- The outcome and the values are those of the verdict.
use Rattle.std.proofs.Common.{◌∙◌, sym}
use Rattle.shown.proofs.Reading.{opened}
use Rattle.shown.proofs.name_inside.Goals as goal

pub returns : goal.returns
returns c =
    let a = c.args in
    c.if_accepted.ensures ∙ opened a.e a.m a.f a.s.now c.rows_of-t.ensures c.has_container-c.ensures c.opened_at.ensures (sym c.in_ok-o.was ∙ c.ok.ensures.value) c.name_among.ensures
