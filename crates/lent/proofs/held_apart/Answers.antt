-- What is found of the numbers of each series is what holds of the rows.
use mathlib.Core.Path.{sym, ◌∙◌}
use lib.ListN.{drop}
use Rattle.lent.proofs.Told.{mme_shared, mce_shared, not_good, both_apart}
use Rattle.lent.proofs.held_apart.Goals as goal

pub returns-in_err-mme-clause-is : goal.returns-in_err-mme-clause-is
returns-in_err-mme-clause-is g c = let a = c.args in
    c.from_residual.ensures ∙ mme_shared g.row.W a.item a.n (drop 2 a.s.now) c.in_err-mme.ensures.is

pub returns-then-not-sessions_good-clause-is : goal.returns-then-not-sessions_good-clause-is
returns-then-not-sessions_good-clause-is g c = let a = c.args in
    not_good g.row.W a.item a.n (drop 2 a.s.now) (sym c.sessions_good.ensures ∙ c.if-not-sessions_good.true)

pub returns-in_err-mce-clause-is : goal.returns-in_err-mce-clause-is
returns-in_err-mce-clause-is g c = let a = c.args in
    c.from_residual-in_err-mce.ensures ∙ mce_shared g.row.W a.item a.n (drop 2 a.s.now) c.in_err-mce.ensures.is

pub returns-clause-is : goal.returns-clause-is
returns-clause-is g c = let a = c.args in
    both_apart g.row.W a.item a.n (drop 2 a.s.now) (sym c.sessions_good.ensures ∙ c.if-not-sessions_good.false) c.in_ok-mme.ensures.is c.in_ok-mce.ensures.is
