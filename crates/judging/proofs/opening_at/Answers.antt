use Rattle.std.proofs.Common.{◌≡◌, ◌∙◌, refl, rules}
use Rattle.std.specs.Prelude.{Err}
use Rattle.octets.proofs.Chain.{past, halt}
use Rattle.rows.specs.Table.{rows_in}
use Rattle.envelopes.specs.Envelope.{heads_at}
use Rattle.elements.specs.Judge.{extensions_at, elements_at}
use Rattle.judging.proofs.BehindLaws.{stops_there, counted_there}
use Rattle.judging.proofs.OpenedLaws.{judges_stop, judges_got, opened_places, opened_front, opened_all}
use Rattle.judging.proofs.opening_at.Goals as goal

pub returns-in_err-to : goal.returns-in_err-to
unfolding elements_at
returns-in_err-to c =
    let e : c.from_residual.result ≡ Err c.in_err-to.field-0.0 = search rules in
    rw e (judges_stop (halt _ (halt _ (halt _ (c.in_err-to.ensures ∙ c.walk-w.ensures.faults)))))

pub returns-in_err-behind : goal.returns-in_err-behind
unfolding elements_at
returns-in_err-behind c =
    let a = c.args in
    let e : c.from_residual-in_err-behind.result ≡ Err c.in_err-behind.field-0.0 = search rules in
    rw e (judges_stop (halt _ (halt _ (past _ _ (c.in_ok-to.ensures ∙ c.walk-w.ensures.faults) (stops_there (extensions_at a.container a.s.now c.in_ok-to.to) _ c.in_err-behind.ensures)))))

pub returns-then-w-n : goal.returns-then-w-n
unfolding elements_at
returns-then-w-n c =
    let a = c.args in
    let e = c.walk-w.ensures in
    let hs = heads_at a.s.now a.n a.from in
    let x = counted_there (extensions_at a.container a.s.now c.in_ok-to.to) c.in_ok-behind.ensures in
    let p = e.seen _ c.in_ok-to.ensures in
    judges_got (past _ _ (past _ _ (past _ _ (c.in_ok-to.ensures ∙ e.faults) x.1) refl) refl) (opened_front (rows_in a.t) a.n hs x.0 _ _ p c.if-w-n.true) (opened_places (rows_in a.t) a.n hs x.0 _ _ p)

pub returns : goal.returns
unfolding elements_at
returns c =
    let a = c.args in
    let e = c.walk-w.ensures in
    let hs = heads_at a.s.now a.n a.from in
    let x = counted_there (extensions_at a.container a.s.now c.in_ok-to.to) c.in_ok-behind.ensures in
    let p = e.seen _ c.in_ok-to.ensures in
    judges_got (past _ _ (past _ _ (past _ _ (c.in_ok-to.ensures ∙ e.faults) x.1) refl) refl)
    (rw c.outcome_by.ensures (opened_all (rows_in a.t) a.n hs x.0 _ _ p c.if-w-n.false e.within x.2 c.with_missing-all.ensures))
    (opened_places (rows_in a.t) a.n hs x.0 _ _ p)
