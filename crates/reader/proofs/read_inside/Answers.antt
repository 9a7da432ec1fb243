-- The judging says which verdict it is; behind it the record is put where there is room.
use native.Mathlib.Omega.{arith}
use Rattle.std.proofs.lemmas.Result.{err_from_is_err_and}
use Rattle.judging.proofs.Steps.{verdict_stops}
use Rattle.reader.proofs.Record.{all_legible, too_small, is_put, answers_refused}
use Rattle.reader.proofs.read_inside.Goals as goal

pub returns-in_err-o : goal.returns-in_err-o
returns-in_err-o c =
    let a = c.args in
    let p = err_from_is_err_and c.from_residual.result c.from_residual.ensures.1 in
    rw (p.1, p.2) (answers_refused a.e a.room.now (verdict_stops a.e a.m a.f a.s.now c.rows_of-t.ensures c.has_container-c.ensures c.opened_at.ensures c.in_err-o.was))

pub returns-then-room-lt2662 : goal.returns-then-room-lt2662
returns-then-room-lt2662 c = let a = c.args in too_small a.e a.m a.f a.s.now c.rows_of-t.ensures c.has_container-c.ensures c.opened_at.ensures c.in_ok-o.was c.if-room-lt2662.true

pub put_record-requires-clause-values : goal.put_record-requires-clause-values
put_record-requires-clause-values c = let a = c.args in all_legible a.e a.m a.f a.s.now c.rows_of-t.ensures c.has_container-c.ensures c.opened_at.ensures c.in_ok-o.was

pub returns : goal.returns
returns c =
    let a = c.args in
    is_put a.e a.m a.f a.s.now c.rows_of-t.ensures c.has_container-c.ensures c.opened_at.ensures c.in_ok-o.was (λ i. omega (arith, c.type_inv.s i)) c.requires.length c.requires.named a.room.now c.if-room-lt2662.false c.put_record.ensures
