-- `put_message::write_as` meets its contract: octets that are no record's are not written; of the others the plan says whether they are, and the rows are put one after another. Assumes nothing.
use Rattle.std.specs.Prelude.{Err}
use Rattle.std.proofs.Common.{rules}
use mathlib.Core.Path.{◌≡◌, ◌∙◌, sym}
use Rattle.put_message.proofs.Messages.{writes_none, not_formed, formed_in, within, ready, refused, done}
use Rattle.put_message.proofs.write_as.Goals as goal

pub returns-then-not-is_formed : goal.returns-then-not-is_formed
returns-then-not-is_formed c = let a = c.args in writes_none a.room.now (not_formed a.e a.m a.s.now a.values.now (formed_in a.e a.m a.s.now a.values.now c.rows_of-rows.ensures (sym c.is_formed.ensures ∙ c.if-not-is_formed.true)))

pub returns-in_err-first : goal.returns-in_err-first
returns-in_err-first c =
    let a = c.args in
    let f = formed_in a.e a.m a.s.now a.values.now c.rows_of-rows.ensures (sym c.is_formed.ensures ∙ c.if-not-is_formed.false) in
    let r : c.from_residual.result ≡ Err c.in_err-first.field-0.0 = search rules in
    rw r (refused a.e a.m a.s.now a.values.now c.rows_of-rows.ensures c.sizes_of-sizes.ensures c.plan_of.ensures a.room.now f _ (rw (c.code_of.ensures, c.in_err-first.was) at c.begin.ensures))

pub put_rows-requires : goal.put_rows-requires
put_rows-requires c =
    let a = c.args in
    let w = rw (c.code_of.ensures, c.in_ok-first.was) at c.begin.ensures in
    (within a.e a.m a.s.now a.values.now c.rows_of-rows.ensures c.sizes_of-sizes.ensures c.plan_of.ensures a.room.now w, c.requires, ready a.e a.m a.s.now a.values.now c.rows_of-rows.ensures c.sizes_of-sizes.ensures c.plan_of.ensures a.room.now w)

pub returns : goal.returns
returns c =
    let a = c.args in
    let f = formed_in a.e a.m a.s.now a.values.now c.rows_of-rows.ensures (sym c.is_formed.ensures ∙ c.if-not-is_formed.false) in
    done a.e a.m a.s.now a.values.now c.rows_of-rows.ensures c.sizes_of-sizes.ensures c.plan_of.ensures a.room.now f (rw (c.code_of.ensures, c.in_ok-first.was) at c.begin.ensures) c.put_rows.ensures
