-- `put_reply::put_parts` meets its contract: by what stands before the elements, and the elements behind it. Assumes nothing.
use Rattle.std.specs.Prelude.{Err}
use Rattle.std.proofs.Common.{rules}
use mathlib.Core.Path.{◌≡◌}
use mathlib.Core.List.{map}
use Rattle.item_words.specs.Words.{item_of}
use Rattle.entry_words.specs.EntryWords.{entry_by}
use Rattle.put_reply.proofs.Rows.{refused_by, done_by, within_by, ready_then}
use Rattle.put_reply.proofs.put_parts.Goals as goal

pub put_rows-requires : goal.put_rows-requires
put_rows-requires c =
    let a = c.args in
    (within_by a.e a.m (map item_of a.kept.now) (map entry_by a.noted.now) a.p c.rows_of-t.ensures c.sizes_of-sizes.ensures c.plan_of.ensures a.room.now c.code_of.ensures c.begin.ensures c.in_ok-first.was, ready_then a.e a.m (map item_of a.kept.now) (map entry_by a.noted.now) a.p c.rows_of-t.ensures c.sizes_of-sizes.ensures c.plan_of.ensures a.room.now c.code_of.ensures c.begin.ensures c.in_ok-first.was)

pub returns-in_err-first : goal.returns-in_err-first
returns-in_err-first c =
    let a = c.args in
    let r : c.from_residual.result ≡ Err c.in_err-first.field-0.0 = search rules in
    rw r (refused_by a.e a.m (map item_of a.kept.now) (map entry_by a.noted.now) a.p c.rows_of-t.ensures c.sizes_of-sizes.ensures c.plan_of.ensures a.room.now c.code_of.ensures c.begin.ensures c.in_err-first.field-0.0 c.in_err-first.was)

pub returns : goal.returns
returns c =
    let a = c.args in
    done_by a.e a.m (map item_of a.kept.now) (map entry_by a.noted.now) a.p c.rows_of-t.ensures c.sizes_of-sizes.ensures c.plan_of.ensures a.room.now c.code_of.ensures c.begin.ensures c.in_ok-first.was c.put_rows.ensures
