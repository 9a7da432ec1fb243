-- The rows passed announce no items; those of the first that does are put, or zeros where none does.
use Rattle.std.proofs.Common.{◌≡◌, ◌≤◌, sym, length, take, arith}
use Rattle.std.proofs.lemmas.List.{length_push}
use Rattle.std.proofs.lemmas.Slice.Zip.{zip_turn, zip_end}
use Rattle.items.specs.Items.{items_at}
use Rattle.layout.specs.Record.{Lists, lists_of}
use Rattle.octets.specs.Span.{no_span}
use lib.Seq.{length-take-le}
use Rattle.rows.specs.Table.{no_row, rows_in}
use Rattle.reader.proofs.Walk.{rest_more, rest_found, rest_none, ends_inside, no_item_rows}
use Rattle.reader.proofs.put_items.Goals as goal

pub items_from-requires : goal.items_from-requires
items_from-requires c =
    let a = c.args in
    let l = c.loop-r in
    let z = zip_turn (rows_in a.t) a.places.now l.yielded c.into_iter-r-iterator.result l.r-iterator c.next.new.self _ (cc) (cc) l.yielded_by _ c.in-Some.is c.next.ensures.steps in
    rw (z.2 no_row, z.3 no_span) (c.requires (length l.yielded) z.0)

pub slice_bounds-items_out-end : goal.slice_bounds-items_out-end
slice_bounds-items_out-end c =
    let a = c.args in
    let l = c.loop-r in
    let z = zip_turn (rows_in a.t) a.places.now l.yielded c.into_iter-r-iterator.result l.r-iterator c.next.new.self _ (cc) (cc) l.yielded_by _ c.in-Some.is c.next.ensures.steps in
    sym (length-take-le _ _ (ends_inside c.in-Some.r.now.kind a.s.now c.in-Some.v.now (rw (z.2 no_row, z.3 no_span) (c.requires (length l.yielded) z.0))))

pub returns-in-Some-items_from : goal.returns-in-Some-items_from
returns-in-Some-items_from c =
    let a = c.args in
    let l = c.loop-r in
    let z = zip_turn (rows_in a.t) a.places.now l.yielded c.into_iter-r-iterator.result l.r-iterator c.next.new.self _ (cc) (cc) l.yielded_by _ c.in-Some.is c.next.ensures.steps in
    let few : length (rows_in a.t) ≤ length a.places.now = omega (arith, a.t.few, c.told-places) in
    let f = rest_found (rows_in a.t) a.s.now a.places.now few (length l.yielded) z.0 (z.2 _) (z.3 _) (λ (x : Lists). x.items) items_at (take c.in-Some.v.now.to a.s.now) c.in-Some-items_from.ensures l.invariant.1 in
    rw (l.invariant.0, f) at c.items_out.ensures

pub loop-r-preserved : goal.loop-r-preserved
loop-r-preserved c =
    let a = c.args in
    let l = c.loop-r in
    let z = zip_turn (rows_in a.t) a.places.now l.yielded c.into_iter-r-iterator.result l.r-iterator c.next.new.self _ (cc) (cc) l.yielded_by _ c.in-Some.is c.next.ensures.steps in
    let few : length (rows_in a.t) ≤ length a.places.now = omega (arith, a.t.few, c.told-places) in
    rw (length_push l.yielded (c.in-Some.r, c.in-Some.v))
    (l.invariant.0, rest_more (rows_in a.t) a.s.now a.places.now few (length l.yielded) z.0 (z.2 _) (z.3 _) (λ (x : Lists). x.items) items_at (take c.in-Some.v.now.to a.s.now) c.in_default.ensures l.invariant.1)

pub returns : goal.returns
unfolding lists_of
returns c =
    let a = c.args in
    let l = c.loop-r in
    let z = zip_end (rows_in a.t) a.places.now l.yielded c.into_iter-r-iterator.result l.r-iterator c.next.new.self _ (cc) (cc) l.yielded_by c.in-None.is c.next.ensures.steps in
    let e : length l.yielded ≡ length (rows_in a.t) = omega (arith, a.t.few, c.told-places) in
    rw (rest_none (rows_in a.t) a.s.now a.places.now (λ (x : Lists). x.items) (length l.yielded) (omega arith) l.invariant.1, no_item_rows) (rw l.invariant.0 at c.put_zeros.ensures)
