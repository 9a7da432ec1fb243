-- The rows passed announce no entries; those of the first that does are put, or zeros where none does.
use Rattle.std.proofs.Common.{◌≡◌, ◌≤◌, sym, length, take, arith}
use Rattle.std.proofs.lemmas.List.{length_push}
use Rattle.std.proofs.lemmas.Slice.Zip.{zip_turn, zip_end}
use Rattle.entries.specs.Entries.{list_at}
use Rattle.layout.specs.Record.{Lists, lists_of}
use Rattle.octets.specs.Span.{no_span}
use lib.Seq.{length-take-le}
use Rattle.rows.specs.Table.{no_row, rows_in}
use Rattle.reader.proofs.Walk.{rest_more, rest_found, rest_none, ends_inside, no_entry_rows}
use Rattle.reader.proofs.put_entries.Goals as goal

pub entries_from-requires : goal.entries_from-requires
entries_from-requires c =
    let a = c.args in
    let l = c.loop-r in
    let z = zip_turn (rows_in a.t) a.places.now l.yielded c.into_iter-r-iterator.result l.r-iterator c.next.new.self _ (cc) (cc) l.yielded_by _ c.in-Some.is c.next.ensures.steps in
    rw (z.2 no_row, z.3 no_span) (c.requires (length l.yielded) z.0)

pub slice_bounds-entries_out-end : goal.slice_bounds-entries_out-end
slice_bounds-entries_out-end c =
    let a = c.args in
    let l = c.loop-r in
    let z = zip_turn (rows_in a.t) a.places.now l.yielded c.into_iter-r-iterator.result l.r-iterator c.next.new.self _ (cc) (cc) l.yielded_by _ c.in-Some.is c.next.ensures.steps in
    sym (length-take-le _ _ (ends_inside c.in-Some.r.now.kind a.s.now c.in-Some.v.now (rw (z.2 no_row, z.3 no_span) (c.requires (length l.yielded) z.0))))

pub returns-in-Some-entries_from : goal.returns-in-Some-entries_from
returns-in-Some-entries_from c =
    let a = c.args in
    let l = c.loop-r in
    let z = zip_turn (rows_in a.t) a.places.now l.yielded c.into_iter-r-iterator.result l.r-iterator c.next.new.self _ (cc) (cc) l.yielded_by _ c.in-Some.is c.next.ensures.steps in
    let few : length (rows_in a.t) ≤ length a.places.now = omega (arith, a.t.few, c.told-places) in
    let f = rest_found (rows_in a.t) a.s.now a.places.now few (length l.yielded) z.0 (z.2 _) (z.3 _) (λ (x : Lists). x.entries) list_at (take c.in-Some.v.now.to a.s.now) c.in-Some-entries_from.ensures l.invariant.1 in
    rw (l.invariant.0, f) at c.entries_out.ensures

pub loop-r-preserved : goal.loop-r-preserved
loop-r-preserved c =
    let a = c.args in
    let l = c.loop-r in
    let z = zip_turn (rows_in a.t) a.places.now l.yielded c.into_iter-r-iterator.result l.r-iterator c.next.new.self _ (cc) (cc) l.yielded_by _ c.in-Some.is c.next.ensures.steps in
    let few : length (rows_in a.t) ≤ length a.places.now = omega (arith, a.t.few, c.told-places) in
    rw (length_push l.yielded (c.in-Some.r, c.in-Some.v))
    (l.invariant.0, rest_more (rows_in a.t) a.s.now a.places.now few (length l.yielded) z.0 (z.2 _) (z.3 _) (λ (x : Lists). x.entries) list_at (take c.in-Some.v.now.to a.s.now) c.in_default.ensures l.invariant.1)

pub returns : goal.returns
unfolding lists_of
returns c =
    let a = c.args in
    let l = c.loop-r in
    let z = zip_end (rows_in a.t) a.places.now l.yielded c.into_iter-r-iterator.result l.r-iterator c.next.new.self _ (cc) (cc) l.yielded_by c.in-None.is c.next.ensures.steps in
    let e : length l.yielded ≡ length (rows_in a.t) = omega (arith, a.t.few, c.told-places) in
    rw (rest_none (rows_in a.t) a.s.now a.places.now (λ (x : Lists). x.entries) (length l.yielded) (omega arith) l.invariant.1, no_entry_rows) (rw l.invariant.0 at c.put_zeros.ensures)
