use Rattle.std.proofs.Common.{◌≡◌, ◌∙◌, sym, length, arith}
use Rattle.std.proofs.lemmas.List.{length_push}
use Rattle.std.proofs.lemmas.Slice.Zip.{zip_turn, zip_end}
use Rattle.rows.specs.Table.{rows_in}
use Rattle.shown.proofs.Values.{found_here, found_behind, found_none}
use Rattle.shown.proofs.name_among.Goals as goal

pub returns-in-Some-name_of : goal.returns-in-Some-name_of
returns-in-Some-name_of c =
    let a = c.args in
    let z = zip_turn (rows_in a.t) a.places.now c.loop-r.yielded c.into_iter-r-iterator.result c.loop-r.r-iterator c.next.new.self _ (cc) (cc) c.loop-r.yielded_by _ c.in-Some.is c.next.ensures.steps in
    sym (found_here (rows_in a.t) a.places.now a.s.now (length c.loop-r.yielded) z.0 z.1 (z.2 _) (z.3 _) c.in-Some-name_of.ensures) ∙ c.loop-r.invariant

pub loop-r-preserved : goal.loop-r-preserved
loop-r-preserved c =
    let a = c.args in
    let z = zip_turn (rows_in a.t) a.places.now c.loop-r.yielded c.into_iter-r-iterator.result c.loop-r.r-iterator c.next.new.self _ (cc) (cc) c.loop-r.yielded_by _ c.in-Some.is c.next.ensures.steps in
    rw (length_push c.loop-r.yielded (c.in-Some.r, c.in-Some.v))
    (sym (found_behind (rows_in a.t) a.places.now a.s.now (length c.loop-r.yielded) z.0 z.1 (z.2 _) (z.3 _) c.in_default.ensures) ∙ c.loop-r.invariant)

pub returns : goal.returns
returns c =
    let a = c.args in
    let z = zip_end (rows_in a.t) a.places.now c.loop-r.yielded c.into_iter-r-iterator.result c.loop-r.r-iterator c.next.new.self _ (cc) (cc) c.loop-r.yielded_by c.in-None.is c.next.ensures.steps in
    let e : length c.loop-r.yielded ≡ length (rows_in a.t) = omega (arith, a.t.few, c.told-places) in
    sym (found_none (rows_in a.t) _ a.s.now e) ∙ c.loop-r.invariant
