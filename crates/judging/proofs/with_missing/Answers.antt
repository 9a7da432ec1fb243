use Rattle.std.proofs.Common.{◌≡◌, ◌∙◌, refl, sym, length, arith}
use Rattle.std.proofs.Math.Seq.{take-length}
use Rattle.std.proofs.lemmas.List.{length_push}
use Rattle.std.proofs.lemmas.Slice.Zip.{zip_turn, zip_end}
use Rattle.rows.specs.Table.{rows_in}
use Rattle.elements.specs.Judge.{missing_of}
use Rattle.judging.proofs.TallyLaws.{none_more, lacking_more}
use Rattle.judging.proofs.with_missing.Goals as goal

pub loop-r-init : goal.loop-r-init
unfolding missing_of
loop-r-init c = none_more refl

pub loop-r-preserved-then-is_missing : goal.loop-r-preserved-then-is_missing
loop-r-preserved-then-is_missing c =
    let a = c.args in
    let z = zip_turn (rows_in a.t) a.places.now c.loop-r.yielded c.into_iter-r-iterator.result c.loop-r.r-iterator c.next.new.self _ (cc) (cc) c.loop-r.yielded_by _ c.in-Some.is c.next.ensures.steps in
    rw (length_push c.loop-r.yielded (c.in-Some.r, c.in-Some.v))
    (lacking_more (rows_in a.t) a.places.now (length c.loop-r.yielded) z.0 z.1 (z.2 _) (z.3 _) c.loop-r.invariant (sym c.is_missing.ensures ∙ c.if-is_missing.true) c.tally_with-tally.ensures)

pub loop-r-preserved : goal.loop-r-preserved
loop-r-preserved c =
    let a = c.args in
    let z = zip_turn (rows_in a.t) a.places.now c.loop-r.yielded c.into_iter-r-iterator.result c.loop-r.r-iterator c.next.new.self _ (cc) (cc) c.loop-r.yielded_by _ c.in-Some.is c.next.ensures.steps in
    rw (length_push c.loop-r.yielded (c.in-Some.r, c.in-Some.v))
    (lacking_more (rows_in a.t) a.places.now (length c.loop-r.yielded) z.0 z.1 (z.2 _) (z.3 _) c.loop-r.invariant (sym c.is_missing.ensures ∙ c.if-is_missing.false) refl)

pub returns : goal.returns
returns c =
    let a = c.args in
    let z = zip_end (rows_in a.t) a.places.now c.loop-r.yielded c.into_iter-r-iterator.result c.loop-r.r-iterator c.next.new.self _ (cc) (cc) c.loop-r.yielded_by c.in-None.is c.next.ensures.steps in
    let e : length c.loop-r.yielded ≡ length (rows_in a.t) = omega (arith, a.t.few, c.told-places) in
    rw (e, take-length (rows_in a.t)) at c.loop-r.invariant
