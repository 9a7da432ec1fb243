use Rattle.std.proofs.Common.{◌≡◌, ◌∙◌, refl, sym, length, arith}
use Rattle.std.proofs.lemmas.List.{length_push}
use Rattle.std.proofs.lemmas.Slice.Zip.{zip_turn, zip_end}
use Rattle.rows.specs.Table.{rows_in}
use Rattle.reset_items.proofs.Laws.{found_items, no_items, none_behind, none_front}
use Rattle.reset_items.proofs.items_in.Goals as goal

pub loop-r-init : goal.loop-r-init
loop-r-init c = (refl, refl)

pub returns-then-n-ne0 : goal.returns-then-n-ne0
returns-then-n-ne0 c =
    let a = c.args in
    let l = c.loop-r in
    let z = zip_turn (rows_in a.t) a.places.now l.yielded c.into_iter-r-iterator.result l.r-iterator c.next.new.self _ (cc) (cc) l.yielded_by _ c.in-Some.is c.next.ensures.steps in
    found_items (rows_in a.t) a.s.now a.places.now (length l.yielded) z.0 z.1 (z.2 _) (z.3 _) c.value_items-n.ensures l.invariant.1 l.invariant.0 c.if-n-ne0.true

pub loop-r-preserved : goal.loop-r-preserved
loop-r-preserved c =
    let a = c.args in
    let l = c.loop-r in
    let z = zip_turn (rows_in a.t) a.places.now l.yielded c.into_iter-r-iterator.result l.r-iterator c.next.new.self _ (cc) (cc) l.yielded_by _ c.in-Some.is c.next.ensures.steps in
    let n = no_items (rows_in a.t) a.s.now a.places.now (length l.yielded) z.0 z.1 (z.2 _) (z.3 _) c.value_items-n.ensures c.if-n-ne0.false in
    rw (length_push l.yielded (c.in-Some.r, c.in-Some.v)) (n.0 ∙ l.invariant.0, l.invariant.1 ∙ n.1)

pub returns : goal.returns
returns c =
    let a = c.args in
    let l = c.loop-r in
    let z = zip_end (rows_in a.t) a.places.now l.yielded c.into_iter-r-iterator.result l.r-iterator c.next.new.self _ (cc) (cc) l.yielded_by c.in-None.is c.next.ensures.steps in
    let e : length l.yielded ≡ length (rows_in a.t) = omega (arith, a.t.few, c.told-places) in
    rw l.invariant.0 (none_front _ a.words.now (none_behind (rows_in a.t) a.s.now a.places.now e ∙ sym l.invariant.1))
