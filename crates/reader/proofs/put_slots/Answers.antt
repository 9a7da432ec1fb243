-- The slots of the rows passed are put, each of 8 octets; behind the last come zeros.
use Rattle.std.proofs.Common.{◌≡◌, ◌≤◌, length, arith}
use Rattle.std.proofs.lemmas.List.{length_push}
use Rattle.std.proofs.lemmas.Slice.Zip.{zip_turn, zip_end}
use Rattle.octets.proofs.Writing.{wrote_length, wrote_none}
use Rattle.octets.specs.Span.{no_span}
use Rattle.rows.specs.Table.{no_row, rows_in}
use Rattle.reader.proofs.Walk.{slot_more, slots_all}
use Rattle.reader.proofs.put_slots.Goals as goal

pub loop-r-init : goal.loop-r-init
loop-r-init c = (omega arith, wrote_none _ _ (omega arith))

pub slot-requires : goal.slot-requires
slot-requires c =
    let a = c.args in
    let l = c.loop-r in
    let z = zip_turn (rows_in a.t) a.places.now l.yielded c.into_iter-r-iterator.result l.r-iterator c.next.new.self _ (cc) (cc) l.yielded_by _ c.in-Some.is c.next.ensures.steps in
    rw (z.2 no_row, z.3 no_span) (c.requires.values (length l.yielded) z.0)

pub put_slot-next-requires : goal.put_slot-next-requires
put_slot-next-requires c =
    let a = c.args in
    let l = c.loop-r in
    let z = zip_turn (rows_in a.t) a.places.now l.yielded c.into_iter-r-iterator.result l.r-iterator c.next.new.self _ (cc) (cc) l.yielded_by _ c.in-Some.is c.next.ensures.steps in
    omega (arith, wrote_length l.invariant.1, a.t.few)

pub loop-r-preserved : goal.loop-r-preserved
loop-r-preserved c =
    let a = c.args in
    let l = c.loop-r in
    let z = zip_turn (rows_in a.t) a.places.now l.yielded c.into_iter-r-iterator.result l.r-iterator c.next.new.self _ (cc) (cc) l.yielded_by _ c.in-Some.is c.next.ensures.steps in
    let few : length (rows_in a.t) ≤ length a.places.now = omega (arith, a.t.few, c.told-places) in
    let x = slot_more (rows_in a.t) a.s.now a.places.now few (length l.yielded) z.0 (z.2 _) (z.3 _) (omega (arith, wrote_length l.invariant.1, a.t.few)) l.invariant.1 (rw c.slot.ensures at c.put_slot-next.ensures) in
    rw (length_push l.yielded (c.in-Some.r, c.in-Some.v)) (omega (arith, x.0), x.1)

pub returns : goal.returns
returns c =
    let a = c.args in
    let l = c.loop-r in
    let z = zip_end (rows_in a.t) a.places.now l.yielded c.into_iter-r-iterator.result l.r-iterator c.next.new.self _ (cc) (cc) l.yielded_by c.in-None.is c.next.ensures.steps in
    let e : length l.yielded ≡ length (rows_in a.t) = omega (arith, a.t.few, c.told-places) in
    slots_all (rows_in a.t) a.s.now a.places.now (length l.yielded) e (omega (arith, a.t.few, c.told-places)) l.invariant.1 c.put_zeros.ensures
