-- the invariant is the list read so far, whose rows stand; where reading stops, zeros are put over them
use mathlib.Core.Path.{refl}
use native.Mathlib.Omega.{arith}
use Rattle.octets.proofs.Chain.{past, halt}
use Rattle.octets.proofs.Got.{number_got}
use Rattle.octets.proofs.Writing.{wrote_then}
use Rattle.items.specs.Items.{items_at}
use Rattle.items.proofs.Good.{items_good}
use Rattle.item_words.proofs.Reading.{reading_stop, reading_all, reading_word, worded_stop}
use Rattle.item_rows.proofs.Out.{wrote_over, rows_small, rows_more, out_none, out_all, octet_small}
use Rattle.item_rows.proofs.items_out.Goals as goal

pub returns-in-Err : goal.returns-in-Err
unfolding items_at
returns-in-Err c = out_none (halt _ c.in-Err.ensures) c.put_zeros.ensures

pub overflow_add-next : goal.overflow_add-next
overflow_add-next c = let h = number_got _ _ _ c.in-Ok.ensures in omega arith

pub returns-in-Err-word_element_at : goal.returns-in-Err-word_element_at
unfolding items_at
returns-in-Err-word_element_at c =
    let b = octet_small c.args.s.now c.args.from (λ i. omega (arith, c.type_inv.s i)) c.in-Ok.ensures in
    out_none (past _ _ c.in-Ok.ensures (halt _ (reading_stop c.loop-i.invariant.1 _ c.loop-i-test.true (worded_stop _ c.in-Err-word_element_at.ensures))))
    (wrote_over (wrote_then c.put_two-to.ensures c.loop-i.invariant.2) (rows_small c.loop-i.invariant.0 c.loop-i.invariant.1.count c.loop-i.invariant.1.within (omega arith)) c.put_zeros-in-Err-word_element_at.ensures)

pub loop-i-preserved : goal.loop-i-preserved
loop-i-preserved c =
    let v = reading_word c.loop-i.invariant.1 c.loop-i-test.true c.in-Ok-word_element_at.ensures in
    (_, v.2, rw (rows_more c.loop-i.invariant.0 v.0 v.1) (wrote_then c.loop-i.invariant.2 c.row_out-to.ensures))

pub returns-in-Ok-ends_at : goal.returns-in-Ok-ends_at
unfolding items_at
returns-in-Ok-ends_at c =
    let l = past _ _ c.in-Ok.ensures (past _ _ (reading_all c.loop-i.invariant.1 c.loop-i-test.false) (past _ _ c.in-Ok-ends_at.ensures refl)) in
    let k = c.loop-i.invariant.1.count in
    let w = c.loop-i.invariant.1.within in
    let f = c.loop-i-test.false in
    out_all c.loop-i.invariant.0 l (omega arith) (items_good c.args.s.now c.args.from (λ i. omega (arith, c.type_inv.s i)) l).2 (wrote_then c.put_two-to.ensures (wrote_then c.loop-i.invariant.2 c.put_zeros-in-Ok-ends_at.ensures))

pub returns-in-Err-ends_at : goal.returns-in-Err-ends_at
unfolding items_at
returns-in-Err-ends_at c =
    let b = octet_small c.args.s.now c.args.from (λ i. omega (arith, c.type_inv.s i)) c.in-Ok.ensures in
    out_none (past _ _ c.in-Ok.ensures (past _ _ (reading_all c.loop-i.invariant.1 c.loop-i-test.false) (halt _ c.in-Err-ends_at.ensures)))
    (wrote_over (wrote_then c.put_two-to.ensures c.loop-i.invariant.2) (rows_small c.loop-i.invariant.0 c.loop-i.invariant.1.count c.loop-i.invariant.1.within (omega arith)) c.put_zeros-in-Err-ends_at.ensures)
