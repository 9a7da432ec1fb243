use Rattle.std.proofs.Common.{refl, arith}
use Rattle.lent.proofs.Reading.{tail_part}
use Rattle.evening.proofs.Playing.{going_none, going_full, going_stop, going_on, going_more, size_none, size_some}
use Rattle.evening.proofs.play.Goals as goal

pub loop-i-init : goal.loop-i-init
loop-i-init c = going_none _ _ _ _ _

pub returns-in_default-clause-plays : goal.returns-in_default-clause-plays
returns-in_default-clause-plays c = going_stop c.loop-i.invariant refl (size_none _ (rw tail_part at c.size.ensures) c.in_default.is)

pub overflow_add-at : goal.overflow_add-at
overflow_add-at c = let h = size_some _ (rw tail_part at c.size.ensures) c.in-Some.is in omega (arith, going_on c.loop-i.invariant h.0 h.1)

pub loop-i-preserved : goal.loop-i-preserved
loop-i-preserved c =
    let h = size_some _ (rw tail_part at c.size.ensures) c.in-Some.is in
    going_more c.loop-i.invariant c.loop-i-test.true h.0 h.1 (rw tail_part at c.take_turn-x.ensures) c.take_turn-x.auto.unit c.take_turn-x.auto.room

pub returns-clause-plays : goal.returns-clause-plays
returns-clause-plays c = going_full c.loop-i.invariant refl (omega arith)
