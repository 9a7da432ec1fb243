-- the invariant is the list read so far
use mathlib.Core.Path.{◌∙◌, refl, ap}
use native.Mathlib.Omega.{arith}
use Rattle.std.proofs.lemmas.Result.{err_from_is_err_and}
use Rattle.octets.specs.Read.{checked}
use Rattle.octets.proofs.Chain.{past, halt}
use Rattle.octets.proofs.Got.{number_got}
use Rattle.items.specs.Items.{items_at}
use Rattle.item_words.proofs.Full.{if_full, full_passes}
use Rattle.item_words.proofs.Reading.{reading_more, reading_stop, reading_all, reading_word, then_tt}
use Rattle.item_words.proofs.items_gate.Goals as goal
use Rattle.item_words.proofs.items_gate.Goals.{then-is_full, else-is_full+in_ok-next}

pub overflow_add-next : goal.overflow_add-next
overflow_add-next c = let h = number_got _ _ _ c.in_ok-count.ensures in omega arith

pub returns-in_err-next : goal.returns-in_err-next
unfolding items_at
returns-in_err-next c =
    let p = err_from_is_err_and c.from_residual-in_err-next.result c.from_residual-in_err-next.ensures.1 in
    rw (p.1, p.2) (halt _ (past _ _ c.in_ok-count.ensures (halt _ (reading_stop c.loop-i.invariant.1 _ c.loop-i-test.true c.in_err-next.ensures))))

pub loop-i-preserved : goal.loop-i-preserved
loop-i-preserved c =
    elim c.if-is_full.branch [
      | then-is_full w ↦ rw w.next-is (_, (reading_word c.loop-i.invariant.1 c.loop-i-test.true (full_passes c.args.s.now c.loop-i.next (if_full c.is_full.result w.if-is_full.true c.is_full.ensures)).1).2)
      | else-is_full+in_ok-next w ↦ rw w.next-is (_, reading_more c.loop-i.invariant.1 _ c.loop-i-test.true w.in_ok-next.ensures)
    ]

pub returns : goal.returns
unfolding items_at
returns c = c.ends_at.ensures ∙ (then_tt _ _ ∙ ap checked (past _ _ c.in_ok-count.ensures (past _ _ (reading_all c.loop-i.invariant.1 c.loop-i-test.false) refl)))
