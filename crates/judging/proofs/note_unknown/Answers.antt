use Rattle.std.proofs.Common.{◌≡◌, ◌∙◌, ◌+◌, ◌-◌, sym, arith}
use native.Mathlib.Nat.{sub-zero}
use Rattle.judging.proofs.NotedLaws.{unknowns_none, unknowns_known, unknowns_more, unknowns_all, unknowns_cut}
use Rattle.judging.proofs.note_unknown.Goals as goal
use Rattle.judging.proofs.note_unknown.Goals.{then-not-is_known, else-not-is_known}

pub loop-init : goal.loop-init
loop-init c = rw sub-zero (unknowns_none _ _ _ _ _ _)

pub returns-in_default : goal.returns-in_default
returns-in_default c = unknowns_cut c.loop.invariant c.in_default.ensures

pub loop-preserved : goal.loop-preserved
loop-preserved c =
    let a = c.args in
    let k : a.n - (c.loop.counter + 1) ≡ a.n - c.loop.counter - 1 = omega arith in
    let h = c.in-Ok.h in
    rw k (elim c.if-not-is_known.branch [
      | then-not-is_known w ↦ rw (w.words-is, w.count-is) (unknowns_more c.loop.invariant (λ e. omega arith) h c.in-Ok.ensures (sym c.is_known.ensures ∙ w.if-not-is_known.true) w.note-count.ensures)
      | else-not-is_known w ↦ rw (w.words-is, w.count-is) (unknowns_known c.loop.invariant (λ e. omega arith) h c.in-Ok.ensures (sym c.is_known.ensures ∙ w.if-not-is_known.false))
    ])

pub returns : goal.returns
returns c = unknowns_all c.loop.invariant (omega arith)
