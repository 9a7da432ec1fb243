-- `plan::plan_of` meets its contract: the loop's invariant: the plan of the rows so far, which is small. Assumes nothing.
use Rattle.std.specs.Prelude.{Some}
use mathlib.Core.Path.{◌∙◌, refl, sym, subst}
use Prim.Native.Nat.{◌+◌}
use lib.ListN.{length}
use native.Mathlib.Omega.{arith}
use Rattle.std.proofs.lemmas.List.{length_push}
use Rattle.std.proofs.lemmas.Slice.Zip.{zip_turn}
use Rattle.plan.specs.Plan.{Small, plan_to, Plan}
use Rattle.plan.proofs.Steps.{small_step}
use Rattle.plan.proofs.Plans.{plan_next, plan_stays}
use Rattle.plan.proofs.plan_of.Goals as goal

pub loop-row-init : goal.loop-row-init
unfolding plan_to
loop-row-init c = ((omega arith, omega arith), refl)

pub returns-in_err-plan : goal.returns-in_err-plan
returns-in_err-plan c =
    let t = zip_turn c.args.rows.rows.now c.args.sizes.now c.loop-row.yielded c.into_iter-row-iterator.result c.loop-row.row-iterator c.next.new.self _ (cc) (cc) c.loop-row.yielded_by _ c.in-Some.is c.next.ensures.steps in
    let n = plan_next (Some (0, 0)) c.args.rows.rows.now c.args.sizes.now (length c.loop-row.yielded) c.loop-row.invariant.1 (t.2 _) (t.3 _) in
    c.from_residual.ensures ∙ sym (plan_stays (Some (0, 0)) c.args.rows.rows.now c.args.sizes.now (length c.loop-row.yielded + 1) _ (sym n ∙ sym c.step.ensures ∙ c.in_err-plan.was) (omega arith))

pub loop-row-preserved : goal.loop-row-preserved
loop-row-preserved c =
    let t = zip_turn c.args.rows.rows.now c.args.sizes.now c.loop-row.yielded c.into_iter-row-iterator.result c.loop-row.row-iterator c.next.new.self _ (cc) (cc) c.loop-row.yielded_by _ c.in-Some.is c.next.ensures.steps in
    let n = plan_next (Some (0, 0)) c.args.rows.rows.now c.args.sizes.now (length c.loop-row.yielded) c.loop-row.invariant.1 (t.2 _) (t.3 _) in
    let e = sym (c.in_ok-plan.was) ∙ c.step.ensures in
    rw (length_push c.loop-row.yielded (c.in-Some.row, c.in-Some.size))
    (subst (λ (p : Plan). Small (length c.loop-row.yielded + 1) p) (sym e) (small_step _ _ _ _ c.loop-row.invariant.0), e ∙ n)
