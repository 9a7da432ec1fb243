use Rattle.std.proofs.Common.{◌≡◌, length, Some}
use Rattle.plan.specs.Plan.{Small, plan_to}
use Rattle.plan.proofs.plan_of.Given as goal

abbrev pub invariant-loop-row : goal.invariant-loop-row
invariant-loop-row l =
    Small (length l.yielded) (Some l.plan)
    × (Some l.plan ≡ plan_to (Some (0, 0)) l.rows.rows.now l.sizes (length l.yielded))
