-- `plan::begin` meets its contract: what fits is put. Assumes nothing.
use Rattle.std.specs.Prelude.{Some}
use mathlib.Core.Path.{◌≡◌}
use Rattle.std.proofs.Common.{rules}
use Rattle.plan.proofs.Steps.{begun_front}
use Rattle.plan.proofs.begin.Goals as goal

pub returns : goal.returns
returns c =
    let i = c.in_ok-count in
    let e : c.args.plan ≡ Some (i.count, i.sum) = search rules in
    rw e (begun_front c.args.room.now c.args.code i.count i.sum (rw c.message_size-whole.ensures at c.if-whole-gt8192.false) (rw c.message_size-whole.ensures at c.if-room-whole.false) c.put_opening.ensures)
