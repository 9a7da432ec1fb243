-- `put_message::sizes_of` meets its contract: the loop's invariant: the sizes of the first i rows, in front of zeros. Assumes nothing.
use Prim.Native.Nat.{◌≤◌}
use mathlib.Core.Path.{◌∙◌, ap}
use native.Mathlib.Omega.{arith}
use lib.ListN.{length}
use lib.Seq.{take_all}
use Rattle.lists.proofs.Copy.{copied_none, copied_more, copied_all}
use Rattle.meaning.specs.Value.{absent}
use Rattle.plan.specs.Plan.{size_given}
use Rattle.put_message.specs.Said.{said_in}
use Rattle.put_message.proofs.Values.{said_count, said_here}
use Rattle.put_message.proofs.sizes_of.Goals as goal

pub loop-i-init : goal.loop-i-init
loop-i-init c = copied_none

pub loop-i-preserved : goal.loop-i-preserved
loop-i-preserved c =
    let a = c.args in
    let i = c.loop-i.i in
    let e = rw c.slot_at.ensures at c.slot_size.ensures ∙ ap size_given (said_here a.values.now a.s.now a.rows.rows.now i c.loop-i-test.true a.rows.few c.requires) in
    let k = said_count a.values.now a.s.now a.rows.rows.now in
    rw e (copied_more c.loop-i.invariant absent c.loop-i-test.true a.rows.few (omega arith))

pub returns : goal.returns
returns c =
    let a = c.args in
    let vs = said_in a.values.now a.s.now a.rows.rows.now in
    let k : length vs ≤ length a.rows.rows.now = omega (arith, said_count a.values.now a.s.now a.rows.rows.now) in
    copied_all c.loop-i.invariant c.loop-i-test.false ∙ rw (take_all _ vs k)
