-- `put_reply::sizes_of` meets its contract: the loop's invariant: the sizes of the first i rows are in the array. Assumes nothing.
use mathlib.Core.Path.{◌∙◌, ap, sym}
use mathlib.Core.List.{map, map-map}
use native.Mathlib.Omega.{arith}
use lib.ListN.{length}
use lib.Seq.{take_all}
use Rattle.lists.specs.Lists.{fill}
use Rattle.lists.proofs.Copy.{copied_none, copied_more, copied_all}
use Rattle.rows.specs.Table.{no_row}
use Rattle.plan.specs.Plan.{size_given}
use Rattle.put_reply.proofs.sizes_of.Goals as goal

pub loop-i-init : goal.loop-i-init
loop-i-init c = copied_none

pub loop-i-preserved : goal.loop-i-preserved
loop-i-preserved c = rw (c.size_of.ensures, c.part_of.ensures) (copied_more c.loop-i.invariant no_row c.loop-i-test.true c.args.t.few (omega arith))

pub returns : goal.returns
returns c =
    let t = c.args.t.rows.now in
    copied_all c.loop-i.invariant c.loop-i-test.false ∙ ap (fill 0 12) (ap (map _) (take_all (length t) t (omega arith)) ∙ sym (map-map size_given _ t))
