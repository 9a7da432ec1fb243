-- the invariant is the octets of the rows passed, at most nine of each
use mathlib.Core.Path.{◌∙◌, sym, ap}
use native.Mathlib.Omega.{arith}
use lib.ListN.{length}
use Rattle.identity.specs.declared.Item.{Item}
use Rattle.items.specs.Written.{item_element_octets}
use Rattle.layout.specs.Record.{lists_in}
use Rattle.item_rows.proofs.Said.{said_small, row_item_lem, sized_row, sized_said}
use Rattle.item_rows.proofs.said_size.Goals as goal

pub loop-i-preserved : goal.loop-i-preserved
loop-i-preserved c =
    let e = c.said_items-n.ensures in
    let k = c.row_size-size.ensures.1 in
    let t = c.loop-i-test.true in (
      omega arith,
      sized_row (lists_in c.args.s.now).items c.loop-i.i (omega arith) c.loop-i.invariant.1 (λ crit. c.row_size-size.ensures.0 crit ∙ ap (λ (i : Item). length (item_element_octets crit i)) (sym (row_item_lem c.args.s.now c.loop-i.i (omega arith)))),
    )

pub returns : goal.returns
returns c = let e = c.said_items-n.ensures in let t = c.loop-i-test.false in sized_said (lists_in c.args.s.now).items c.loop-i.i (said_small c.args.s.now) (omega arith) c.loop-i.invariant.1
