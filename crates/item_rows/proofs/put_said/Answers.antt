-- the invariant is the octets of the rows passed
use mathlib.Core.Path.{◌≡◌, ◌∙◌, ap}
use Prim.Native.Nat.{ℕ, min, ◌-◌}
use native.Mathlib.Omega.{arith}
use lib.ListN.{take}
use lib.Seq.{take_all}
use Rattle.octets.proofs.Writing.{wrote_then}
use Rattle.octets.proofs.EachWritten.{wrote_more}
use Rattle.identity.specs.Items.{empty_item}
use Rattle.items.specs.Written.{item_element_octets}
use Rattle.put_values.specs.Put.{crit_of}
use Rattle.layout.specs.Record.{lists_in}
use Rattle.item_rows.proofs.Said.{said_small, row_word, said_octets}
use Rattle.item_rows.proofs.put_said.Goals as goal

pub loop-i-preserved : goal.loop-i-preserved
loop-i-preserved c =
    let e = c.said_items-n.ensures in
    let t = c.loop-i-test.true in
    let w = row_word c.args.s.now c.loop-i.i (λ i. omega (arith, c.type_inv.s i)) (omega arith) c.word_in.ensures in
    wrote_more (item_element_octets (crit_of c.args.crit)) (lists_in c.args.s.now).items c.loop-i.i empty_item (omega arith) c.loop-i.invariant (rw (← w) c.put_word_element-next.ensures)

pub returns : goal.returns
returns c =
    let a = c.args in
    let e = c.said_items-n.ensures in
    let o = c.less_one.ensures in
    let f = c.loop-i-test.false in
    let t : take c.loop-i.i (lists_in a.s.now).items ≡ (lists_in a.s.now).items = take_all c.loop-i.i (lists_in a.s.now).items (omega arith) in
    rw (said_octets (crit_of a.crit) (lists_in a.s.now).items (said_small a.s.now) (o ∙ ap (λ (k : ℕ). min (k - 1) 255) e)) (wrote_then c.put_octet-next.ensures (rw t at c.loop-i.invariant))
