-- fewer octets than a record's are no items, nor is a count over 256; else the rows decide
use mathlib.Core.Path.{◌∙◌, sym}
use native.Mathlib.Omega.{arith}
use Rattle.std.proofs.lemmas.Bool.{lt-leb}
use Rattle.lists.proofs.Parts.{take_drop}
use Rattle.layout.specs.Record.{lists_in}
use Rattle.item_rows.proofs.Said.{said_small}
use Rattle.item_rows.proofs.Judged.{items_short, items_many, items_same}
use Rattle.item_rows.proofs.are_items.Goals as goal

pub returns-then-s-lt1636 : goal.returns-then-s-lt1636
returns-then-s-lt1636 c = sym (items_short c.args.s.now (lists_in c.args.s.now).items c.if-s-lt1636.true (said_small c.args.s.now))

pub returns-then-n-le256 : goal.returns-then-n-le256
returns-then-n-le256 c =
    (rw (take_drop 1536 100 c.args.s.now) at c.are_rows.ensures)
    ∙ sym (items_same c.args.s.now c.if-s-lt1636.false (λ i. omega (arith, c.type_inv.s i)) (c.from-n.ensures ∙ c.from_be_bytes.ensures) c.if-n-le256.true)

pub returns-else-n-le256 : goal.returns-else-n-le256
returns-else-n-le256 c =
    let e = c.from-n.ensures in
    let f = c.from_be_bytes.ensures in
    let k = c.if-n-le256.false in
    lt-leb _ _ k ∙ sym (items_many c.args.s.now c.if-s-lt1636.false (omega arith))
