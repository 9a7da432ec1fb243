-- zeros are the octets of none; fewer octets than a record's are no items
use mathlib.Core.Path.{◌∙◌, sym}
use mathlib.Core.List.{[]}
use native.Mathlib.Omega.{arith}
use Rattle.std.proofs.lemmas.Bool.{lt-leb}
use Rattle.lists.proofs.Parts.{take_drop}
use Rattle.item_rows.proofs.Judged.{items_short, none_same}
use Rattle.item_rows.proofs.no_items.Goals as goal

pub returns-then-s-ge1636 : goal.returns-then-s-ge1636
returns-then-s-ge1636 c = (rw (take_drop 1538 98 c.args.s.now) at c.all_zero.ensures) ∙ sym (none_same c.args.s.now c.if-s-ge1636.true)

pub returns-else-s-ge1636 : goal.returns-else-s-ge1636
returns-else-s-ge1636 c = lt-leb _ _ c.if-s-ge1636.false ∙ sym (items_short c.args.s.now [] c.if-s-ge1636.false (omega arith))
