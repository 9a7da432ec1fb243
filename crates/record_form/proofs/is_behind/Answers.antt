-- `record_form::is_behind` meets its contract: by the tests. Assumes nothing.
use Rattle.record_form.proofs.Zeros.{zeros_between}
use Rattle.record_form.proofs.is_behind.Goals as goal

pub returns-then-not-all_zero : goal.returns-then-not-all_zero
returns-then-not-all_zero c = rw (← zeros_between c.args.s.now c.args.n c.requires.0 c.requires.1, ← c.all_zero.ensures, c.if-not-all_zero.true)

pub returns-then-is_items_part : goal.returns-then-is_items_part
returns-then-is_items_part c = rw (← zeros_between c.args.s.now c.args.n c.requires.0 c.requires.1, ← c.all_zero.ensures, c.if-not-all_zero.false, ← c.is_items_part.ensures, c.if-is_items_part.true) c.is_entries_part.ensures

pub returns-else-is_items_part : goal.returns-else-is_items_part
returns-else-is_items_part c = rw (← zeros_between c.args.s.now c.args.n c.requires.0 c.requires.1, ← c.all_zero.ensures, c.if-not-all_zero.false, ← c.is_items_part.ensures, c.if-is_items_part.false)
