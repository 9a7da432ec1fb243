-- `record_form::is_items_part` meets its contract: by the test. Assumes nothing.
use Rattle.record_form.proofs.is_items_part.Goals as goal

pub returns-else-said : goal.returns-else-said
returns-else-said c = rw c.if-said.false c.no_items.ensures
