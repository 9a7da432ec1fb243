-- What is read at the place of a row is that row.
use Rattle.table.specs.Table.{empty_association}
use Rattle.lent.proofs.ByRows.{next_row}
use borrow.Author.Rules.{rules}
use Rattle.view.proofs.row_in.Goals as goal

pub returns : goal.returns
returns c = let a = c.args in next_row a.table.now a.n a.k (search rules) (search rules) empty_association c.row_of.ensures
