use mathlib.Core.Bool.{not}
use Rattle.lists.proofs.Filter.{Kept}
use Rattle.table.specs.Table.{unheld, named}
use Rattle.table.specs.declared.Association.{Association}
use Rattle.reset.proofs.Slots.{word_items}
use Rattle.reset.proofs.reset.Given as goal

abbrev pub invariant-loop-i : goal.invariant-loop-i
invariant-loop-i l = Kept unheld 256 (λ (a : Association). not (named (word_items l.words) a)) l.t.rows l.i-end l.out.rows l.k l.i
