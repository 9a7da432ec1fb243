use mathlib.Core.Bool.{not}
use mathlib.Core.List.{List}
use mathlib.Core.Path.{◌≡◌}
use Rattle.entries.specs.declared.Entry.{Entry}
use Rattle.entry_rows.proofs.Saying.{Passed}
use Rattle.layout.specs.Rows.{row_entry}
use Rattle.lists.specs.Lists.{some}
use Rattle.meaning.specs.Written.{entry_good}
use Rattle.entry_rows.proofs.are_said_good.Given as goal

abbrev pub invariant-loop-i : goal.invariant-loop-i
invariant-loop-i l = (es : List Entry) × Passed row_entry 4 l.n l.s 1638 es l.i × (l.good ≡ not (some (λ (x : Entry). not (entry_good x)) es))
