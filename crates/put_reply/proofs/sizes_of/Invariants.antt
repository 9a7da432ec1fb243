use mathlib.Core.List.{map}
use lib.ListN.{length}
use Rattle.lists.proofs.Copy.{Copied}
use Rattle.rows.specs.declared.Row.{Row}
use Rattle.rows.specs.Table.{rows_in}
use Rattle.item_words.specs.Words.{item_of}
use Rattle.entry_words.specs.EntryWords.{entry_by}
use Rattle.plan.specs.Plan.{size_given}
use Rattle.put_reply.specs.Parts.{part_of, given_by}
use Rattle.put_reply.proofs.sizes_of.Given as goal

abbrev pub invariant-loop-i : goal.invariant-loop-i
invariant-loop-i l = Copied (λ (r : Row). size_given (given_by (map item_of l.kept) (map entry_by l.noted) (part_of l.p r.kind))) 0 12 (rows_in l.t) (length (rows_in l.t)) l.sizes l.i
