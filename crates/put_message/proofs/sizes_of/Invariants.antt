use lib.ListN.{length}
use Rattle.lists.proofs.Copy.{Copied}
use Rattle.rows.specs.Table.{rows_in}
use Rattle.plan.specs.Plan.{size_given}
use Rattle.put_message.specs.Said.{said_in}
use Rattle.put_message.proofs.sizes_of.Given as goal

abbrev pub invariant-loop-i : goal.invariant-loop-i
invariant-loop-i l = Copied size_given 0 12 (said_in l.values l.s (rows_in l.rows)) (length (rows_in l.rows)) l.sizes l.i
