use mathlib.Core.Bool.{not}
use Rattle.table.specs.Table.{has_pair}
use Rattle.table.specs.declared.Association.{Association}
use Rattle.table.proofs.Holding.{Stayed}
use Rattle.table.proofs.stop.Given as goal

abbrev pub invariant-loop-i : goal.invariant-loop-i
invariant-loop-i l = Stayed (λ (a : Association). not (has_pair l.m l.c a)) l.initial.out.rows l.n l.out.rows l.k l.i
