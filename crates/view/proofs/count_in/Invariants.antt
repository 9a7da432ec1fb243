use lib.ListN.{drop}
use Rattle.lent.specs.Lent.{rows_of}
use Rattle.console.specs.Console.{tmgi_of, has_tmgi}
use Rattle.console.proofs.Counting.{Passed}
use Rattle.view.proofs.count_in.Given as goal

abbrev pub invariant-loop-i : goal.invariant-loop-i
invariant-loop-i l = Passed (has_tmgi (tmgi_of l.tmgi)) (rows_of l.n (drop 2 l.table)) l.count l.i
