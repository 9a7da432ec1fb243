use Rattle.editions.specs.Editions.{messages_of}
use Rattle.editions.proofs.Search.{counted, Left}
use Rattle.editions.proofs.numbered.Given as goal

abbrev pub invariant-loop-m : goal.invariant-loop-m
invariant-loop-m l = Left (counted l.e l.n) (messages_of l.e) l.m-index
