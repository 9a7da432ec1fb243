use Rattle.editions.specs.Editions.{messages_of}
use Rattle.editions.proofs.Search.{framed, Left}
use Rattle.editions.proofs.message_of.Given as goal

abbrev pub invariant-loop-m : goal.invariant-loop-m
invariant-loop-m l = Left (framed l.e l.kind l.code) (messages_of l.e) l.m-index
