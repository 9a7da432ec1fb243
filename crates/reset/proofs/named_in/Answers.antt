-- A walk along the slot's chain: no item passed names the association.
use mathlib.Core.Path.{sym}
use Rattle.reset.proofs.Slots.{walked_first, walked_found, walked_more, walked_less, walked_all}
use Rattle.reset.proofs.named_in.Goals as goal

pub loop-k-init : goal.loop-k-init
loop-k-init c = walked_first c.requires.slotted c.requires.h_bound

pub returns-then-names : goal.returns-then-names
returns-then-names c = sym (walked_found c.requires.slotted c.requires.h_bound c.loop-k.invariant c.loop-k-test.true c.names.ensures c.item_of.ensures c.if-names.true)

pub loop-k-smaller : goal.loop-k-smaller
loop-k-smaller c = walked_less c.requires.slotted c.requires.h_bound c.loop-k.invariant c.loop-k-test.true

pub loop-k-preserved : goal.loop-k-preserved
loop-k-preserved c = walked_more c.requires.slotted c.requires.h_bound c.loop-k.invariant c.loop-k-test.true c.names.ensures c.item_of.ensures c.if-names.false

pub returns : goal.returns
returns c = sym (walked_all c.requires.slotted c.requires.h_bound c.loop-k.invariant c.loop-k-test.false)
