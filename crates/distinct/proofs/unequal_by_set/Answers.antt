-- The identities passed are all different and make up the set, so the next is among them exactly if it is in the set.
use Rattle.std.proofs.Common.{sym, arith}
use native.Mathlib.Nat.{mod-eq_of_lt}
use Rattle.distinct.proofs.Sets.{met_none}
use Rattle.distinct.proofs.Series.{again, more, all_met}
use Rattle.distinct.proofs.unequal_by_set.Goals as goal

pub loop-x-init : goal.loop-x-init
loop-x-init g c = rw c.empty-set.ensures (met_none 1024 (omega arith) _ _)

pub returns-then-meet : goal.returns-then-meet
returns-then-meet g c = sym (again g.I.Identity.number c.args.ids.now c.loop-x.invariant (omega arith) c.x-item.is (mod-eq_of_lt c.meet.ensures.range) c.meet.ensures.was c.if-meet.true)

pub loop-x-preserved : goal.loop-x-preserved
loop-x-preserved g c = more g.I.Identity.number c.args.ids.now c.loop-x.invariant (omega arith) c.x-item.is (mod-eq_of_lt c.meet.ensures.range) c.meet.ensures.was c.if-meet.false c.meet.ensures.with

pub returns : goal.returns
returns g c = sym (all_met g.I.Identity.number c.args.ids.now c.loop-x.invariant (omega arith))
