-- Those passed are all different, and the next is not among them.
use Rattle.std.proofs.Common.{sym, arith}
use Rattle.distinct.specs.Series.{alike}
use Rattle.distinct.proofs.Sets.{pairs_more, pairs_again}
use Rattle.distinct.proofs.unequal_by_pairs.Goals as goal

pub returns-then-is_among : goal.returns-then-is_among
returns-then-is_among g c = sym (pairs_again (alike g.I.Identity.number) c.args.ids.now c.loop-i.i (omega arith) c.index-ids-i.is c.is_among.ensures c.loop-i.invariant c.if-is_among.true)

pub loop-i-preserved : goal.loop-i-preserved
loop-i-preserved g c = pairs_more (alike g.I.Identity.number) c.args.ids.now c.loop-i.i (omega arith) c.index-ids-i.is c.is_among.ensures c.loop-i.invariant c.if-is_among.false
