-- One record more is gathered in a turn; behind the last, the answer over the numbers is the answer for the associations.
use Rattle.std.proofs.Common.{◌∙◌, ◌<◌, length, arith}
use Rattle.console.proofs.Gathered.{gathered_more, each_more, answered}
use Rattle.console.proofs.m3ap_count.Goals as goal

pub loop-i-preserved : goal.loop-i-preserved
loop-i-preserved c =
    let ys = c.args.run.now in
    let i = c.loop-i.i in
    let h : i < length ys = omega arith in
    let e = c.put.ensures in
    (rw (e.0, c.loop-i.invariant.0) (gathered_more ys i _ h (omega arith)), each_more ys i _ h c.loop-i.invariant.1 e.1)

pub returns : goal.returns
returns c =
    let v = c.loop-i.invariant in
    let e = c.judged.ensures in
    e.0 ∙ rw v.0 (answered c.args.tmgi e.1 c.args.run.now c.loop-i.i (omega arith) (omega arith) v.1)
