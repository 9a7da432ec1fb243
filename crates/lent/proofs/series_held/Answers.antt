-- By what is told of them the numbers passed are all different and make up the set.
use Prim.Native.Nat.{◌+◌, ◌*◌, ◌<◌, ◌≤◌}
use lib.ListN.{length, drop}
use Rattle.distinct.specs.Bits.{told}
use Rattle.distinct.proofs.Sets.{met_none}
use Rattle.distinct.proofs.Series.{again, more, all_met, all_held}
use Rattle.octets.specs.Field.{value_at}
use Rattle.lent.specs.Tests.{numbers_at}
use Rattle.lent.proofs.Told.{next_number, length_numbers, number_read, series_shared, series_apart}
use Rattle.lent.proofs.series_held.Goals as goal

pub loop-i-init : goal.loop-i-init
loop-i-init g c = rw c.empty-set.ensures (met_none g.row.W c.requires.0 _ _)

pub returns-then-meet-clause-is : goal.returns-then-meet-clause-is
returns-then-meet-clause-is g c =
    let a = c.args in
    let s = a.s.now in
    let w = g.row.W in
    let i = c.loop-i.i in
    let l = numbers_at a.from a.n (drop 2 s) in
    let h : i < a.n = c.loop-i-test.true in
    let k : i < length l = rw (length_numbers a.from a.n (drop 2 s)) h in
    series_shared g.I.Identity.number (told w) w a.x l
    (again (told w) l c.loop-i.invariant k (next_number s a.from a.n i h) (number_read g.I.Identity.numbering w (value_at 2 s (2 + 12 * i + a.from)) c.identity_at.ensures) c.meet.ensures.was c.if-meet.true)

pub loop-i-preserved : goal.loop-i-preserved
loop-i-preserved g c =
    let a = c.args in
    let s = a.s.now in
    let w = g.row.W in
    let i = c.loop-i.i in
    let l = numbers_at a.from a.n (drop 2 s) in
    let h : i < a.n = c.loop-i-test.true in
    let k : i < length l = rw (length_numbers a.from a.n (drop 2 s)) h in
    more (told w) l c.loop-i.invariant k (next_number s a.from a.n i h) (number_read g.I.Identity.numbering w (value_at 2 s (2 + 12 * i + a.from)) c.identity_at.ensures) c.meet.ensures.was c.if-meet.false c.meet.ensures.with

pub returns-clause-is : goal.returns-clause-is
returns-clause-is g c =
    let a = c.args in
    let w = g.row.W in
    let l = numbers_at a.from a.n (drop 2 a.s.now) in
    let h : a.n ≤ c.loop-i.i = c.loop-i-test.false in
    let k : length l ≤ c.loop-i.i = rw (length_numbers a.from a.n (drop 2 a.s.now)) h in
    series_apart g.I.Identity.number (told w) w a.x l (all_met (told w) l c.loop-i.invariant k) c.loop-i.set.words (all_held (told w) l c.loop-i.invariant k) c.is_met.ensures.is
