-- `put_reply::put_rows` meets its contract: the loop's invariant: the elements of the first i rows are written. Assumes nothing.
use mathlib.Core.List.{map}
use native.Mathlib.Omega.{arith}
use Rattle.octets.proofs.Writing.{wrote_none}
use Rattle.item_words.specs.Words.{item_of}
use Rattle.entry_words.specs.EntryWords.{entry_by}
use Rattle.plan.specs.Plan.{elements_to}
use Rattle.plan.proofs.Steps.{wrote_within}
use Rattle.put_reply.proofs.Rows.{rows_more}
use Rattle.put_reply.proofs.put_rows.Goals as goal

pub loop-i-init : goal.loop-i-init
unfolding elements_to
loop-i-init c = (c.requires.0, wrote_none _ _ (omega (arith, c.requires.0)))

pub put_row-next-requires : goal.put_row-next-requires
put_row-next-requires c = let r = c.requires.1 c.loop-i.i c.loop-i-test.true in (c.loop-i.invariant.0, r.crit, rw c.part_of.ensures r.size, r.fits)

pub loop-i-preserved : goal.loop-i-preserved
loop-i-preserved c =
    let a = c.args in
    (wrote_within c.put_row-next.ensures, rows_more (map item_of a.kept.now) (map entry_by a.noted.now) a.p a.t.rows.now c.loop-i.i c.part_of.ensures c.loop-i.invariant.1 c.put_row-next.ensures)
