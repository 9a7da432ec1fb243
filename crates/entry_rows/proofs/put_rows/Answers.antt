-- `entry_rows::put_rows` meets its contract: the loop has read the entries up to the next, and put their rows.
-- Assumes nothing.
use Rattle.entry_rows.proofs.Putting.{rows_more}
use Rattle.entry_words.proofs.Laws.{wrote_nothing, wrote_some}
use Rattle.entry_words.proofs.Reading.{reading_all, reading_more, reading_stop}
use Rattle.layout.specs.Rows.{entry_row}
use Rattle.octets.proofs.Writing.{wrote_then}
use Rattle.octets.specs.Many.{each_octets}
use Rattle.entry_rows.proofs.put_rows.Goals as goal

pub returns-in_default : goal.returns-in_default
returns-in_default c = wrote_nothing (each_octets entry_row) c.args.room.now c.args.at c.loop-i.room c.loop-i.to (reading_stop c.loop-i.invariant.1 _ c.loop-i-test.true c.in_default.ensures)

pub loop-i-preserved : goal.loop-i-preserved
loop-i-preserved c = (_, reading_more c.loop-i.invariant.1 _ c.loop-i-test.true c.in-Ok.ensures, rw (rows_more entry_row) (wrote_then c.loop-i.invariant.2 c.put_row-to.ensures))

pub returns : goal.returns
returns c = wrote_some (each_octets entry_row) c.args.room.now c.args.at c.loop-i.room c.loop-i.to (reading_all c.loop-i.invariant.1 c.loop-i-test.false) c.loop-i.invariant.2
