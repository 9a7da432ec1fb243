-- `entry_words::words_from` meets its contract: the loop has read the entries up to the next, and their words stand in front.
-- Assumes nothing.
use mathlib.Core.List.{map, map-append}
use Rattle.entry_words.proofs.Laws.{wrote_nothing, wrote_some}
use Rattle.entry_words.proofs.Reading.{reading_all, reading_more, reading_stop}
use Rattle.entry_words.specs.EntryWords.{entry_word}
use Rattle.octets.proofs.Writing.{wrote_then}
use Rattle.entry_words.proofs.words_from.Goals as goal

pub returns-in_default : goal.returns-in_default
returns-in_default c = wrote_nothing (map entry_word) c.args.words.now 0 c.loop-i.words c.loop-i.to (reading_stop c.loop-i.invariant.1 _ c.loop-i-test.true c.in_default.ensures)

pub loop-i-preserved : goal.loop-i-preserved
loop-i-preserved c = (_, reading_more c.loop-i.invariant.1 _ c.loop-i-test.true c.in-Ok.ensures, rw map-append (wrote_then c.loop-i.invariant.2 (rw (← c.entry_word.ensures) c.put-to.ensures)))

pub returns : goal.returns
returns c = wrote_some (map entry_word) c.args.words.now 0 c.loop-i.words c.loop-i.to (reading_all c.loop-i.invariant.1 c.loop-i-test.false) c.loop-i.invariant.2
