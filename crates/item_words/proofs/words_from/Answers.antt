-- the invariant is the list read so far, whose words stand in front
use Rattle.octets.proofs.Writing.{wrote_then}
use Rattle.item_words.proofs.Reading.{reading_word, words_more}
use Rattle.item_words.proofs.words_from.Goals as goal

pub loop-i-preserved : goal.loop-i-preserved
loop-i-preserved c = let v = reading_word c.loop-i.invariant.1 c.loop-i-test.true c.in-Ok.ensures in (_, v.2, rw (words_more c.loop-i.invariant.0 v.0 v.1) (wrote_then c.loop-i.invariant.2 c.put-to.ensures))
