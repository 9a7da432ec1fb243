-- the invariant is the octets of the words passed, at most nine of each
use native.Mathlib.Omega.{arith}
use lib.ListN.{get_or}
use Rattle.item_words.proofs.Written.{sized_word, sized_words, word_small}
use Rattle.item_words.proofs.words_size.Goals as goal

pub overflow_add-size : goal.overflow_add-size
overflow_add-size c = omega (arith, word_small (get_or c.args.words.now c.loop-w.w-index 0) c.word_size-size.ensures, c.well_formed.0.1)

pub loop-w-preserved : goal.loop-w-preserved
loop-w-preserved c = (
  omega (arith, word_small (get_or c.args.words.now c.loop-w.w-index 0) c.word_size-size.ensures),
  sized_word c.args.words.now c.loop-w.w-index c.loop-w-test.true c.loop-w.invariant.1 c.word_size-size.ensures,
)

pub returns : goal.returns
returns c = sized_words c.args.words.now c.loop-w.w-index c.loop-w-test.false c.loop-w.invariant.1
