-- the invariant is that the words kept of those passed stand in front, and the rest as it was
use mathlib.Core.Path.{refl}
use native.Mathlib.Omega.{arith}
use Rattle.item_words.proofs.Written.{keep_more, kept_all}
use Rattle.item_words.proofs.keep_identified.Goals as goal

pub loop-i-preserved : goal.loop-i-preserved
loop-i-preserved c = keep_more c.args.words.now c.loop-i.i c.loop-i.invariant (omega (arith, c.min-all.ensures)) refl c.keep_word-kept.ensures

pub returns : goal.returns
returns c = kept_all c.args.words.now c.args.n c.loop-i.i (omega (arith, c.min-all.ensures)) c.loop-i.invariant
