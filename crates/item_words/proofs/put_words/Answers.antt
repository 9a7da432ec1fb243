-- the invariant is the octets of the words passed
use mathlib.Core.Path.{◌≡◌}
use Prim.Native.Nat.{ℕ}
use lib.ListN.{take}
use lib.Seq.{take_all}
use Rattle.put_values.specs.Put.{crit_of}
use Rattle.items.specs.Written.{item_element_octets}
use Rattle.octets.proofs.Writing.{wrote_then}
use Rattle.octets.proofs.EachWritten.{wrote_more}
use Rattle.item_words.specs.Words.{item_of}
use Rattle.item_words.proofs.Written.{words_octets}
use Rattle.item_words.proofs.put_words.Goals as goal

pub loop-w-preserved : goal.loop-w-preserved
loop-w-preserved c = wrote_more (λ (w : ℕ). item_element_octets (crit_of c.args.crit) (item_of w)) c.args.words.now c.loop-w.w-index 0 c.loop-w-test.true c.loop-w.invariant c.put_word_element-next.ensures

pub returns : goal.returns
returns c =
    let a = c.args in
    let t : take c.loop-w.w-index a.words.now ≡ a.words.now = take_all c.loop-w.w-index a.words.now c.loop-w-test.false in
    rw (words_octets (crit_of a.crit) a.words.now, ← c.count_octet.ensures) (wrote_then c.put_octet-next.ensures (rw t at c.loop-w.invariant))
