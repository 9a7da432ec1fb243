use Prim.Native.Nat.{◌+◌, ◌*◌, ◌≤◌}
use Rattle.item_words.proofs.Written.{WordsSized}
use Rattle.item_words.proofs.words_size.Given as goal

abbrev pub invariant-loop-w : goal.invariant-loop-w
invariant-loop-w l = (l.size ≤ 1 + 9 * l.w-index) × WordsSized l.words l.w-index l.size
