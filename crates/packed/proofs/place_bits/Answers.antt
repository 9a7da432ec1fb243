use Rattle.std.proofs.Common.{arith, ◌∙◌}
use Rattle.packed.proofs.Packed.{placed_none, placed_low, placed_mid}
use Rattle.packed.proofs.place_bits.Goals as goal

pub returns-then-w-eq0 : goal.returns-then-w-eq0
returns-then-w-eq0 c = placed_none _ _ _ c.if-w-eq0.true

pub returns-then-k-w : goal.returns-then-k-w
returns-then-k-w c = c.low.ensures ∙ placed_low _ _ _ (omega arith)

pub returns : goal.returns
returns c = rw c.low-2.ensures (placed_mid _ _ _ (omega arith))
