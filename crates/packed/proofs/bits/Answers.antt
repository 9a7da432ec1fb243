use Rattle.std.proofs.Common.{arith, ◌∙◌}
use Rattle.packed.proofs.Packed.{bits_none, bits_low, bits_mid}
use Rattle.packed.proofs.bits.Goals as goal

pub returns-then-w-eq0 : goal.returns-then-w-eq0
returns-then-w-eq0 c = bits_none _ _ _ c.if-w-eq0.true

pub returns-then-k-w : goal.returns-then-k-w
returns-then-k-w c = c.low.ensures ∙ bits_low _ _ _ (omega arith)

pub returns : goal.returns
returns c = bits_mid _ _ _ (omega arith)
