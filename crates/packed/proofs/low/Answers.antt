use Rattle.std.proofs.Common.{arith}
use Rattle.packed.proofs.Packed.{masked, all_low}
use Rattle.packed.proofs.low.Goals as goal

pub returns-then-w-ge8 : goal.returns-then-w-ge8
returns-then-w-ge8 c = all_low _ _ (omega arith) (omega arith)

pub returns : goal.returns
returns c = masked _ _ (omega arith)
