-- For each public function: any two results that its statement allows are equal, with what is left behind each `&mut`.
-- Assumes nothing.
use mathlib.Core.Path.{refl}
use Rattle.lists.proofs.Unique.{Determined, ◌same◌, ◌&◌}
use Rattle.packed.proofs.bits.Kinds as bits'
use Rattle.packed.proofs.bits.Reads as bits
use Rattle.packed.proofs.with_bits.Kinds as with_bits'
use Rattle.packed.proofs.with_bits.Reads as with_bits

pub bits_is : Determined bits'.ps bits'.r bits.Asked bits.Learnt
bits_is κs a p x y e f = (e same f) & refl

pub with_bits_is : Determined with_bits'.ps with_bits'.r with_bits.Asked with_bits.Learnt
with_bits_is κs a p x y e f = (e same f) & refl
