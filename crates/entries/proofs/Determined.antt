-- For each public function: any two results that its statement allows are equal.
-- Assumes nothing.
use mathlib.Core.Path.{refl}
use Rattle.lists.proofs.Unique.{Determined, ◌same◌, ◌&◌}
use Rattle.entries.proofs.entry_at.Kinds as entry_at'
use Rattle.entries.proofs.entry_at.Reads as entry_at

pub entry_at_is : Determined entry_at'.ps entry_at'.r entry_at.Asked entry_at.Learnt
entry_at_is κs a p x y e f = (e same f) & refl
