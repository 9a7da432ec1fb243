-- For each public function: any two results that its statement allows are equal.
-- Assumes nothing.
use mathlib.Core.Path.{refl}
use Rattle.lists.proofs.Unique.{Determined, ◌same◌, ◌&◌}
use Rattle.frames.proofs.frame_at.Kinds as frame_at'
use Rattle.frames.proofs.frame_at.Reads as frame_at
use Rattle.frames.proofs.count_at.Kinds as count_at'
use Rattle.frames.proofs.count_at.Reads as count_at

pub frame_at_is : Determined frame_at'.ps frame_at'.r frame_at.Asked frame_at.Learnt
frame_at_is κs a p x y e f = (e same f) & refl

pub count_at_is : Determined count_at'.ps count_at'.r count_at.Asked count_at.Learnt
count_at_is κs a p x y e f = (e same f) & refl
