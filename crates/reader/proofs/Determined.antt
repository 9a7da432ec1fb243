-- For each public function: any two results that its statement allows are equal, with what is left behind each `&mut`.
-- Assumes nothing.
use mathlib.Core.Path.{refl}
use Rattle.lists.proofs.Unique.{Determined, ◌&◌, ◌same◌}
use Rattle.reader.proofs.read.Kinds as read'
use Rattle.reader.proofs.read.Reads as read

pub read_is : Determined read'.ps read'.r read.Asked read.Learnt
read_is κs a p x y e f = (e.0 same f.0) & refl & refl & (e.1 same f.1) & refl
