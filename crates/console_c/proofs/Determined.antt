-- For each public function: any two results that its statement allows are equal.
-- Assumes nothing.
use mathlib.Core.Path.{refl}
use Rattle.lists.proofs.Unique.{Determined, ◌&◌, ◌same◌}
use Rattle.console_c.proofs.m3ap_count.Kinds as m3ap_count'
use Rattle.console_c.proofs.m3ap_count.Reads as m3ap_count

pub m3ap_count_is : Determined m3ap_count'.ps m3ap_count'.r m3ap_count.Asked m3ap_count.Learnt
m3ap_count_is κs a p x y e f = (e same f) & refl
