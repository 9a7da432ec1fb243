-- For each public function: any two results that its statement allows are equal.
use mathlib.Core.Path.{refl}
use Rattle.lists.proofs.Unique.{Determined, ◌&◌, ◌same◌}
use Rattle.view_c.proofs.m3ap_row.Kinds as m3ap_row'
use Rattle.view_c.proofs.m3ap_row.Reads as m3ap_row
use Rattle.view_c.proofs.m3ap_count_in.Kinds as m3ap_count_in'
use Rattle.view_c.proofs.m3ap_count_in.Reads as m3ap_count_in
use Rattle.view_c.proofs.m3ap_marks.Kinds as m3ap_marks'
use Rattle.view_c.proofs.m3ap_marks.Reads as m3ap_marks
use Rattle.view_c.proofs.m3ap_version.Kinds as m3ap_version'
use Rattle.view_c.proofs.m3ap_version.Reads as m3ap_version

pub m3ap_row_is : Determined m3ap_row'.ps m3ap_row'.r m3ap_row.Asked m3ap_row.Learnt
m3ap_row_is κs a p x y e f = (e same f) & refl

pub m3ap_count_in_is : Determined m3ap_count_in'.ps m3ap_count_in'.r m3ap_count_in.Asked m3ap_count_in.Learnt
m3ap_count_in_is κs a p x y e f = (e same f) & refl

pub m3ap_marks_is : Determined m3ap_marks'.ps m3ap_marks'.r m3ap_marks.Asked m3ap_marks.Learnt
m3ap_marks_is κs a p x y e f = (e same f) & refl

pub m3ap_version_is : Determined m3ap_version'.ps m3ap_version'.r m3ap_version.Asked m3ap_version.Learnt
m3ap_version_is κs a p x y e f = (e same f) & refl
