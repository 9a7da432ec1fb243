-- For each public function: any two results that its statement allows are equal, with all that is left in what was lent.
-- Assumes nothing.
use mathlib.Core.Path.{refl}
use Rattle.lists.proofs.Unique.{Determined, ◌same◌, ◌&◌}
use Rattle.link_c.proofs.m3ap_call.Kinds as m3ap_call'
use Rattle.link_c.proofs.m3ap_call.Reads as m3ap_call
use Rattle.link_c.proofs.m3ap_read.Kinds as m3ap_read'
use Rattle.link_c.proofs.m3ap_read.Reads as m3ap_read
use Rattle.link_c.proofs.m3ap_write.Kinds as m3ap_write'
use Rattle.link_c.proofs.m3ap_write.Reads as m3ap_write
use Rattle.link_c.proofs.sbcap_read.Kinds as sbcap_read'
use Rattle.link_c.proofs.sbcap_read.Reads as sbcap_read
use Rattle.link_c.proofs.sbcap_read_lab.Kinds as sbcap_read_lab'
use Rattle.link_c.proofs.sbcap_read_lab.Reads as sbcap_read_lab
use Rattle.link_c.proofs.sbcap_write.Kinds as sbcap_write'
use Rattle.link_c.proofs.sbcap_write.Reads as sbcap_write
use Rattle.link_c.proofs.sbcap_write_lab.Kinds as sbcap_write_lab'
use Rattle.link_c.proofs.sbcap_write_lab.Reads as sbcap_write_lab
use Rattle.link_c.proofs.m3ap_setup.Kinds as m3ap_setup'
use Rattle.link_c.proofs.m3ap_setup.Reads as m3ap_setup
use Rattle.link_c.proofs.m3ap_shown.Kinds as m3ap_shown'
use Rattle.link_c.proofs.m3ap_shown.Reads as m3ap_shown

pub m3ap_call_is : Determined m3ap_call'.ps m3ap_call'.r m3ap_call.Asked m3ap_call.Learnt
m3ap_call_is κs a p x y e f =
    (λ i. record { answer = (e.answer same f.answer) i; place = (e.place same f.place) i; octets = (e.octets same f.octets) i; bit = (e.bit same f.bit) i; wait = (e.wait same f.wait) i })
    & (e.unit same f.unit) & refl & refl & (e.room same f.room) & refl

pub m3ap_read_is : Determined m3ap_read'.ps m3ap_read'.r m3ap_read.Asked m3ap_read.Learnt
m3ap_read_is κs a p x y e f = (e.answer same f.answer) & refl & (e.room same f.room) & refl

pub m3ap_write_is : Determined m3ap_write'.ps m3ap_write'.r m3ap_write.Asked m3ap_write.Learnt
m3ap_write_is κs a p x y e f = (e.answer same f.answer) & refl & refl & (e.room same f.room) & refl

pub m3ap_setup_is : Determined m3ap_setup'.ps m3ap_setup'.r m3ap_setup.Asked m3ap_setup.Learnt
m3ap_setup_is κs a p x y e f = (e.answer same f.answer) & (e.unit same f.unit) & refl & refl & (e.room same f.room) & refl

pub m3ap_shown_is : Determined m3ap_shown'.ps m3ap_shown'.r m3ap_shown.Asked m3ap_shown.Learnt
m3ap_shown_is κs a p x y e f = (e same f) & refl

pub sbcap_read_is : Determined sbcap_read'.ps sbcap_read'.r sbcap_read.Asked sbcap_read.Learnt
sbcap_read_is κs a p x y e f = (e.answer same f.answer) & refl & (e.room same f.room) & refl

pub sbcap_read_lab_is : Determined sbcap_read_lab'.ps sbcap_read_lab'.r sbcap_read_lab.Asked sbcap_read_lab.Learnt
sbcap_read_lab_is κs a p x y e f = (e.answer same f.answer) & refl & (e.room same f.room) & refl

pub sbcap_write_is : Determined sbcap_write'.ps sbcap_write'.r sbcap_write.Asked sbcap_write.Learnt
sbcap_write_is κs a p x y e f = (e.answer same f.answer) & refl & refl & (e.room same f.room) & refl

pub sbcap_write_lab_is : Determined sbcap_write_lab'.ps sbcap_write_lab'.r sbcap_write_lab.Asked sbcap_write_lab.Learnt
sbcap_write_lab_is κs a p x y e f = (e.answer same f.answer) & refl & refl & (e.room same f.room) & refl
