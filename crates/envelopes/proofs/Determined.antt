-- For each public function: any two results that its statement allows are equal.
-- Assumes nothing.
use mathlib.Core.Path.{refl}
use Rattle.lists.proofs.Unique.{Determined, ◌same◌, ◌&◌}
use Rattle.envelopes.proofs.criticality_at.Kinds as criticality_at'
use Rattle.envelopes.proofs.criticality_at.Reads as criticality_at
use Rattle.envelopes.proofs.envelope_at.Kinds as envelope_at'
use Rattle.envelopes.proofs.envelope_at.Reads as envelope_at
use Rattle.envelopes.proofs.scan.Kinds as scan'
use Rattle.envelopes.proofs.scan.Reads as scan

pub criticality_at_is : Determined criticality_at'.ps criticality_at'.r criticality_at.Asked criticality_at.Learnt
criticality_at_is κs a p x y e f = (e same f) & refl

pub envelope_at_is : Determined envelope_at'.ps envelope_at'.r envelope_at.Asked envelope_at.Learnt
envelope_at_is κs a p x y e f = (e same f) & refl

pub scan_is : Determined scan'.ps scan'.r scan.Asked scan.Learnt
scan_is κs a p x y e f = (e same f) & refl
