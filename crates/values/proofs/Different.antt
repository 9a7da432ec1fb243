-- Two values which differ have octets which differ.
-- Assumes nothing.
use Prim.Native.Nat.{◌<◌}
use Rattle.octets.specs.Stands.{StaysDifferent}
use Rattle.octets.proofs.Different.{ends_different}
use Rattle.values.specs.Values.{mme_at, mce_at, one_at, two_at, tmgi_at, cause_at, wait_at}
use Rattle.values.specs.Written.{mme_octets, mce_octets, one_octets, two_octets, tmgi_octets, cause_octets, GoodCause, wait_octets}
use Rattle.values.proofs.Back.{mme_back, mce_back, one_back, two_back, tmgi_back, cause_back, wait_back}

pub mmes : StaysDifferent (λ v. v.0 < 65536) mme_octets
mmes = ends_different _ mme_octets mme_at mme_back

pub mces : StaysDifferent (λ v. v.0 < 65536) mce_octets
mces = ends_different _ mce_octets mce_at mce_back

pub ones : StaysDifferent (λ v. v < 256) one_octets
ones = ends_different _ one_octets one_at one_back

pub twos : StaysDifferent (λ v. v < 65536) two_octets
twos = ends_different _ two_octets two_at two_back

pub tmgis : StaysDifferent (λ t. Unit) tmgi_octets
tmgis = ends_different _ tmgi_octets tmgi_at (λ s at t g h. tmgi_back s at t h)

pub causes : StaysDifferent GoodCause cause_octets
causes = ends_different _ cause_octets cause_at cause_back

pub waits : StaysDifferent (λ v. v < 6) wait_octets
waits = ends_different _ wait_octets wait_at wait_back
