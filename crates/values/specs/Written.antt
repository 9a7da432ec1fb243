-- The octets of the values, as 9.3.5 and X.691 lay them out; and which values have octets.
use Rattle.std.specs.Prelude.{ℕ, ◌<◌, false, List, [], ◌∷◌, ltb}
use Rattle.lists.specs.Lists.{pick}
use Rattle.packed.specs.Packed.{◌bits◌, bit, packed}
use Rattle.octets.specs.Write.{number_octets}
use Rattle.identity.specs.declared.MmeId.{MmeId}
use Rattle.identity.specs.declared.MceId.{MceId}
use Rattle.identity.specs.declared.Tmgi.{Tmgi}
use Rattle.values.specs.declared.Cause.{Cause}
use Rattle.values.specs.Values.{root_of, bits_of_root}

abbrev pub mme_octets : MmeId → List ℕ
mme_octets v = number_octets 2 v.0

abbrev pub mce_octets : MceId → List ℕ
mce_octets v = number_octets 2 v.0

abbrev pub one_octets : ℕ → List ℕ
one_octets v = number_octets 1 v

abbrev pub two_octets : ℕ → List ℕ
two_octets v = number_octets 2 v

-- no extensions present; PLMN; service
unfoldable pub tmgi_octets : Tmgi → List ℕ
tmgi_octets t = packed (bit false ∷ []) ∷ t.plmn.0 ∷ t.plmn.1 ∷ t.plmn.2 ∷ t.service.0 ∷ t.service.1 ∷ t.service.2 ∷ []

-- no extension; the group; no extension; the number in the group's root
abbrev pub cause_octet : Cause → ℕ
cause_octet c = packed (bit false ∷ 3 bits c.group ∷ bit false ∷ bits_of_root c.group bits c.value ∷ [])

-- a cause outside the root has no octets
unfoldable pub cause_octets : Cause → List ℕ
cause_octets c = pick (ltb c.value (root_of c.group)) (cause_octet c ∷ []) []

abbrev pub GoodCause : Cause → Type 0
GoodCause c = c.value < root_of c.group

-- no extension; the number in the root
abbrev pub wait_octet : ℕ → ℕ
wait_octet v = packed (bit false ∷ 3 bits v ∷ [])

-- a Time to Wait outside the root has no octets
unfoldable pub wait_octets : ℕ → List ℕ
wait_octets v = pick (ltb v 6) (wait_octet v ∷ []) []
