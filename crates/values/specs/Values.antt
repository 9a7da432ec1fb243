-- The values that are read in full, from octet at to the end of s, as 9.3.5 and X.691 lay them out.
use Rattle.std.specs.Prelude.{ℕ, ◌+◌, List, [], ◌∷◌, get_or, Ok}
use Rattle.octets.specs.Read.{Read, ◌>>=◌, ◌>>◌}
use Rattle.octets.specs.Field.{plain_at, choice_at, pad_at, number_at, string_at, ends_at}
use Rattle.identity.specs.declared.MmeId.{MmeId}
use Rattle.identity.specs.declared.MceId.{MceId}
use Rattle.identity.specs.declared.Tmgi.{Tmgi}
use Rattle.values.specs.declared.Cause.{Cause}

-- a number of k octets and nothing behind it
abbrev pub whole_at : ℕ → List ℕ → ℕ → Read ℕ
whole_at k s at = do
  v ← number_at k s at
  ends_at s (at + k)
  Ok v

-- M3AP's MBMS-Session-ID ::= OCTET STRING (SIZE (1)), SBc-AP's Cause ::= INTEGER (0..255)
unfoldable pub one_at : List ℕ → ℕ → Read ℕ
one_at s at = whole_at 1 s at

-- SBc-AP's Message-Identifier and Serial-Number ::= BIT STRING (SIZE (16))
unfoldable pub two_at : List ℕ → ℕ → Read ℕ
two_at s at = whole_at 2 s at

-- an identity of a series, as the series numbers them
unfoldable pub identity_at : {I : Type 0} → (ℕ → I) → List ℕ → ℕ → Read I
identity_at numbered s at = two_at s at >>= λ v. Ok (numbered v)

-- MME-MBMS-M3AP-ID ::= INTEGER (0..65535)
abbrev pub mme_at : List ℕ → ℕ → Read MmeId
mme_at = identity_at (λ v. record { 0 = v })

-- MCE-MBMS-M3AP-ID ::= INTEGER (0..65535)
abbrev pub mce_at : List ℕ → ℕ → Read MceId
mce_at = identity_at (λ v. record { 0 = v })

-- TMGI ::= SEQUENCE { pLMNidentity, serviceID OCTET STRING (SIZE (3)), iE-Extensions OPTIONAL }, with no extension mark: no extension bit
unfoldable pub tmgi_at : List ℕ → ℕ → Read Tmgi
tmgi_at s at = do
  plain_at s at 0
  pad_at s at 1
  p ← string_at 3 s (at + 1)
  v ← string_at 3 s (at + 4)
  ends_at s (at + 7)
  Ok (record { plmn = record { 0 = get_or p 0 0; 1 = get_or p 1 0; 2 = get_or p 2 0 }; service = record { 0 = get_or v 0 0; 1 = get_or v 1 0; 2 = get_or v 2 0 } })

-- the groups of causes in 9.3.5: radio network, transport, NAS, protocol, miscellaneous. How many root values each has, and how many bits number them
abbrev pub roots : List ℕ
roots = 8 ∷ 2 ∷ 1 ∷ 7 ∷ 5 ∷ []

abbrev pub root_bits : List ℕ
root_bits = 3 ∷ 1 ∷ 0 ∷ 3 ∷ 3 ∷ []

abbrev pub root_of : ℕ → ℕ
root_of g = get_or roots g 0

abbrev pub bits_of_root : ℕ → ℕ
bits_of_root g = get_or root_bits g 0

-- Cause ::= CHOICE { five groups, ... }, each an ENUMERATED { .., ... }
unfoldable pub cause_at : List ℕ → ℕ → Read Cause
cause_at s at = do
  plain_at s at 0
  g ← choice_at 5 3 s at 1
  plain_at s at 4
  v ← choice_at (root_of g) (bits_of_root g) s at 5
  pad_at s at (5 + bits_of_root g)
  ends_at s (at + 1)
  Ok (record { group = g; value = v })

-- TimeToWait ::= ENUMERATED { v1s, v2s, v5s, v10s, v20s, v60s, ... }, by its number in the root
unfoldable pub wait_at : List ℕ → ℕ → Read ℕ
wait_at s at = do
  plain_at s at 0
  v ← choice_at 6 3 s at 1
  pad_at s at 4
  ends_at s (at + 1)
  Ok v

-- and its seconds; 0 for a number outside the root
abbrev pub waits : List ℕ
waits = 1 ∷ 2 ∷ 5 ∷ 10 ∷ 20 ∷ 60 ∷ []

abbrev pub seconds : ℕ → ℕ
seconds v = get_or waits v 0
