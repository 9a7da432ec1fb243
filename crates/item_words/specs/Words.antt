-- Scaffolding: no demand speaks of it. Items as words. A word of 0 is the item without an identity.
use Rattle.identity.specs.declared.MceId.{MceId}
use Rattle.identity.specs.declared.MmeId.{MmeId}
use Rattle.std.specs.Prelude.{ℕ, ◌+◌, ◌-◌, ◌*◌, ◌/◌, ◌%◌, ◌<◌, ◌≤◌, Bool, true, false, not, List, [], ◌∷◌, eqb, None, Option, Some}
use Rattle.lists.specs.Lists.{pick, keep}
use Rattle.octets.specs.Write.{number_octets}
use Rattle.identity.specs.declared.Item.{Item}

-- one more than the identity, or 0
abbrev pub identity_number : {I : Type 0} → (I → ℕ) → Option I → ℕ
identity_number number (Some v) = number v + 1
identity_number number None = 0

abbrev pub mme_number : Option MmeId → ℕ
mme_number = identity_number (λ v. v.0)

abbrev pub mce_number : Option MceId → ℕ
mce_number = identity_number (λ v. v.0)

abbrev pub word_of : Item → ℕ
word_of i = mme_number i.mme + mce_number i.mce * 4294967296

-- what any number says
abbrev pub identity_by : {I : Type 0} → (ℕ → I) → ℕ → Option I
identity_by numbered n = pick (eqb n 0) None (Some (numbered ((n - 1) % 65536)))

abbrev pub mme_by : ℕ → Option MmeId
mme_by = identity_by (λ v. record { 0 = v })

abbrev pub mce_by : ℕ → Option MceId
mce_by = identity_by (λ v. record { 0 = v })

abbrev pub item_of : ℕ → Item
item_of w = record { mme = mme_by (w % 4294967296); mce = mce_by (w / 4294967296) }

-- the words of items with an identity
abbrev pub identified : List ℕ → List ℕ
identified ws = keep (λ (w : ℕ). not (eqb w 0)) ws

-- ---- inside the writer: a half of a word says 1 identity or none, in two octets or none

abbrev pub there_in : ℕ → ℕ
there_in n = pick (eqb n 0) 0 1

abbrev pub half_octets : ℕ → List ℕ
half_octets n = pick (eqb n 0) [] (number_octets 2 ((n - 1) % 65536))

-- said where the answer is yes: both halves of a word say an identity, and a room has nine octets from at on
abbrev pub IfNine : Bool → ℕ → ℕ → ℕ → ℕ → Type 0
IfNine true m c at room = (0 < m) × (0 < c) × (at + 9 ≤ room)
IfNine false m c at room = Unit

-- an item with both identities in its envelope: 14, the criticality's octet, five octets, both marks
abbrev pub full_octets : ℕ → ℕ → ℕ → List ℕ
full_octets crit m c = 0 ∷ 14 ∷ crit ∷ 5 ∷ 96 ∷ (m / 256) ∷ (m % 256) ∷ (c / 256) ∷ (c % 256) ∷ []
