-- The octets of reset items, their envelopes and lists, and of the Reset Type; and which have octets.
use Rattle.identity.specs.declared.MceId.{MceId}
use Rattle.identity.specs.declared.MmeId.{MmeId}
use Rattle.std.specs.Prelude.{ℕ, ◌+◌, ◌-◌, ◌<◌, ◌≤◌, ◌≡◌, Bool, true, false, List, [], ◌∷◌, ◌++◌, length, Ok, None, Option, Some}
use Rattle.octets.specs.Read.{Read, ◌>>=◌}
use Rattle.octets.specs.Field.{choice_at, number_at, open_at}
use Rattle.octets.specs.Many.{many, each_octets, Each}
use Rattle.octets.specs.declared.Part.{Part}
use Rattle.packed.specs.Packed.{◌bits◌, bit, packed}
use Rattle.octets.specs.Write.{number_octets, length_octets}
use Rattle.identity.specs.declared.Item.{Item}
use Rattle.items.specs.Items.{ResetType, whole, part}

-- what of an identity is written, in either series: its number, if it is there
abbrev pub identity_in : {I : Type 0} → (I → ℕ) → Option I → Option ℕ
identity_in number (Some v) = Some (number v)
identity_in number None = None

abbrev pub mme_in : Option MmeId → Option ℕ
mme_in = identity_in (λ v. v.0)

abbrev pub mce_in : Option MceId → Option ℕ
mce_in = identity_in (λ v. v.0)

abbrev pub is_there : Option ℕ → Bool
is_there (Some v) = true
is_there None = false

abbrev pub maybe_octets : Option ℕ → List ℕ
maybe_octets (Some v) = number_octets 2 v
maybe_octets None = []

-- no extension; which identities are there; no extensions present; the identities, MME first
unfoldable pub item_octets : Item → List ℕ
item_octets i =
    packed (bit false ∷ bit (is_there (mme_in i.mme)) ∷ bit (is_there (mce_in i.mce)) ∷ bit false ∷ [])
    ∷ (maybe_octets (mme_in i.mme) ++ maybe_octets (mce_in i.mce))

-- an item in its envelope: id 14, criticality, length, item
unfoldable pub item_element_octets : ℕ → Item → List ℕ
item_element_octets crit i = number_octets 2 14 ++ (packed (2 bits crit ∷ []) ∷ (length_octets (length (item_octets i)) ++ item_octets i))

-- the number of items less 1, and each in its envelope
unfoldable pub items_octets : ℕ → List Item → List ℕ
items_octets crit is = number_octets 1 (length is - 1) ++ each_octets (item_element_octets crit) is

-- criticalities of 9.3.4: of an item in a RESET, reject; and in an acknowledgement, ignore
abbrev pub reset_crit : ℕ
reset_crit = 0

abbrev pub acknowledgement_crit : ℕ
acknowledgement_crit = 1

-- no extension; the whole, which has no extension; or part, whose items have criticality reject
unfoldable pub reset_octets : ResetType → List ℕ
reset_octets whole = packed (bit false ∷ bit false ∷ bit false ∷ []) ∷ []
reset_octets (part is) = packed (bit false ∷ bit true ∷ []) ∷ items_octets reset_crit is

-- numbers of two octets; 1 to 256 items
abbrev pub GoodMaybe : Option ℕ → Type 0
GoodMaybe (Some v) = v < 65536
GoodMaybe None = Unit

abbrev pub GoodItem : Item → Type 0
GoodItem i = GoodMaybe (mme_in i.mme) × GoodMaybe (mce_in i.mce)

abbrev pub GoodItems : List Item → Type 0
GoodItems is = (0 < length is) × (length is ≤ 256) × Each GoodItem is

abbrev pub GoodReset : ResetType → Type 0
GoodReset whole = Unit
GoodReset (part is) = GoodItems is

-- the criticality in an item's envelope, and those of a list's envelopes
unfoldable pub envelope_crit_at : List ℕ → ℕ → Read (Part ℕ)
envelope_crit_at s at = do
  c ← choice_at 3 2 s (at + 2) 0
  v ← open_at s (at + 3)
  Ok (record { value = c; next = v.to })

unfoldable pub crits_at : List ℕ → ℕ → Read (List ℕ)
crits_at s at = do
  n ← number_at 1 s at
  cs ← many (envelope_crit_at s) (n + 1) (at + 1)
  Ok cs.value

-- each envelope of the list at the place has this criticality
abbrev pub Marked : ℕ → List ℕ → ℕ → Type 0
Marked crit s at = (cs : List ℕ) × (Ok cs ≡ crits_at s at) × Each (λ (c : ℕ). c ≡ crit) cs

-- of a Reset Type's items: reject
abbrev pub Rejecting : ResetType → List ℕ → ℕ → Type 0
Rejecting whole s at = Unit
Rejecting (part is) s at = Marked reset_crit s (at + 1)
