-- A reset item, and its envelope.
use Rattle.identity.specs.declared.MceId.{MceId}
use Rattle.identity.specs.declared.MmeId.{MmeId}
use Rattle.std.specs.Prelude.{ℕ, ◌+◌, Bool, true, false, List, take, Ok, None, Option, Some}
use Rattle.octets.specs.Read.{Read, ◌>>=◌, ◌>>◌}
use Rattle.octets.specs.Field.{flag_at, plain_at, choice_at, pad_at, number_at, same_at, open_at, ends_at}
use Rattle.octets.specs.declared.Part.{Part}
use Rattle.identity.specs.declared.Item.{Item}
use Rattle.item.specs.declared.Marks.{Marks}

-- an identity of two octets that is there or not, made of its number as its series does
abbrev pub maybe_identity_at : {I : Type 0} → (ℕ → I) → Bool → List ℕ → ℕ → Read (Option I)
maybe_identity_at numbered false s at = Ok None
maybe_identity_at numbered true s at = number_at 2 s at >>= λ v. Ok (Some (numbered v))

abbrev pub maybe_mme_at : Bool → List ℕ → ℕ → Read (Option MmeId)
maybe_mme_at = maybe_identity_at (λ v. record { 0 = v })

abbrev pub maybe_mce_at : Bool → List ℕ → ℕ → Read (Option MceId)
maybe_mce_at = maybe_identity_at (λ v. record { 0 = v })

-- the place behind it
abbrev pub behind : Bool → ℕ → ℕ
behind false at = at
behind true at = at + 2

-- MBMS-Service-associatedLogicalM3-ConnectionItem: extension, MME identity present, MCE identity present, extensions present
unfoldable pub item_marks_at : List ℕ → ℕ → Read Marks
item_marks_at s at = do
  plain_at s at 0
  m ← flag_at s at 1
  c ← flag_at s at 2
  plain_at s at 3
  pad_at s at 4
  Ok (record { mme = m; mce = c })

unfoldable pub item_at : List ℕ → ℕ → Read Item
item_at s at = do
  h ← item_marks_at s at
  x ← maybe_mme_at h.mme s (at + 1)
  y ← maybe_mce_at h.mce s (behind h.mme (at + 1))
  ends_at s (behind h.mce (behind h.mme (at + 1)))
  Ok (record { mme = x; mce = y })

-- an item in its envelope: id 14, or it is at fault; a criticality that is not looked at further; the item
unfoldable pub item_element_at : List ℕ → ℕ → Read (Part Item)
item_element_at s at = do
  same_at 14 s at
  choice_at 3 2 s (at + 2) 0
  pad_at s (at + 2) 2
  v ← open_at s (at + 3)
  i ← item_at (take v.to s) v.from
  Ok (record { value = i; next = v.to })
