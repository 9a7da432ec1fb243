-- Lists of reset items, and the Reset Type.
use Rattle.std.specs.Prelude.{ℕ, ◌+◌, Bool, true, false, List, Ok}
use Rattle.octets.specs.Read.{Read, ◌>>=◌, ◌>>◌}
use Rattle.octets.specs.Field.{flag_at, plain_at, pad_at, number_at, ends_at}
use Rattle.octets.specs.Many.{many}
use Rattle.identity.specs.declared.Item.{Item}
use Rattle.item.specs.Item.{item_element_at}

-- 1 to 256 items: their number less 1, and each in its envelope
unfoldable pub items_at : List ℕ → ℕ → Read (List Item)
items_at s at = do
  n ← number_at 1 s at
  is ← many (item_element_at s) (n + 1) (at + 1)
  ends_at s is.next
  Ok is.value

-- a Reset Type says: the whole interface, or these
pub data ResetType : Type 0 where
  whole : ResetType
  part : List Item → ResetType

-- ResetType ::= CHOICE { m3-Interface ENUMERATED { reset-all, ... }, partOfM3-Interface, ... }
abbrev pub chosen_reset_at : Bool → List ℕ → ℕ → Read ResetType
chosen_reset_at false s at = plain_at s at 2 >> (pad_at s at 3 >> (ends_at s (at + 1) >> Ok whole))
chosen_reset_at true s at = pad_at s at 2 >> (items_at s (at + 1) >>= λ is. Ok (part is))

unfoldable pub reset_at : List ℕ → ℕ → Read ResetType
reset_at s at = do
  plain_at s at 0
  p ← flag_at s at 1
  chosen_reset_at p s at
