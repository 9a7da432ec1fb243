-- Scaffolding: no demand speaks of it. How the items of a reset are chained by identity, so that each association meets few of them. What a reset means is `without`.
use Rattle.std.specs.Prelude.{Bool, not, ◌&&◌, List, ℕ, min, ◌%◌, eqb, length, get_or, None, Option, Some}
use Rattle.lists.specs.Lists.{some}
use Rattle.lists.specs.Chains.{Chained}
use Rattle.identity.specs.declared.MmeId.{MmeId}
use Rattle.identity.specs.declared.MceId.{MceId}
use Rattle.identity.specs.declared.Item.{Item}
use Rattle.item_words.specs.Words.{item_of}
use Rattle.table.specs.Table.{State, names}
use Rattle.table.specs.declared.Association.{Association}

-- by the low bits of an identity, in 4,096 slots that both series share
abbrev pub mme_slot : MmeId → ℕ
mme_slot m = m.0 % 4096

abbrev pub mce_slot : MceId → ℕ
mce_slot c = c.0 % 4096

-- by the MME identity, else by the MCE identity; 4,096 is no slot
abbrev pub identities_slot : Option MmeId → Option MceId → ℕ
identities_slot (Some m) y = mme_slot m
identities_slot None (Some c) = mce_slot c
identities_slot None None = 4096

unfoldable pub item_slot : Item → ℕ
item_slot i = identities_slot i.mme i.mce

-- the slot of the item that the word at a place says
abbrev pub slot_at : List ℕ → ℕ → ℕ
slot_at ws j = item_slot (item_of (get_or ws j 0))

-- the item is in the slot, and names the association
abbrev pub names_in : ℕ → Association → Item → Bool
names_in h a i = eqb (item_slot i) h && names i a

-- the items of the first 256 words are chained
pub record Slotted (ws head next : List ℕ) : Type 0 where
  pub chained : Chained (slot_at ws) 4096 256 head next (min (length ws) 256)

-- ---- without chains: no item names one of the associations
unfoldable pub names_none : List Item → State → Bool
names_none is l = not (some (λ (i : Item). some (names i) l) is)
