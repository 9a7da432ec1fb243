-- The items and the entries of a record: rows of 6 octets and of 4, as many as the number before them says; behind them zeros. And what such rows say.
use Rattle.identity.specs.declared.MceId.{MceId}
use Rattle.identity.specs.declared.MmeId.{MmeId}
use Rattle.std.specs.Prelude.{ℕ, zero, suc, List, [], ◌∷◌, ◌++◌, eqb, length, get_or, drop, None, Option, Some}
use Rattle.lists.specs.Lists.{pick, fill}
use Rattle.octets.specs.Field.{value_at}
use Rattle.octets.specs.Write.{number_octets}
use Rattle.octets.specs.Many.{each_octets}
use Rattle.identity.specs.declared.Item.{Item}
use Rattle.entries.specs.declared.Entry.{Entry}

-- ---- rows

-- 1 and the identity, or zeros
abbrev pub mme_row : Option MmeId → List ℕ
mme_row (Some v) = 1 ∷ number_octets 2 v.0
mme_row None = 0 ∷ 0 ∷ 0 ∷ []

abbrev pub mce_row : Option MceId → List ℕ
mce_row (Some v) = 1 ∷ number_octets 2 v.0
mce_row None = 0 ∷ 0 ∷ 0 ∷ []

abbrev pub item_row : Item → List ℕ
item_row i = mme_row i.mme ++ mce_row i.mce

-- criticality, id, type of error
abbrev pub entry_row : Entry → List ℕ
entry_row e = e.crit ∷ (number_octets 2 e.id ++ (e.error ∷ []))

-- how many rows, the rows, and zeros up to n octets
abbrev pub list_octets : {A : Type 0} → ℕ → (A → List ℕ) → List A → List ℕ
list_octets n row l = number_octets 2 (length l) ++ fill 0 n (each_octets row l)

-- ---- what rows say, whatever they are

-- absent by a first octet of 0, else a value
abbrev pub unless0 : {A : Type 0} → List ℕ → A → A → A
unless0 p a v = pick (eqb (get_or p 0 0) 0) a v

abbrev pub row_mme : List ℕ → Option MmeId
row_mme p = unless0 p None (Some (record { 0 = value_at 2 p 1 }))

abbrev pub row_mce : List ℕ → Option MceId
row_mce p = unless0 p None (Some (record { 0 = value_at 2 p 1 }))

abbrev pub row_item : List ℕ → Item
row_item p = record { mme = row_mme p; mce = row_mce (drop 3 p) }

abbrev pub row_entry : List ℕ → Entry
row_entry p = record { crit = get_or p 0 0; id = value_at 2 p 1; error = get_or p 3 0 }

-- n rows of w octets each
unfoldable pub each_row : {A : Type 0} → (List ℕ → A) → ℕ → ℕ → List ℕ → List A
each_row one w zero s = []
each_row one w (suc n) s = one s ∷ each_row one w n (drop w s)
