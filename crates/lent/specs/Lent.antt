-- The table as octets that the link process lends: the layout, and what octets say.
use Rattle.std.specs.Prelude.{◌≡◌, Bool, true, false, ◌&&◌, ℕ, zero, suc, min, ◌≤◌, ◌<◌, eqb, leb, length, get_or, drop, None, Option, Some}
use mathlib.Core.List.{List, [], ◌∷◌, ◌++◌, Memᴰ}
use Rattle.lists.specs.Lists.{pick, fill}
use Rattle.octets.specs.Field.{value_at}
use Rattle.octets.specs.Write.{number_octets}
use Rattle.identity.specs.declared.Item.{Item}
use Rattle.table.specs.Table.{State, empty_association, standing, distinct_held}
use Rattle.table.specs.declared.Association.{Association}
use Rattle.lent.specs.declared.Looked.{Looked}

-- 1 and the Session Identity, or 0 and 0
abbrev pub flag_of : Option ℕ → ℕ
flag_of (Some v) = 1
flag_of None = 0

abbrev pub session_octet : Option ℕ → ℕ
session_octet (Some v) = v
session_octet None = 0

-- a row of 12 octets
abbrev pub row_octets : Association → List ℕ
row_octets a =
    number_octets 2 a.mme.0
    ++ number_octets 2 a.mce.0
    ++ (a.tmgi.plmn.0 ∷ a.tmgi.plmn.1 ∷ a.tmgi.plmn.2 ∷ [])
    ++ (a.tmgi.service.0 ∷ a.tmgi.service.1 ∷ a.tmgi.service.2 ∷ [])
    ++ (flag_of a.session ∷ session_octet a.session ∷ [])

unfoldable pub rows_octets : State → List ℕ
rows_octets [] = []
rows_octets (a ∷ l) = row_octets a ++ rows_octets l

-- the count, the rows, and zeros up to 3,074 octets
abbrev pub table_octets : State → List ℕ
table_octets l = fill 0 3074 (number_octets 2 (length l) ++ rows_octets l)

-- ---- what octets say
abbrev pub session_of : ℕ → ℕ → Option ℕ
session_of flag v = pick (eqb flag 0) None (Some v)

-- the row that the first 12 octets say
abbrev pub row_of : List ℕ → Association
row_of s = record {
  mme = record { 0 = value_at 2 s 0 };
  mce = record { 0 = value_at 2 s 2 };
  tmgi = record {
    plmn = record { 0 = get_or s 4 0; 1 = get_or s 5 0; 2 = get_or s 6 0 };
    service = record { 0 = get_or s 7 0; 1 = get_or s 8 0; 2 = get_or s 9 0 };
  };
  session = session_of (get_or s 10 0) (get_or s 11 0);
}

-- fewer octets say none
abbrev pub row_in : List ℕ → Association
row_in s = pick (leb 12 (length s)) (row_of s) empty_association

unfoldable pub rows_of : ℕ → List ℕ → State
rows_of zero s = []
rows_of (suc n) s = row_of s ∷ rows_of n (drop 12 s)

-- as many rows as the first two octets say
abbrev pub said : List ℕ → State
said s = rows_of (value_at 2 s 0) (drop 2 s)

-- ---- a table has one form
unfoldable pub same : List ℕ → List ℕ → Bool
same [] [] = true
same [] (y ∷ ys) = false
same (x ∷ xs) [] = false
same (x ∷ xs) (y ∷ ys) = eqb x y && same xs ys

pub data Lent : Type 0 where
  Held : State → Lent
  NoTable : Lent

-- the rows that are said, if they are a table's and the octets are those that are written for them
unfoldable pub read_table : List ℕ → Lent
read_table s = pick (leb (length (said s)) 256 && distinct_held (said s) && same (table_octets (said s)) s) (Held (said s)) NoTable

-- ---- as values of the code
-- what is held of an item's identities, and how many are held
abbrev pub looked_up : Item → Lent → Option Looked
looked_up i (Held l) = Some (record { standing = standing i l; count = length l })
looked_up i NoTable = None

-- the octets lent are as many as a table has
abbrev pub room : List ℕ → Bool
room d = eqb (length d) 3074

-- the first n rows of so many octets, whether or not they are a table
abbrev pub first_rows : ℕ → List ℕ → State
first_rows n s = pick (room s) (rows_of (min n 256) (drop 2 s)) []

-- ---- what a table can hold
-- the identities have two octets each
pub record IdentitiesInRange (a : Association) : Type 0 where
  pub mme : a.mme.0 < 65536
  pub mce : a.mce.0 < 65536

pub record Good (l : State) : Type 0 where
  pub few : length l ≤ 256
  pub apart : distinct_held l ≡ true
  pub each : (a : Association) → Memᴰ a l → IdentitiesInRange a
