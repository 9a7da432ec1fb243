-- Lent tables, computed: one that holds nothing, one that holds one association, and octets that are no table.
use Rattle.std.specs.Prelude.{None, Option, Some}
use mathlib.Core.Path.{◌≡◌, refl}
use mathlib.Core.List.{List, [], ◌∷◌, ◌++◌, map}
use Prim.Native.Nat.{ℕ}
use lib.ListN.{replicate}
use Rattle.octets.specs.Write.{number_octets}
use Rattle.table.specs.Table.{distinct_held}
use Rattle.table.specs.declared.Association.{Association}
use Rattle.lent.specs.Lent.{rows_octets, rows_of, same, Lent, Held, NoTable, read_table}

-- the first octets of a table, and zeros behind them
abbrev octets : ℕ → List ℕ → List ℕ
octets n s = s ++ replicate n 0

abbrev association : Option ℕ → Association
association s = record {
  mme = record { 0 = 0x0102 };
  mce = record { 0 = 0x0304 };
  tmgi = record { plmn = record { 0 = 5; 1 = 6; 2 = 7 }; service = record { 0 = 8; 1 = 9; 2 = 10 } };
  session = s;
}

abbrev row : List ℕ
row = 1 ∷ 2 ∷ 3 ∷ 4 ∷ 5 ∷ 6 ∷ 7 ∷ 8 ∷ 9 ∷ 10 ∷ []

-- octets, and what they are
abbrev examples : List (List ℕ × Lent)
examples =
    (octets 3074 [], Held [])
    ∷ (octets 3060 (0 ∷ 1 ∷ row ++ 1 ∷ 11 ∷ []), Held (association (Some 11) ∷ []))
    ∷ (octets 3060 (0 ∷ 1 ∷ row ++ 0 ∷ 0 ∷ []), Held (association None ∷ []))
    -- a flag of 2; a Session Identity beside none; a set octet past the rows; another size; two that share identities; a row that is not counted
    ∷ (octets 3060 (0 ∷ 1 ∷ row ++ 2 ∷ 11 ∷ []), NoTable)
    ∷ (octets 3060 (0 ∷ 1 ∷ row ++ 0 ∷ 11 ∷ []), NoTable)
    ∷ (octets 3059 (0 ∷ 1 ∷ row ++ 1 ∷ 11 ∷ 1 ∷ []), NoTable)
    ∷ (octets 3061 (0 ∷ 1 ∷ row ++ 1 ∷ 11 ∷ []), NoTable)
    ∷ (octets 3048 (0 ∷ 2 ∷ row ++ 1 ∷ 11 ∷ [] ++ row ++ 1 ∷ 11 ∷ []), NoTable)
    ∷ (octets 3060 (0 ∷ 0 ∷ row ++ 1 ∷ 11 ∷ []), NoTable)
    ∷ []

pub read : map (λ (e : List ℕ × Lent). read_table e.0) examples ≡ map (λ (e : List ℕ × Lent). e.1) examples
unfolding read_table same rows_of rows_octets number_octets distinct_held
read = refl
