-- Scaffolding: no demand speaks of it. What the judge of rows looks at, and the half of a word that three octets of a row say.
use Rattle.std.specs.Prelude.{ℕ, zero, suc, ◌+◌, ◌*◌, Bool, true, ◌&&◌, ◌||◌, List, eqb, get_or, drop}
use Rattle.lists.specs.Lists.{pick}

-- 1 and any two octets, or zeros
abbrev pub half_good : ℕ → ℕ → ℕ → Bool
half_good flag high low = eqb flag 1 || (eqb flag 0 && eqb high 0 && eqb low 0)

abbrev pub item_row_good : List ℕ → Bool
item_row_good p = half_good (get_or p 0 0) (get_or p 1 0) (get_or p 2 0) && half_good (get_or p 3 0) (get_or p 4 0) (get_or p 5 0)

unfoldable pub item_rows_good : ℕ → List ℕ → Bool
item_rows_good zero p = true
item_rows_good (suc n) p = item_row_good p && item_rows_good n (drop 6 p)

-- one more than the identity, or 0
abbrev pub half_of : ℕ → ℕ → ℕ → ℕ
half_of flag high low = pick (eqb flag 0) 0 (high * 256 + low + 1)
