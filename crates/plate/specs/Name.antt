-- The name that a message says, or none.
use Rattle.std.specs.Prelude.{ℕ, List, [], ◌∷◌}
use Rattle.meaning.specs.Value as value
use Rattle.meaning.specs.Value.{Value, Given, given, absent}

-- one with a name and one without differ
pub data Name : Type 0 where
  called : List ℕ → Name
  nameless : Name

-- the name that a value is, or else another's
abbrev pub name_by : Value (List ℕ) → Name → Name
name_by (value.name os) n = called os
name_by (value.carried os) n = n
name_by (value.mme v) n = n
name_by (value.mce v) n = n
name_by (value.tmgi v) n = n
name_by (value.one v) n = n
name_by (value.two v) n = n
name_by (value.cause v) n = n
name_by (value.wait v) n = n
name_by (value.reset v) n = n
name_by (value.list v) n = n
name_by (value.diagnostics t v) n = n

abbrev pub name_among : List (Given (List ℕ)) → Name
name_among [] = nameless
name_among (given v ∷ vs) = name_by v (name_among vs)
name_among (absent ∷ vs) = name_among vs
