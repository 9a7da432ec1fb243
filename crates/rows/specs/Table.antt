-- Tables of element rows.
use Rattle.std.specs.Prelude.{ℕ, suc, Bool, false, List, [], ◌∷◌, ltb, eqb, length, get_or}
use Rattle.lists.specs.Lists.{pick}
use Rattle.rows.specs.declared.Kind.{Kind}
use Rattle.rows.specs.declared.Kind.TheVariants.{Carried}
use Rattle.rows.specs.declared.Row.{Row}
use Rattle.rows.specs.declared.table.Rows.{Rows}
use Rattle.rows.specs.declared.Triggers.{Triggers}
use Rattle.rows.specs.declared.Triggers.TheVariants.{Three, Four}

-- the rows that a table has
abbrev pub rows_in : Rows → List Row
rows_in t = t.rows.now

-- the place of an id among rows, or their number
unfoldable pub find : ℕ → List Row → ℕ
find id [] = 0
find id (r ∷ rs) = pick (eqb r.id id) 0 (suc (find id rs))

-- known means in this table
abbrev pub known : List Row → ℕ → Bool
known t id = ltb (find id t) (length t)

abbrev pub no_row : Row
no_row = record { id = 0; crit = 0; kind = Carried; mandatory = false }

-- how the value of an element is read: that of an unknown one is not
abbrev pub kind_of : List Row → ℕ → Kind
kind_of t id = (get_or t (find id t) no_row).kind

-- how many meanings the triggering message of Criticality Diagnostics has
abbrev pub meanings : Triggers → ℕ
meanings Three = 3
meanings Four = 4
