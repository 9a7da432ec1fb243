-- Scaffolding: no demand speaks of it. Rows whose missing elements can be noted.
use Rattle.std.specs.Prelude.{◌<◌, List, [], ◌∷◌}
use mathlib.Core.HLevel.{×_prop, Unit-prop}
use denote.Struct.Props.{props}
use Rattle.octets.specs.Many.{Each}
use Rattle.rows.specs.declared.Row.{Row}

-- a row's numbers fit those of an entry's word
pub record NumbersFit (r : Row) : Type 0 where
  pub id : r.id < 65536
  pub crit : r.crit < 3

-- in one way at most
row_prop : (r : Row) → IsProp (NumbersFit r)
row_prop r = Prim.hlevel props

pub rows_prop : (t : List Row) → IsProp (Each NumbersFit t)
rows_prop [] = Unit-prop
rows_prop (r ∷ t) = ×_prop (row_prop r) (rows_prop t)
