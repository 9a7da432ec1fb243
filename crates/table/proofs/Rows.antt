-- The rows that a table holds.
use mathlib.Core.Path.{◌≡◌}
use mathlib.Core.Bool.{Bool}
use Prim.Native.Nat.{ℕ, min, ◌≤◌}
use lib.ListN.{length}
use Rattle.lists.specs.Lists.{keep}
use Rattle.lists.proofs.Fill.{take_fill}
use Rattle.lists.proofs.Filter.{Kept, kept_all}
use Rattle.lists.proofs.Slices.{take_within}
use Rattle.table.specs.Table.{State, unheld, held, table_holding}
use Rattle.table.specs.declared.Association.{Association}
use Rattle.table.specs.declared.Table.{Table}

pub held_of : (l : State) → held (table_holding l) ≡ l
held_of l = take_fill unheld 256 l

-- a filter of the rows within the count into an empty table
module _ (t : Table) (b : length t.rows ≡ 256) {n : ℕ} (e : n ≡ min t.count 256) where
  pub table_kept : {p : Association → Bool} {out : State} {k i : ℕ} → Kept unheld 256 p t.rows n out k i → n ≤ i → record { rows = out; count = k } ≡ table_holding (keep p (held t))
  table_kept g h = let a = kept_all g h in rw (a.0, a.1, take_within t.rows t.count 256 b e)
