-- What is shown of a unit is what it holds: `stands_for` is what the console takes a record of the host's for.
use Rattle.std.specs.Prelude.{ℕ, ◌≤◌, ◌<◌, ◌≡◌, List, map, length, get_or}
use Rattle.identity.specs.declared.Tmgi.{Tmgi}
use Rattle.table.specs.declared.Association.{Association}
use Rattle.table.specs.Table.{empty_association}
use Rattle.units.specs.Unit.{Unit, is_unit, read_unit}
use Rattle.console.specs.Console.{stands_for, counted, counted_run}
use Rattle.view.specs.View.{record_of, row_for, count_for}

pub record Shows : Type 0 where
  -- each row that is held stands for what is held there, in order
  pub each : (u : Unit) (k : ℕ) → k < length u.held → stands_for (row_for (is_unit u) k).association ≡ get_or u.held k empty_association
  -- behind the last there are zeros
  pub behind : (u : Unit) (k : ℕ) → length u.held ≤ k → (row_for (is_unit u) k).association ≡ record_of empty_association
  -- two associations that differ are handed back as records that differ,
  pub different : (a b : Association) → record_of a ≡ record_of b → a ≡ b
  -- and so units whose rows are all handed back alike hold the same
  pub same : (u v : Unit) → ((k : ℕ) → row_for (is_unit u) k ≡ row_for (is_unit v) k) → u.held ≡ v.held
  -- the count is the one that the console gives for a run of what is held
  pub count : (s : List ℕ) (u : Unit) → read_unit s ≡ is_unit u → (t : Tmgi) → count_for (read_unit s) t ≡ counted t u.held
  -- of the records that are handed back too: they are of the one link that there is
  pub run : (u : Unit) (t : Tmgi) → counted_run t (map record_of u.held) ≡ counted t u.held
