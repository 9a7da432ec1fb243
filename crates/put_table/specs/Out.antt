-- Scaffolding: no demand speaks of it. What is left of octets lent when a table was to be written there.
use Rattle.std.specs.Prelude.{List, ◌++◌, ℕ, min, ◌+◌, ◌*◌, length, take, drop}
use Rattle.lists.specs.Lists.{pick}
use Rattle.octets.specs.Write.{number_octets}
use Rattle.table.specs.Table.{State}
use Rattle.lent.specs.Lent.{table_octets, room}

-- the count, the k rows in front as they stood, and from there on the octets of the table
abbrev pub from_row : ℕ → State → List ℕ → List ℕ
from_row k l d = number_octets 2 (length l) ++ (take (12 * k) (drop 2 d) ++ drop (2 + 12 * k) (table_octets l))

-- a table written from row k on, or from behind its last
abbrev pub table_out : ℕ → State → List ℕ → List ℕ
table_out k l d = pick (room d) (from_row (min k (length l)) l d) d
