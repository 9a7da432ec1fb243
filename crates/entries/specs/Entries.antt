-- The list of Criticality Diagnostics, as 9.3.5 and X.691 lay it out: entries are not aligned to each other.
use Rattle.std.specs.Prelude.{ℕ, ◌+◌, Bool, true, false, List, [], eqb, Ok}
use Rattle.lists.specs.Lists.{pick}
use Rattle.octets.specs.Read.{Read, ◌>>=◌, ◌>>◌}
use Rattle.octets.specs.Field.{plain_at, choice_at, pad_at, number_at, ends_at}
use Rattle.octets.specs.Many.{many}
use Rattle.octets.specs.declared.Part.{Part}
use Rattle.entries.specs.declared.Entry.{Entry}

-- the first entry begins with an octet, each other behind the two bits of the type of error before it
abbrev pub begins : ℕ → ℕ → ℕ
begins from at = pick (eqb at from) 0 2

-- the bits before an entry's id: extension, extensions present, criticality, pad
unfoldable pub crit_at : List ℕ → ℕ → ℕ → Read ℕ
crit_at s at b = do
  plain_at s at b
  plain_at s at (b + 1)
  crit ← choice_at 3 2 s at (b + 2)
  pad_at s at (b + 4)
  Ok crit

-- an entry: its criticality; its id; extension and type of error. Its last octet is also the next one's first
unfoldable pub entry_at : List ℕ → ℕ → ℕ → Read (Part Entry)
entry_at s from at = do
  crit ← crit_at s at (begins from at)
  id ← number_at 2 s (at + 1)
  plain_at s (at + 3) 0
  error ← choice_at 2 1 s (at + 3) 1
  Ok (record { value = record { crit = crit; id = id; error = error }; next = at + 3 })

-- n entries, and the pad behind the last
unfoldable pub entries_at : ℕ → List ℕ → ℕ → Read (List Entry)
entries_at n s at = do
  es ← many (entry_at s at) n at
  pad_at s es.next 2
  ends_at s (es.next + 1)
  Ok es.value

-- 1 to 256 entries: their number less 1, and the entries
unfoldable pub list_at : List ℕ → ℕ → Read (List Entry)
list_at s at = do
  n ← number_at 1 s at
  entries_at (n + 1) s (at + 1)

abbrev pub maybe_list_at : Bool → List ℕ → ℕ → Read (List Entry)
maybe_list_at false s at = ends_at s at >> Ok []
maybe_list_at true s at = list_at s at
