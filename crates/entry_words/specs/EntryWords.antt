-- Scaffolding: no demand speaks of it. Entries as words, and what stands in lent words after a list was read into them.
use Rattle.std.specs.Prelude.{ℕ, ◌+◌, ◌*◌, ◌/◌, ◌%◌, ◌≡◌, List, map, length, Ok, Err}
use Rattle.std.proofs.lemmas.List.Edits.{sets}
use Rattle.octets.specs.Read.{Read}
use Rattle.octets.specs.declared.Part.{Part}
use Rattle.octets.specs.Write.{Wrote}
use Rattle.entries.specs.declared.Entry.{Entry}

-- id, criticality, type of error, from the low end on
abbrev pub entry_word : Entry → ℕ
entry_word e = e.id + 65536 * e.crit + 16777216 * e.error

-- the entry that a word says, whatever it is
abbrev pub entry_by : ℕ → Entry
entry_by w = record { id = w % 65536; crit = w / 65536 % 256; error = w / 16777216 % 256 }

-- l and m are the words before and after, r is the answer
abbrev pub EntriesTaking : Read (List Entry) → List ℕ → Read ℕ → List ℕ → Type 0
EntriesTaking (Ok es) l r m = (r ≡ Ok (length es)) × (m ≡ sets l 0 (map entry_word es))
EntriesTaking (Err x) l r m = (r ≡ Err x) × (m ≡ l)

-- what was read is put in from the place on; nothing is said where reading stops
abbrev pub WroteIf : {A : Type 0} → (A → List ℕ) → Read (Part A) → List ℕ → ℕ → List ℕ → ℕ → Type 0
WroteIf put (Ok p) l at m r = Wrote l at (put p.value) m r
WroteIf put (Err x) l at m r = Unit
