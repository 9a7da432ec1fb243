-- Scaffolding: no demand speaks of it. Criticality Diagnostics whose entries words say; and what the steps of the writer put, by the octet that has begun and how many of its bits are used.
use Rattle.std.specs.Prelude.{ℕ, ◌+◌, ◌*◌, List, [], ◌∷◌, map, ltb, eqb, length, None, Option, Some}
use Rattle.std.specs.Int.Bits.{bit_or}
use Rattle.lists.specs.Lists.{pick}
use Rattle.packed.specs.Packed.{placed}
use Rattle.octets.specs.Write.{number_octets}
use Rattle.diagnostics.specs.declared.Head.{Head}
use Rattle.diagnostics.specs.Diagnostics.{Diagnostics}
use Rattle.diagnostics.specs.Written.{head_octets}
use Rattle.entry_words.specs.EntryWords.{entry_by}

-- words say the entries, if there is a list
abbrev pub listed_by : Head → List ℕ → Diagnostics
listed_by h ws = record { head = h; entries = pick h.listed (map entry_by ws) [] }

-- how many octets n entries make of Criticality Diagnostics: a number before them, three for each, and the type of error of the last
abbrev pub listed_size : Head → ℕ → ℕ
listed_size h n = length (head_octets h) + pick h.listed (2 + 3 * n) 0

-- numbers of two bits each
unfoldable pub pairs_from : ℕ → ℕ → List ℕ → List ℕ
pairs_from x b [] = pick (eqb b 0) [] (x ∷ [])
pairs_from x b (v ∷ vs) =
    let y = bit_or x (placed b 2 v) in
    pick (ltb (b + 2) 8) (pairs_from y (b + 2) vs) (y ∷ pairs_from 0 0 vs)

-- an entry up to its id
abbrev pub entry_octets : ℕ → ℕ → ℕ → ℕ → List ℕ
entry_octets x b crit id = bit_or x (placed (b + 2) 2 crit) ∷ number_octets 2 id

-- the bits of a field, if it is there
abbrev pub bits_for : Option ℕ → ℕ → ℕ
bits_for (Some v) w = w
bits_for None w = 0
