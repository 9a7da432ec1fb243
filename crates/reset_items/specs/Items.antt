-- Scaffolding: no demand speaks of it. Items in lent words.
use Rattle.std.specs.Prelude.{ℕ, ◌≡◌, List, map, length}
use Rattle.std.proofs.lemmas.List.Edits.{sets}
use Rattle.identity.specs.declared.Item.{Item}
use Rattle.item_words.specs.Words.{word_of}

-- these items stand in the front of the words, as far as they go; l and m are the words before and after, r is how many items there are
abbrev pub InFront : List Item → List ℕ → ℕ → List ℕ → Type 0
InFront is l r m = (r ≡ length is) × (m ≡ sets l 0 (map word_of is))
