-- The octets of a name, as 9.3.5 and X.691 lay them out; and which names have octets.
use Rattle.std.specs.Prelude.{ℕ, ◌-◌, ◌/◌, ◌%◌, ◌≡◌, true, false, List, [], ◌∷◌, length}
use Rattle.lists.specs.Lists.{pick}
use Rattle.packed.specs.Packed.{◌bits◌, bit, packed}
use Rattle.names.specs.Names.{name_allowed}

-- no extension, and eight bits with how many less 1, the last of them in the next octet; pad; the characters
abbrev pub sized_octets : List ℕ → List ℕ
sized_octets os = packed (bit false ∷ 7 bits ((length os - 1) / 2) ∷ []) ∷ packed (1 bits ((length os - 1) % 2) ∷ []) ∷ os

-- a name that is not allowed has no octets
unfoldable pub name_octets : List ℕ → List ℕ
name_octets os = pick (name_allowed os) (sized_octets os) []

abbrev pub GoodName : List ℕ → Type 0
GoodName os = name_allowed os ≡ true
