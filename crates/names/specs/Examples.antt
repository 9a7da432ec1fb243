-- Worked examples: names and their octets; octets that are none, with why and where reading them stops; and what is no name.
use Rattle.std.specs.Prelude.{ℕ, zero, suc, ◌+◌, ◌≡◌, List, [], ◌∷◌, map, length, replicate, Ok, Err}
use Rattle.lists.specs.Lists.{keep}
use Rattle.octets.specs.Read.{cut_short, no_meaning, left_over, extended}
use Rattle.octets.specs.declared.Stop.{Stop}
use Rattle.names.specs.Names.{printable, name_at}
use Rattle.names.specs.Written.{name_octets}

pub record NameExample : Type 0 where
  pub octets : List ℕ
  pub name : List ℕ

pub record RefusedName : Type 0 where
  pub octets : List ℕ
  pub reason : Stop

abbrev pub name_examples : List NameExample
name_examples =
    -- V
    record { octets = 0x00 ∷ 0x00 ∷ 0x56 ∷ []; name = 0x56 ∷ [] }
    -- AB: the last bit of the length stands in the next octet
    ∷ record { octets = 0x00 ∷ 0x80 ∷ 0x41 ∷ 0x42 ∷ []; name = 0x41 ∷ 0x42 ∷ [] }
    -- the longest, and one less
    ∷ record { octets = 0x4A ∷ 0x80 ∷ replicate 150 0x41; name = replicate 150 0x41 }
    ∷ record { octets = 0x4A ∷ 0x00 ∷ replicate 149 0x41; name = replicate 149 0x41 }
    ∷ []

abbrev pub refused_names : List RefusedName
refused_names =
    -- AB@: the third character
    record { octets = 0x01 ∷ 0x00 ∷ 0x41 ∷ 0x42 ∷ 0x40 ∷ []; reason = no_meaning 4 }
    -- 151 characters: the length
    ∷ record { octets = 0x4B ∷ 0x00 ∷ replicate 151 0x41; reason = no_meaning 0 }
    -- two characters of three: the length, before set pad
    ∷ record { octets = 0x01 ∷ 0x00 ∷ 0x41 ∷ 0x42 ∷ []; reason = no_meaning 0 }
    ∷ record { octets = 0x01 ∷ 0x01 ∷ 0x41 ∷ 0x42 ∷ []; reason = no_meaning 0 }
    -- half a length
    ∷ record { octets = 0x00 ∷ []; reason = cut_short 0 }
    -- set pad, before a character
    ∷ record { octets = 0x00 ∷ 0x01 ∷ 0x40 ∷ []; reason = no_meaning 1 }
    -- octets behind the one character
    ∷ record { octets = 0x00 ∷ 0x00 ∷ 0x41 ∷ 0x42 ∷ 0x43 ∷ []; reason = left_over 3 }
    -- an extension
    ∷ record { octets = 0x80 ∷ 0x00 ∷ 0x97 ∷ 0x41 ∷ []; reason = extended 0 }
    ∷ []

-- nothing, 151 characters, and @ * _ & " ; < > ! # % are no names
abbrev pub no_names : List (List ℕ)
no_names =
    [] ∷ replicate 151 0x41
    ∷ map (λ (c : ℕ). c ∷ []) (0x40 ∷ 0x2A ∷ 0x5F ∷ 0x26 ∷ 0x22 ∷ 0x3B ∷ 0x3C ∷ 0x3E ∷ 0x21 ∷ 0x23 ∷ 0x25 ∷ [])

abbrev pub below : ℕ → List ℕ
below zero = []
below (suc n) = n ∷ below n

-- each is written as its octets and read back whole; each refusal stops where it says; what is no name has no octets; there are 74 characters
abbrev pub NamesHold : Type 0
NamesHold =
    (map (λ (e : NameExample). name_octets e.name) name_examples ≡ map (λ (e : NameExample). e.octets) name_examples)
    × (map (λ (e : NameExample). name_at e.octets 0) name_examples ≡ map (λ (e : NameExample). Ok (record { from = 2; to = 2 + length e.name })) name_examples)
    × (map (λ (r : RefusedName). name_at r.octets 0) refused_names ≡ map (λ (r : RefusedName). Err r.reason) refused_names)
    × (map name_octets no_names ≡ map (λ (os : List ℕ). []) no_names)
    × (length (keep printable (below 256)) ≡ 74)
