-- The MCE Name, from octet at to the end of s: MCEname ::= PrintableString (SIZE (1..150,...)), as 9.3.5 and X.691 lay it out.
use Rattle.std.specs.Prelude.{ℕ, zero, suc, ◌+◌, ◌*◌, Bool, true, ◌&&◌, ◌||◌, List, [], ◌∷◌, ltb, leb, eqb, length, get_or, Ok, Err}
use Rattle.std.proofs.Math.Seq.{slice}
use Rattle.lists.specs.Lists.{pick, some}
use Rattle.octets.specs.Read.{Read, no_meaning, ◌>>=◌, ◌>>◌}
use Rattle.octets.specs.Field.{bits_at, there, plain_at, pad_at, ends_at}
use Rattle.octets.specs.declared.Span.{Span}

abbrev pub between : ℕ → ℕ → ℕ → Bool
between a b c = leb a c && leb c b

-- space ' ( ) + , - . / : = ?
abbrev pub signs : List ℕ
signs = 0x20 ∷ 0x27 ∷ 0x28 ∷ 0x29 ∷ 0x2B ∷ 0x2C ∷ 0x2D ∷ 0x2E ∷ 0x2F ∷ 0x3A ∷ 0x3D ∷ 0x3F ∷ []

-- the characters of PrintableString: A to Z, a to z, 0 to 9, and these signs
unfoldable pub printable : ℕ → Bool
printable c = between 0x41 0x5A c || between 0x61 0x7A c || between 0x30 0x39 c || some (eqb c) signs

abbrev pub all_printable : List ℕ → Bool
all_printable [] = true
all_printable (c ∷ cs) = printable c && all_printable cs

-- a name: 1 to 150 characters, each printable
unfoldable pub name_allowed : List ℕ → Bool
name_allowed os = between 1 150 (length os) && all_printable os

-- eight bits across two octets: behind the first bit of one, and the first bit of the next
abbrev pub across_at : List ℕ → ℕ → ℕ
across_at s at = bits_at s at 1 7 * 2 + bits_at s (at + 1) 0 1

-- how many characters: less 1, with 150 meanings; a number that reaches past the end is itself at fault
unfoldable pub size_at : List ℕ → ℕ → Read ℕ
size_at s at = there 2 s at
    (pick (ltb (across_at s at) 150)
    (pick (ltb (length s) (at + 2 + (across_at s at + 1))) (Err (no_meaning at)) (Ok (across_at s at + 1)))
    (Err (no_meaning at)))

-- one character in one octet
unfoldable pub char_at : List ℕ → ℕ → Read Unit
char_at s at = there 1 s at (pick (printable (get_or s at 0)) (Ok tt) (Err (no_meaning at)))

-- n characters, each a field of its own
abbrev pub chars_at : ℕ → List ℕ → ℕ → Read Unit
chars_at zero s at = Ok tt
chars_at (suc n) s at = char_at s at >> chars_at n s (at + 1)

-- no extension; how many; pad; the characters, and where they stand
unfoldable pub name_at : List ℕ → ℕ → Read Span
name_at s at = do
  plain_at s at 0
  n ← size_at s at
  pad_at s (at + 1) 1
  chars_at n s (at + 2)
  ends_at s (at + 2 + n)
  Ok (record { from = at + 2; to = at + 2 + n })

-- the octets of s from one place up to another, if they lie in s
abbrev pub part_in : List ℕ → ℕ → ℕ → List ℕ
part_in s from to = pick (leb to (length s)) (slice from to s) []
