-- What stands in the octets s at octet at, and of a packed field b bits behind that octet's first. Each field says where its own fault lies.
use Rattle.std.specs.Prelude.{ℕ, zero, suc, ◌+◌, ◌*◌, ◌-◌, ◌%◌, ◌^◌, Bool, List, length, get_or, ltb, eqb, Ok, Err}
use Rattle.std.proofs.Math.Seq.{slice}
use Rattle.lists.specs.Lists.{pick}
use Rattle.packed.specs.Packed.{bits_of}
use Rattle.octets.specs.Read.{Read, cut_short, no_meaning, left_over, extended, ◌>>=◌}
use Rattle.octets.specs.declared.Part.{Part}
use Rattle.octets.specs.declared.Span.{Span}

abbrev pub bits_at : List ℕ → ℕ → ℕ → ℕ → ℕ
bits_at s at b w = bits_of (get_or s at 0) b w

-- a field of n octets is there, or is cut short
abbrev pub there : {A : Type 0} → ℕ → List ℕ → ℕ → Read A → Read A
there n s at x = pick (ltb (length s) (at + n)) (Err (cut_short at)) x

-- a bit that says yes or no
unfoldable pub flag_at : List ℕ → ℕ → ℕ → Read Bool
flag_at s at b = there 1 s at (Ok (eqb (bits_at s at b 1) 1))

-- an extension bit, or one that says that extensions are present
unfoldable pub plain_at : List ℕ → ℕ → ℕ → Read Unit
plain_at s at b = there 1 s at (pick (eqb (bits_at s at b 1) 0) (Ok tt) (Err (extended at)))

-- a number of w bits with n meanings, from 0
unfoldable pub choice_at : ℕ → ℕ → List ℕ → ℕ → ℕ → Read ℕ
choice_at n w s at b = there 1 s at (pick (ltb (bits_at s at b w) n) (Ok (bits_at s at b w)) (Err (no_meaning at)))

-- the rest of an octet, if any, is zero
unfoldable pub pad_at : List ℕ → ℕ → ℕ → Read Unit
pad_at s at b = pick (eqb (b % 8) 0) (Ok tt) (there 1 s at (pick (eqb (bits_at s at b (8 - b % 8)) 0) (Ok tt) (Err (no_meaning at))))

-- the number that k octets say, the highest first
abbrev pub value_at : ℕ → List ℕ → ℕ → ℕ
value_at zero s at = 0
value_at (suc k) s at = get_or s at 0 * 256 ^ k + value_at k s (at + 1)

unfoldable pub number_at : ℕ → List ℕ → ℕ → Read ℕ
number_at k s at = there k s at (Ok (value_at k s at))

-- k octets as they are
unfoldable pub string_at : ℕ → List ℕ → ℕ → Read (List ℕ)
string_at k s at = there k s at (Ok (slice at (at + k) s))

-- two octets that have to say v
unfoldable pub same_at : ℕ → List ℕ → ℕ → Read Unit
same_at v s at = number_at 2 s at >>= λ x. pick (eqb x v) (Ok tt) (Err (no_meaning at))

-- two octets that say a number below n
unfoldable pub below_at : ℕ → List ℕ → ℕ → Read ℕ
below_at n s at = number_at 2 s at >>= λ x. pick (ltb x n) (Ok x) (Err (no_meaning at))

-- a length in fourteen bits: the low six of an octet, and the next octet
abbrev pub long_at : List ℕ → ℕ → ℕ
long_at s at = bits_at s at 2 6 * 256 + get_or s (at + 1) 0

-- the two octets of a length of at least 128
unfoldable pub long_length_at : List ℕ → ℕ → Read (Part ℕ)
long_length_at s at = there 2 s at (pick (ltb (long_at s at) 128) (Err (no_meaning at)) (Ok (record { value = long_at s at; next = at + 2 })))

-- a length. Top bit 0: one octet. Top bits 10: two. Top bits 11: none
unfoldable pub length_at : List ℕ → ℕ → Read (Part ℕ)
length_at s at = there 1 s at
    (pick (eqb (bits_at s at 0 1) 0) (Ok (record { value = get_or s at 0; next = at + 1 }))
    (pick (eqb (bits_at s at 0 2) 3) (Err (no_meaning at)) (long_length_at s at)))

-- a length and the octets that it counts: at least one, and none past the end
unfoldable pub open_at : List ℕ → ℕ → Read Span
open_at s at = length_at s at >>= λ n.
    pick (eqb n.value 0) (Err (no_meaning at))
    (pick (ltb (length s) (n.next + n.value)) (Err (no_meaning at)) (Ok (record { from = n.next; to = n.next + n.value })))

-- a value ends here: octets left over are a fault at their first
unfoldable pub ends_at : List ℕ → ℕ → Read Unit
ends_at s at = pick (ltb at (length s)) (Err (left_over at)) (Ok tt)
