-- What was read, written again, is the same octets.
-- Assumes nothing.
use mathlib.Core.Path.{◌≡◌, ◌∙◌, sym, ap, subst}
use mathlib.Core.Bool.{false}
use mathlib.Core.List.{List, [], ◌∷◌}
use Prim.Native.Nat.{ℕ, ◌+◌, ◌-◌, ◌/◌, ◌%◌, ◌≤◌}
use native.Mathlib.Omega.{arith}
use lib.ListN.{length, get_or, take, drop}
use lib.Seq.{slice, length-slice}
use Rattle.lists.proofs.Parts.{take_drop}
use Rattle.packed.specs.Packed.{◌bits◌, bit, packed}
use Rattle.std.specs.Prelude.{Ok}
use Rattle.octets.specs.Field.{bits_at, plain_at, pad_at, ends_at}
use Rattle.octets.specs.Stands.{Stands, Fills, Octets}
use Rattle.octets.specs.declared.Span.{Span}
use Rattle.octets.proofs.Got.{plain_got}
use Rattle.octets.proofs.Stood.{stands_join}
use Rattle.octets.proofs.Again.{packed_again, pad_zero, fills_again}
use Rattle.names.specs.Names.{size_at, name_at, part_in}
use Rattle.names.specs.Written.{sized_octets, name_octets, GoodName}
use Rattle.names.proofs.Size.{one_small, size_got}
use Rattle.names.proofs.Allowed.{part_in_lem}
use Rattle.names.proofs.Put.{name_octets_lem}
use Rattle.names.proofs.Good.{chars_good, name_parts}

part_again : (s : List ℕ) (at n : ℕ) → at + n ≤ length s → Stands s at (slice at (at + n) s)
part_again s at n h =
    let l : length (slice at (at + n) s) ≡ n = length-slice at (at + n) s h ∙ omega arith in
    record { room = omega arith; octets = ap (λ (j : ℕ). take j (drop at s)) l ∙ take_drop n at s }

-- the octets before the characters, of which there are n
sized_again : (s : List ℕ) (at n : ℕ) → Octets s → Ok tt ≡ plain_at s at 0 → Ok n ≡ size_at s at → Ok tt ≡ pad_at s (at + 1) 1
    → Stands s at (packed (bit false ∷ 7 bits ((n - 1) / 2) ∷ []) ∷ packed (1 bits ((n - 1) % 2) ∷ []) ∷ [])
sized_again s at n o a b d =
    let x = plain_got s at 0 a in
    let z = size_got s at b in
    let i = z.0 in
    let r = z.2 in
    let one = one_small (get_or s (at + 1) 0) in
    let high : bits_at s at 1 7 ≡ (n - 1) / 2 = omega arith in
    let low : bits_at s (at + 1) 0 1 ≡ (n - 1) % 2 = omega arith in
    let f : Stands s at (packed (1 bits bits_at s at 0 1 ∷ 7 bits bits_at s at 1 7 ∷ []) ∷ []) = packed_again s at (1 ∷ 7 ∷ []) o x.0 (omega arith) (omega arith) in
    let g : Stands s (at + 1) (packed (1 bits bits_at s (at + 1) 0 1 ∷ []) ∷ []) =
    packed_again s (at + 1) (1 ∷ []) o (omega arith) (omega arith) (pad_zero s (at + 1) 1 (omega arith) (omega arith) d) in
    stands_join (rw (x.1, high) at f) (rw low at g)

fills_name : (s : List ℕ) (at n : ℕ) → GoodName (slice (at + 2) (at + 2 + n) s) → at + 2 + n ≤ length s
    → Stands s at (packed (bit false ∷ 7 bits ((n - 1) / 2) ∷ []) ∷ packed (1 bits ((n - 1) % 2) ∷ []) ∷ []) → Ok tt ≡ ends_at s (at + 2 + n)
    → Fills s at (name_octets (slice (at + 2) (at + 2 + n) s))
fills_name s at n good r h e =
    let l : length (slice (at + 2) (at + 2 + n) s) ≡ n = length-slice (at + 2) (at + 2 + n) s r ∙ omega arith in
    let g : Stands s at (sized_octets (slice (at + 2) (at + 2 + n) s)) = rw l (stands_join h (part_again s (at + 2) n r)) in
    let k : at + 2 + n ≡ at + (2 + n) = omega arith in
    rw (name_octets_lem (slice (at + 2) (at + 2 + n) s) good) (fills_again s at (2 + n) g (omega arith) (rw k at e))

pub name_again : (s : List ℕ) (at : ℕ) → Octets s → {v : Span} → Ok v ≡ name_at s at → Fills s at (name_octets (part_in s v.from v.to))
name_again s at o {v} q =
    let p = name_parts s at q in
    let z = size_got s at p.size in
    let i = z.0 in
    let j = z.1 in
    let good = chars_good s (at + 2) p.n (omega arith) (omega arith) z.2 p.chars in
    subst (λ (x : Span). Fills s at (name_octets (part_in s x.from x.to))) (sym p.span)
    (rw (part_in_lem s (at + 2) (at + 2 + p.n) z.2) (fills_name s at p.n good z.2 (sized_again s at p.n o p.plain p.size p.pad) p.ends))
