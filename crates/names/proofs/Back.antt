-- Reading what was written gives the name, where it ends with what encloses it.
-- Assumes nothing.
use mathlib.Core.Path.{◌≡◌, ◌∙◌, refl, sym, ap}
use mathlib.Core.Bool.{false}
use mathlib.Core.List.{List, [], ◌∷◌}
use Prim.Native.Nat.{ℕ, suc, ◌+◌, ◌-◌, ◌/◌, ◌%◌, ◌≤◌}
use native.Mathlib.Omega.{arith}
use borrow.Author.Tests.{lt-ltb, le-ltb}
use lib.ListN.{length}
use lib.Seq.{slice}
use Rattle.lists.proofs.Parts.{take_drop}
use Rattle.packed.specs.Packed.{◌bits◌, bit, packed, Fit}
use Rattle.packed.proofs.Packed.{apart}
use Rattle.std.specs.Prelude.{Ok}
use Rattle.octets.specs.Field.{bits_at, plain_at, pad_at}
use Rattle.octets.specs.Stands.{Stands, Fills}
use Rattle.octets.proofs.Chain.{past}
use Rattle.octets.proofs.Stood.{stands_head, stands_split}
use Rattle.octets.proofs.Back.{plain_back, rest_back, ends_back}
use Rattle.names.specs.Names.{all_printable, across_at, size_at, chars_at, name_at, part_in}
use Rattle.names.specs.Written.{sized_octets, name_octets, GoodName}
use Rattle.names.proofs.Chars.{pass_got, chars_all}
use Rattle.names.proofs.Allowed.{name_size, part_in_lem}
use Rattle.names.proofs.Put.{name_octets_lem}

-- n - 1 in eight bits, and n octets behind them
module _ (s : List ℕ) (at n : ℕ) (some : 1 ≤ n) (most : n ≤ 150)
    (a : Stands s at (packed (bit false ∷ 7 bits ((n - 1) / 2) ∷ []) ∷ [])) (b : Stands s (at + 1) (packed (1 bits ((n - 1) % 2) ∷ []) ∷ [])) where
  fit : Fit 8 (bit false ∷ 7 bits ((n - 1) / 2) ∷ [])
  fit = (omega arith, omega arith, (omega arith, omega arith, tt))

  fit_next : Fit 8 (1 bits ((n - 1) % 2) ∷ [])
  fit_next = (omega arith, omega arith, tt)

  across_back : across_at s at + 1 ≡ n
  across_back =
      let x : bits_at s at 1 7 ≡ (n - 1) / 2 = rw (stands_head a) (apart (bit false ∷ []) (7 bits ((n - 1) / 2)) [] fit (omega arith)) in
      let y : bits_at s (at + 1) 0 1 ≡ (n - 1) % 2 = rw (stands_head b) (apart [] (1 bits ((n - 1) % 2)) [] fit_next (omega arith)) in
      omega arith

  size_back : at + 2 + n ≤ length s → Ok n ≡ size_at s at
  unfolding size_at
  size_back h =
      let e = across_back in
      rw (le-ltb (length s) (at + 2) (omega arith), lt-ltb (across_at s at) 150 (omega arith), e, le-ltb (length s) (at + 2 + n) h)

  extension_back : Ok tt ≡ plain_at s at 0
  extension_back = plain_back s at [] (7 bits ((n - 1) / 2) ∷ []) fit (omega arith) a

  pad_back : Ok tt ≡ pad_at s (at + 1) 1
  pad_back = rest_back s (at + 1) (1 bits ((n - 1) % 2) ∷ []) fit_next (omega arith) (omega arith) b

part_back : (s : List ℕ) (at : ℕ) (os : List ℕ) → Stands s at os → slice at (at + length os) s ≡ os
part_back s at os h = sym (take_drop (length os) at s) ∙ h.octets

-- where the characters stand, and that they are those of the name
pub name_back : (s : List ℕ) (at : ℕ) (os : List ℕ) → GoodName os → Fills s at (name_octets os)
    → (Ok (record { from = at + 2; to = at + 2 + length os }) ≡ name_at s at) × (part_in s (at + 2) (at + 2 + length os) ≡ os)
unfolding name_at
name_back s at os good f =
    let z : name_octets os ≡ sized_octets os = name_octets_lem os good in
    let g = name_size os good in
    let h : Stands s at (sized_octets os) = rw z at f.stands in
    let e : length s ≡ at + suc (suc (length os)) = rw z at f.ends in
    let a = stands_split (packed (bit false ∷ 7 bits ((length os - 1) / 2) ∷ []) ∷ []) (packed (1 bits ((length os - 1) % 2) ∷ []) ∷ os) h in
    let b = stands_split (packed (1 bits ((length os - 1) % 2) ∷ []) ∷ []) os a.1 in
    let k : at + 1 + 1 ≡ at + 2 = omega arith in
    let o : slice (at + 2) (at + 2 + length os) s ≡ os = part_back s (at + 2) os (rw k at b.1) in
    let chars : Ok tt ≡ chars_at (length os) s (at + 2) = pass_got _ (chars_all (length os) s (at + 2) (omega arith) ∙ (ap all_printable o ∙ g.2)) in (
      past _ tt (extension_back s at (length os) g.0 g.1 a.0 b.0)
          (past _ (length os) (size_back s at (length os) g.0 g.1 a.0 b.0 (omega arith))
          (past _ tt (pad_back s at (length os) g.0 g.1 a.0 b.0)
          (past _ tt chars
          (past _ tt (ends_back s (at + 2 + length os) (omega arith)) refl)))),
      part_in_lem s (at + 2) (at + 2 + length os) (omega arith) ∙ o,
    )
