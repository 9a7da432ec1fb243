-- Which parts of octets are names, by the tests in turn.
-- Assumes nothing.
use mathlib.Core.Path.{◌≡◌, ◌∙◌, refl}
use mathlib.Core.Bool.{Bool, true, false, and-false}
use mathlib.Core.List.{List, []}
use Prim.Native.Nat.{ℕ, ◌-◌, ◌<◌, ◌≤◌}
use native.Mathlib.Omega.{arith}
use borrow.Author.Tests.{le-leb, lt-leb, leb-true, leb-false, ltb-true, ltb-false}
use lib.Dec.{leb, ltb}
use lib.ListN.{length}
use lib.Seq.{slice, length-slice}
use Rattle.lists.specs.Lists.{pick}
use Rattle.lists.proofs.Tests.{and_left, and_right}
use Rattle.lists.proofs.Parts.{slice_less}
use Rattle.names.specs.Names.{between, all_printable, name_allowed, chars_at, part_in}
use Rattle.names.specs.Written.{GoodName}
use Rattle.std.specs.Result.{is_ok}
use Rattle.names.proofs.Chars.{chars_pass}

-- how long a name is, and its characters
pub name_size : (os : List ℕ) → GoodName os → (1 ≤ length os) × (length os ≤ 150) × (all_printable os ≡ true)
unfolding name_allowed
name_size os e =
    let s = and_left (between 1 150 (length os)) (all_printable os) e in (
      leb-true 1 (length os) (and_left (leb 1 (length os)) (leb (length os) 150) s),
      leb-true (length os) 150 (and_right (leb 1 (length os)) (leb (length os) 150) s),
      and_right (between 1 150 (length os)) (all_printable os) e,
    )

module _ (s : List ℕ) (from to : ℕ) where
  pub part_in_lem : to ≤ length s → part_in s from to ≡ slice from to s
  part_in_lem h = rw (le-leb to (length s) h)

  pub allowed_out : length s < to → false ≡ name_allowed (part_in s from to)
  unfolding name_allowed
  allowed_out h = rw (lt-leb to (length s) h)

  pub allowed_none : to ≤ from → false ≡ name_allowed (part_in s from to)
  unfolding name_allowed
  allowed_none h = rw (slice_less from to s h) (by (leb to (length s)))
    where
      by : (b : Bool) → false ≡ name_allowed (pick b [] [])
      by true = refl
      by false = refl

  pub allowed_over : to ≤ length s → 150 < to - from → false ≡ name_allowed (part_in s from to)
  unfolding name_allowed
  allowed_over h b = rw (part_in_lem h, length-slice from to s h, lt-leb (to - from) 150 b, and-false (leb 1 (to - from)))

  pub allowed_by : to ≤ length s → from < to → to - from ≤ 150 → is_ok (chars_at (to - from) s from) ≡ name_allowed (part_in s from to)
  unfolding name_allowed
  allowed_by h p b =
      let some : 1 ≤ to - from = omega arith in
      rw (part_in_lem h, length-slice from to s h, le-leb 1 (to - from) some, le-leb (to - from) 150 b) (chars_pass s from to (omega arith) h)

  -- where they are a name, they lie in s
  pub allowed_part : name_allowed (part_in s from to) ≡ true → (to ≤ length s) × (from < to) × (to - from ≤ 150)
  allowed_part e = by (leb to (length s)) (ltb from to) (leb (to - from) 150) refl refl refl
    where
      no : {A : Type 0} → false ≡ name_allowed (part_in s from to) → A
      no f = let z : false ≡ true = f ∙ e in let o : ◌≡◌ {A = ℕ} 0 1 = cc in absurd (omega arith)

      by : (a b c : Bool) → leb to (length s) ≡ a → ltb from to ≡ b → leb (to - from) 150 ≡ c → (to ≤ length s) × (from < to) × (to - from ≤ 150)
      by false b c p q r = no (allowed_out (leb-false to (length s) p))
      by true false c p q r = no (allowed_none (ltb-false from to q))
      by true true false p q r = no (allowed_over (leb-true to (length s) p) (leb-false (to - from) 150 r))
      by true true true p q r = (leb-true to (length s) p, ltb-true from to q, leb-true (to - from) 150 r)
