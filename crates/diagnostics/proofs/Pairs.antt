-- Numbers of two bits each, behind the fields of an octet that has begun.
--     begun_none, begun_more, begun_marks   how far the octet goes
--     pairs_length                          how many octets they take
-- Assumes nothing.
use mathlib.Core.Path.{◌≡◌, ◌∙◌, refl, sym, ap}
use mathlib.Core.Bool.{Bool, true, false}
use mathlib.Core.List.{List, [], ◌∷◌, ◌++◌, map}
use Prim.Native.Nat.{ℕ, ◌+◌, ◌*◌, ◌/◌, ◌%◌, ◌<◌}
use native.Mathlib.Omega.{arith}
use native.Mathlib.Nat.{mod-lt}
use borrow.Author.Tests.{ltb-true, ltb-false}
use lib.Dec.{ltb}
use lib.ListN.{length}
use Rattle.lists.specs.Lists.{pick}
use Rattle.packed.specs.Packed.{Field, ◌bits◌, bit, widths, packed, Fit}
use Rattle.diagnostics.specs.declared.Marks.{Marks}
use Rattle.diagnostics.specs.Written.{marks, octet_of, pairs}
use Rattle.diagnostics.proofs.Fields.{bits_width, bits_fit, widths_join, fit_join}

-- the fields of an octet that has begun, up to p bits behind a begin
pub record Begun (us : List Field) (p : ℕ) : Type 0 where
  pub fit : Fit 8 us
  pub width : widths us ≡ p % 8
  pub even : p % 2 ≡ 0
  pub octet : length (octet_of us) ≡ (p % 8 + 7) / 8

pub begun_none : (p : ℕ) → p % 8 ≡ 0 → Begun [] p
begun_none p e = record { fit = tt; width = sym e; even = omega arith; octet = omega arith }

-- with a number more, which has room
abbrev pub more : List Field → ℕ → List Field
more us v = us ++ 2 bits (v % 4) ∷ []

octet_more : (us : List Field) (f : Field) → length (octet_of (us ++ f ∷ [])) ≡ 1
octet_more [] f = refl
octet_more (u ∷ us) f = refl

module _ {us : List Field} {p : ℕ} (b : Begun us p) (v : ℕ) where
  pub more_width : widths (more us v) ≡ p % 8 + 2
  more_width = widths_join us (2 bits (v % 4) ∷ []) ∙ ap (λ (n : ℕ). n + 2) b.width

  pub more_fit : Fit 8 (more us v)
  more_fit =
      let e = b.width in
      let t = b.even in
      fit_join 8 us (2 bits (v % 4) ∷ []) b.fit (omega arith, mod-lt v (omega arith), tt)

  pub begun_more : widths (more us v) < 8 → Begun (more us v) (p + 2)
  begun_more h =
      let w = more_width in
      let t = b.even in
      record { fit = more_fit; width = omega arith; even = omega arith; octet = octet_more us (2 bits (v % 4)) ∙ omega arith }

pub pairs_length : (us : List Field) (vs : List ℕ) (p : ℕ) → Begun us p → length (pairs us vs) ≡ (p % 8 + 2 * length vs + 7) / 8
unfolding pairs
pairs_length us [] p b = b.octet ∙ omega arith
pairs_length us (v ∷ vs) p b =
    by (ltb (widths (more us v)) 8) refl (λ l. pairs_length (more us v) vs (p + 2) (begun_more b v l)) (pairs_length [] vs 0 (begun_none 0 refl))
  where
    by : (t : Bool) → ltb (widths (more us v)) 8 ≡ t
        → (widths (more us v) < 8 → length (pairs (more us v) vs) ≡ ((p + 2) % 8 + 2 * length vs + 7) / 8)
        → length (pairs [] vs) ≡ (0 + 2 * length vs + 7) / 8
        → length (pick t (pairs (more us v) vs) (packed (more us v) ∷ pairs [] vs)) ≡ (p % 8 + 2 * length (v ∷ vs) + 7) / 8
    by true e i j =
        let l = ltb-true (widths (more us v)) 8 e in
        let w = more_width b v in
        let k = i l in
        omega arith
    by false e i j =
        let l = ltb-false (widths (more us v)) 8 e in
        let w = more_width b v in
        let t = b.even in
        omega arith

pub octet_some : (us : List Field) → 0 < widths us → octet_of us ≡ packed us ∷ []
octet_some [] h = absurd (omega arith)
octet_some (u ∷ us) h = refl

-- the six bits that say what is there
pub begun_marks : (m : Marks) → Begun (map bit (marks m)) 6
begun_marks m = record { fit = bits_fit 8 (marks m) (omega arith); width = bits_width (marks m); even = refl; octet = refl }
