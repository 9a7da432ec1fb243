-- The steps of a writer, by what the code tests.
-- Assumes nothing.
use Rattle.std.specs.Prelude.{None, Ok, Some}
use mathlib.Core.Path.{◌≡◌, ◌∙◌, refl, ap, subst}
use mathlib.Core.Bool.{Bool, true, false}
use mathlib.Core.List.{List, [], ◌∷◌, ◌++◌}
use Prim.Native.Nat.{ℕ, ◌+◌, ◌*◌, ◌%◌, ◌<◌, ◌≤◌}
use native.Mathlib.Omega.{arith}
use borrow.Author.Tests.{lt-ltb, le-ltb, ne_eqb, ltb-true, ltb-false}
use lib.Bits.{bit_or, or_zero_l}
use lib.Dec.{ltb, eqb}
use lib.ListN.{length, length-append}
use Rattle.lists.specs.Lists.{pick}
use Rattle.packed.specs.Packed.{◌bits◌, bit, packed, packed_in, placed}
use Rattle.octets.specs.Write.{number_octets, length_octets, Wrote}
use Rattle.octets.proofs.Back.{length_number}
use Rattle.octets.proofs.Writing.{wrote_length, sets_front, length_short, length_long, length_over}
use Rattle.editions.specs.declared.Code.{Code}
use Rattle.plan.specs.Plan.{fitted, Small, element_size, step_of, message_size, opening_octets, Plan}
use Rattle.plan.specs.Written.{Writes, begun_in}

-- ---- sizes

module _ (n : ℕ) where
  pub fit_none : n ≡ 0 → 8193 ≡ fitted n
  unfolding fitted
  fit_none e = rw e

  pub fit_many : 8192 < n → 8193 ≡ fitted n
  unfolding fitted
  fit_many h = let z : n ≡ 0 → ⊥ = λ e. omega arith in rw (ne_eqb n 0 z, lt-ltb 8192 n h)

  pub fit_is : 0 < n → n ≤ 8192 → n ≡ fitted n
  unfolding fitted
  fit_is h k = let z : n ≡ 0 → ⊥ = λ e. omega arith in rw (ne_eqb n 0 z, le-ltb 8192 n k)

  pub length_few : length (length_octets n) ≤ 2
  length_few = by (ltb n 128) refl (ltb n 16384) refl
    where
      by : (a : Bool) → ltb n 128 ≡ a → (b : Bool) → ltb n 16384 ≡ b → length (length_octets n) ≤ 2
      by true e b f = rw (length_short n (ltb-true n 128 e)) (omega arith)
      by false e true f = rw (length_long n (ltb-false n 128 e) (ltb-true n 16384 f)) (omega arith)
      by false e false f = rw (length_over n (ltb-false n 16384 f)) (omega arith)

-- ---- the plan

pub small_step : (p : Plan) (m : Bool) (n i : ℕ) → Small i p → Small (i + 1) (step_of p m n)
unfolding step_of
small_step None m n i s = tt
small_step (Some (c, q)) m n i s = by (eqb n 0) m (ltb 8192 n) (ltb 8192 (q + element_size n)) refl
  where
    by : (a m b d : Bool) → ltb 8192 (q + element_size n) ≡ d
        → Small (i + 1) (pick a (pick m None (Some (c, q))) (pick b None (pick d None (Some (c + 1, q + element_size n)))))
    by true true b d e = tt
    by true false b d e = (omega (arith, s.0), s.1)
    by false m true d e = tt
    by false m false true e = tt
    by false m false false e = (omega (arith, s.0), ltb-false 8192 (q + element_size n) e)

-- ---- octets

pub kind_octet : (v : ℕ) → bit_or 0 (placed 1 2 v) ≡ packed (bit false ∷ 2 bits (v % 4) ∷ [])
unfolding placed packed_in
kind_octet v = or_zero_l (v % 4 * 32) ∙ omega arith

pub crit_octet : (v : ℕ) → bit_or 0 (placed 0 2 v) ≡ packed (2 bits (v % 4) ∷ [])
unfolding placed packed_in
crit_octet v = or_zero_l (v % 4 * 64) ∙ omega arith

pub opening_same : (n count x y : ℕ) (c : Code) → x ≡ bit_or 0 (placed 1 2 c.kind) → y ≡ bit_or 0 (placed 0 2 c.crit)
    → x ∷ c.code ∷ y ∷ (length_octets n ++ (0 ∷ number_octets 2 count)) ≡ opening_octets c n count
unfolding opening_octets packed_in
opening_same n count x y c f g = rw (f, g, kind_octet c.kind, crit_octet c.crit)

pub opening_length : (c : Code) (n count : ℕ) → length (opening_octets c n count) ≡ 6 + length (length_octets n)
unfolding opening_octets
opening_length c n count = omega (arith, length-append (length_octets n) (packed (bit false ∷ []) ∷ number_octets 2 count), length_number 2 count)

-- the same octets; what is written ends in the room
pub wrote_as : {l vs ws m : List ℕ} {at r : ℕ} → vs ≡ ws → Wrote l at vs m r → Wrote l at ws m r
wrote_as {l} {vs} {ws} {m} {at} {r} e w = subst (λ (ys : List ℕ). Wrote l at ys m r) e w

pub wrote_within : {l vs m : List ℕ} {at r : ℕ} → Wrote l at vs m r → r ≤ length m
wrote_within w = omega (arith, w.next, wrote_length w)

-- ---- what stands before the elements

pub begun_front : (l : List ℕ) (c : Code) (n q : ℕ) → message_size q ≤ 8192 → message_size q ≤ length l → {m : List ℕ} {r : ℕ} → Wrote l 0 (opening_octets c (q + 3) n) m r
    → Writes (begun_in l c (Some (n, q))) (Ok r) m
unfolding begun_in
begun_front l c n q h k {m} {r} w =
    let os = opening_octets c (q + 3) n in
    let f : length os ≤ length l = omega (arith, opening_length c (q + 3) n) in
    let e : r ≡ length os = omega (arith, w.next) in
    rw (le-ltb 8192 (message_size q) h, le-ltb (length l) (message_size q) k) (record { answer = ap Ok e; room = w.octets ∙ sets_front l os f })
