-- Fields of an octet.
--     bits_width, bits_fit                   bits, one after another
--     widths_join, fit_join                  fields behind others
--     flag_in, plain_in, choice_in, pad_in   a field is read where it stands among others
--     fields_behind, bit_again, pad_low        fields that stand in an octet
--     octet_again                            and so the octet, if zero stands behind
-- Assumes nothing.
use mathlib.Core.Path.{◌≡◌, ◌∙◌, refl, sym, ap, subst}
use mathlib.Core.Bool.{Bool, true, false}
use mathlib.Core.List.{List, [], ◌∷◌, ◌++◌, map}
use Prim.Native.Nat.{ℕ, ◌+◌, ◌-◌, ◌%◌, ◌^◌, ◌<◌, ◌≤◌}
use native.Mathlib.Omega.{arith}
use native.Mathlib.Nat.{zero-add, add-zero, sub-zero, mod-mod, mod-lt}
use borrow.Author.Tests.{eqb-true, eqb-false}
use lib.Dec.{eqb}
use lib.ListN.{length, get_or}
use lib.Pow.{pow_pos}
use Rattle.std.specs.Prelude.{Ok}
use Rattle.packed.specs.Packed.{bits_of, Field, ◌bits◌, bit, widths, packed, Fit}
use Rattle.octets.specs.Field.{flag_at, plain_at, choice_at, pad_at}
use Rattle.octets.specs.Stands.{Stands, Octets}
use Rattle.packed.proofs.Packed.{fields_of, bits_low}
use Rattle.octets.proofs.Back.{flag_back, plain_back, choice_back, pad_back}
use Rattle.octets.proofs.Again.{packed_again}

-- ---- widths

bit_width : (v : Bool) → (bit v).width ≡ 1
bit_width true = refl
bit_width false = refl

pub bits_width : (vs : List Bool) → widths (map bit vs) ≡ length vs
bits_width [] = refl
bits_width (v ∷ vs) = rw (bit_width v, bits_width vs) (omega arith)

pub widths_join : (us vs : List Field) → widths (us ++ vs) ≡ widths us + widths vs
widths_join [] vs = sym (zero-add _)
widths_join (u ∷ us) vs = rw (widths_join us vs) (omega arith)

pub fit_join : (r : ℕ) (us vs : List Field) → Fit r us → Fit (r - widths us) vs → Fit r (us ++ vs)
fit_join r [] vs a b = rw sub-zero at b
fit_join r (u ∷ us) vs a b =
    let e : r - (u.width + widths us) ≡ r - u.width - widths us = omega arith in
    (a.0, a.1, fit_join (r - u.width) us vs a.2 (rw e at b))

bit_fit : (r : ℕ) (v : Bool) (fs : List Field) → 0 < r → Fit (r - 1) fs → Fit r (bit v ∷ fs)
bit_fit r true fs h k = (omega arith, omega arith, k)
bit_fit r false fs h k = (omega arith, omega arith, k)

pub bits_fit : (r : ℕ) (vs : List Bool) → length vs ≤ r → Fit r (map bit vs)
bits_fit r [] h = tt
bits_fit r (v ∷ vs) h = bit_fit r v (map bit vs) (omega arith) (bits_fit (r - 1) vs (omega arith))

-- ---- reading

pub bits_mod : (x b w : ℕ) → bits_of x (b % 8) w ≡ bits_of x b w
unfolding bits_of
bits_mod x b w = rw (mod-mod b 8)

pub pair_small : (x b : ℕ) → bits_of x b 2 < 4
unfolding bits_of
pair_small x b = mod-lt _ (omega arith)

module _ (s : List ℕ) (at b : ℕ) where
  flag_mod : flag_at s at (b % 8) ≡ flag_at s at b
  unfolding flag_at
  flag_mod = rw (bits_mod (get_or s at 0) b 1)

  plain_mod : plain_at s at (b % 8) ≡ plain_at s at b
  unfolding plain_at
  plain_mod = rw (bits_mod (get_or s at 0) b 1)

  choice_mod : (n w : ℕ) → choice_at n w s at (b % 8) ≡ choice_at n w s at b
  unfolding choice_at
  choice_mod n w = rw (bits_mod (get_or s at 0) b w)

  pad_mod : pad_at s at (b % 8) ≡ pad_at s at b
  unfolding pad_at
  pad_mod = rw (mod-mod b 8, bits_mod (get_or s at 0) b (8 - b % 8))

module _ (s : List ℕ) (at : ℕ) (fs : List Field) (ok : Fit 8 fs) (h : Stands s at (packed fs ∷ [])) where
  module _ (us : List Field) (ls : List Field) (b : ℕ) (w : widths us ≡ b % 8) where
    below : widths us < 8
    below = omega arith

    pub flag_in : (v : Bool) → us ++ bit v ∷ ls ≡ fs → Ok v ≡ flag_at s at b
    flag_in v e =
        flag_back s at us v ls (subst (Fit 8) (sym e) ok) below (subst (λ (x : List Field). Stands s at (packed x ∷ [])) (sym e) h)
        ∙ (ap (flag_at s at) w ∙ flag_mod s at b)

    pub plain_in : us ++ bit false ∷ ls ≡ fs → Ok tt ≡ plain_at s at b
    plain_in e =
        plain_back s at us ls (subst (Fit 8) (sym e) ok) below (subst (λ (x : List Field). Stands s at (packed x ∷ [])) (sym e) h)
        ∙ (ap (plain_at s at) w ∙ plain_mod s at b)

    pub choice_in : (k v n : ℕ) → us ++ k bits v ∷ ls ≡ fs → v < n → Ok v ≡ choice_at n k s at b
    choice_in k v n e l =
        choice_back s at us (k bits v) ls (subst (Fit 8) (sym e) ok) below (subst (λ (x : List Field). Stands s at (packed x ∷ [])) (sym e) h) n l
        ∙ (ap (choice_at n k s at) w ∙ choice_mod s at b n k)

  pub pad_in : (b : ℕ) → widths fs ≡ b % 8 → 0 < widths fs → Ok tt ≡ pad_at s at b
  pad_in b w p =
      pad_back s at fs (fit_join 8 fs ((8 - widths fs) bits 0 ∷ []) ok (omega arith, pow_pos (8 - widths fs), tt)) p (omega arith) h
      ∙ (ap (pad_at s at) w ∙ pad_mod s at b)

-- ---- what stands in an octet

fields_join : (x b : ℕ) (ws vs : List ℕ) → fields_of x b (ws ++ vs) ≡ fields_of x b ws ++ fields_of x (b + widths (fields_of x b ws)) vs
fields_join x b [] vs = rw add-zero
fields_join x b (w ∷ ws) vs =
    let e : b + w + widths (fields_of x (b + w) ws) ≡ b + (w + widths (fields_of x (b + w) ws)) = omega arith in
    rw (fields_join x (b + w) ws vs, e)

pub fields_behind : (x : ℕ) (us : List Field) (ws vs : List ℕ) → us ≡ fields_of x 0 ws → us ++ fields_of x (widths us) vs ≡ fields_of x 0 (ws ++ vs)
fields_behind x us ws vs e = ap (λ (fs : List Field). fs ++ fields_of x (widths fs) vs) e ∙ sym (fields_join x 0 ws vs ∙ rw zero-add)

bit_of : (n : ℕ) → n < 2 → (v : Bool) → v ≡ eqb n 1 → bit v ≡ 1 bits n
bit_of n h true e = rw (eqb-true n 1 (sym e))
bit_of n h false e =
    let k = eqb-false n 1 (sym e) in
    let z : n ≡ 0 = omega arith in
    rw z

pub bit_again : (x b : ℕ) (v : Bool) → v ≡ eqb (bits_of x b 1) 1 → bit v ≡ 1 bits (bits_of x b 1)
unfolding bits_of
bit_again x b v e = bit_of (bits_of x b 1) (mod-lt _ (omega arith)) v e

-- the pad behind fields is zero
pub pad_low : (x b : ℕ) → bits_of x b (8 - b % 8) ≡ 0 → x % 2 ^ (8 - b % 8) ≡ 0
pad_low x b e = bits_low x b (8 - b % 8) (omega arith) ∙ e

pub octet_again : (s : List ℕ) → Octets s → (us : List Field) (q : ℕ) (ws : List ℕ) → us ≡ fields_of (get_or s q 0) 0 ws → q + 1 ≤ length s → widths us ≤ 8
    → get_or s q 0 % 2 ^ (8 - widths us) ≡ 0 → Stands s q (packed us ∷ [])
octet_again s o us q ws e r w z = rw e (packed_again s q ws o r (rw (← e) w) (rw (← e) z))
