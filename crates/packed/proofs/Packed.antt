-- Packed fields of an octet, over every width and every place: taken apart by `/` and `%`, put together by `*`, `+` and bit_or.
--     apart      a field is taken out of the octet that it was packed into
--     pad_apart  behind the fields the octet is zero
--     together   a field is put behind others by an or
--     repacked   the fields of an octet, packed again, are the octet but for what stands behind them
-- Assumes nothing.
use mathlib.Core.Path.{◌≡◌, ◌∙◌, sym, ap}
use mathlib.Core.List.{List, [], ◌∷◌, ◌++◌}
use Prim.Native.Nat.{ℕ, zero, suc, ◌+◌, ◌*◌, ◌-◌, ◌/◌, ◌%◌, ◌^◌, ◌<◌, ◌≤◌}
use native.Mathlib.Nat.{mod-eq_of_lt, lt_of_lt_of_le, zero-add, add-zero, add_comm, zero-mul, mul_assoc, add-mul, add_assoc, mul-le-mul_right, add-mul-mod_self_right, sub-zero, mod-lt}
use native.Mathlib.Omega.{arith}
use lib.Bits.{bit_and, bit_or, and_mask, or_shifted}
use lib.Pow.{ones_split, high, field, ones_lt, le_ones, lt_of_le_ones, pow_mono, pow-add, pow_pos, shl_lt, shl_exact, mod-pow-add}
use Rattle.packed.specs.Packed.{bits_of, Field, ◌bits◌, widths, packed_in, packed, Fit, placed}

-- ---- masks

pub ones : (w : ℕ) → w ≤ 8 → 255 / 2 ^ (8 - w) ≡ 2 ^ w - 1
ones w h =
    let e : w + (8 - w) ≡ 8 = omega arith in
    ap (λ (n : ℕ). (2 ^ n - 1) / 2 ^ (8 - w)) (sym e) ∙ (ap (λ (n : ℕ). n / 2 ^ (8 - w)) (ones_split w (8 - w)) ∙ high (2 ^ w - 1) (8 - w) (ones_lt (8 - w)))

pub masked : (x w : ℕ) → w ≤ 8 → bit_and x (255 / 2 ^ (8 - w)) ≡ x % 2 ^ w
masked x w h = rw (ones w h) (and_mask x w)

pub all_low : (x w : ℕ) → 8 ≤ w → x < 256 → x ≡ x % 2 ^ w
all_low x w h l = sym (mod-eq_of_lt (lt_of_lt_of_le l (pow_mono {i = 8} {j = w} h)))

module _ (x b w : ℕ) where
  pub bits_none : w ≡ 0 → 0 ≡ bits_of x b w
  unfolding bits_of
  bits_none h = rw h (omega arith)

  pub bits_low : 8 - b % 8 ≤ w → x % 2 ^ w ≡ bits_of x b w
  unfolding bits_of
  bits_low h = let e : 8 - (b % 8 + w) ≡ 0 = omega arith in rw e (ap (λ (n : ℕ). n % 2 ^ w) (omega arith))

  pub bits_mid : w ≤ 8 → bit_and (x / 2 ^ (8 - (b % 8 + w))) (255 / 2 ^ (8 - w)) ≡ bits_of x b w
  unfolding bits_of
  bits_mid h = masked _ w h

  pub placed_none : w ≡ 0 → 0 ≡ placed b w x
  unfolding placed
  placed_none h = rw h (sym (ap (λ (n : ℕ). n * 2 ^ (8 - (b % 8 + 0))) (omega arith) ∙ zero-mul _))

  pub placed_low : 8 - b % 8 ≤ w → x % 2 ^ w ≡ placed b w x
  unfolding placed
  placed_low h = let e : 8 - (b % 8 + w) ≡ 0 = omega arith in rw e (omega arith)

  pub placed_mid : w < 8 - b % 8 → x % 2 ^ w * 2 ^ (8 - (b % 8 + w)) % 256 ≡ placed b w x
  unfolding placed
  placed_mid h = shl_exact w (8 - (b % 8 + w)) 8 (mod-lt x (pow_pos w)) (omega arith)

-- ---- fields

block_lt : (j k a lo : ℕ) → a < 2 ^ j → lo < 2 ^ k → a * 2 ^ k + lo < 2 ^ (j + k)
block_lt j k a lo ha hl =
    lt_of_le_ones (j + k)
    (let e = ones_split j k in
    let m : a * 2 ^ k ≤ (2 ^ j - 1) * 2 ^ k = mul-le-mul_right (2 ^ k) (le_ones j ha) in
    let l = le_ones k hl in
    omega arith)

pub packed_below : (r : ℕ) (fs : List Field) → Fit r fs → packed_in r fs < 2 ^ r
unfolding packed_in
packed_below r [] h = pow_pos r
packed_below r (f ∷ fs) h =
    let e : f.width + (r - f.width) ≡ r = omega (arith, h.0) in
    rw e at (block_lt f.width (r - f.width) f.value (packed_in (r - f.width) fs) h.1 (packed_below (r - f.width) fs h.2))

pub fit_room : (r : ℕ) (us : List Field) (f : Field) (ls : List Field) → Fit r (us ++ f ∷ ls) → widths us + f.width ≤ r
fit_room r [] f ls h = omega (arith, h.0)
fit_room r (u ∷ us) f ls h = omega (arith, h.0, fit_room (r - u.width) us f ls h.2)

-- what stands above a field is no matter to it
above_away : (a b j w t : ℕ) → (a * 2 ^ (j + (w + t)) + b) / 2 ^ t % 2 ^ w ≡ b / 2 ^ t % 2 ^ w
above_away a b j w t = sym (field _ w t) ∙ (ap (λ (n : ℕ). n / 2 ^ t) e ∙ field b w t)
  where
    e : (a * 2 ^ (j + (w + t)) + b) % 2 ^ (w + t) ≡ b % 2 ^ (w + t)
    e = rw (pow-add 2 j (w + t), ← mul_assoc a (2 ^ j) (2 ^ (w + t)), add_comm (a * 2 ^ j * 2 ^ (w + t)) b) (add-mul-mod_self_right b (a * 2 ^ j) (2 ^ (w + t)))

apart_in : (r : ℕ) (us : List Field) (f : Field) (ls : List Field) → Fit r (us ++ f ∷ ls)
    → packed_in r (us ++ f ∷ ls) / 2 ^ (r - (widths us + f.width)) % 2 ^ f.width ≡ f.value
unfolding packed_in
apart_in r [] f ls h =
    rw (zero-add f.width, high f.value (r - f.width) (packed_below (r - f.width) ls h.2))
    (mod-eq_of_lt h.1)
apart_in r (u ∷ us) f ls h =
    let room = fit_room (r - u.width) us f ls h.2 in
    let t : ℕ = r - (u.width + widths us + f.width) in
    let e : r - u.width - (widths us + f.width) ≡ r - (u.width + widths us + f.width) = omega arith in
    let k : r - u.width ≡ widths us + (f.width + (r - (u.width + widths us + f.width))) = omega (arith, h.0) in
    ap (λ (n : ℕ). (u.value * 2 ^ n + packed_in (r - u.width) (us ++ f ∷ ls)) / 2 ^ (r - (u.width + widths us + f.width)) % 2 ^ f.width) k
    ∙ (above_away u.value (packed_in (r - u.width) (us ++ f ∷ ls)) (widths us) f.width (r - (u.width + widths us + f.width))
    ∙ rw e at (apart_in (r - u.width) us f ls h.2))

pub apart : (us : List Field) (f : Field) (ls : List Field) → Fit 8 (us ++ f ∷ ls) → widths us < 8
    → bits_of (packed (us ++ f ∷ ls)) (widths us) f.width ≡ f.value
unfolding bits_of
apart us f ls h l = rw (mod-eq_of_lt l) (apart_in 8 us f ls h)

packed_more : (r : ℕ) (fs : List Field) (w v : ℕ) → packed_in r (fs ++ w bits v ∷ []) ≡ packed_in r fs + v * 2 ^ (r - (widths fs + w))
unfolding packed_in
packed_more r [] w v = rw (zero-add w) (omega arith)
packed_more r (f ∷ fs) w v =
    let e : r - f.width - (widths fs + w) ≡ r - (f.width + widths fs + w) = omega arith in
    let i : packed_in (r - f.width) (fs ++ w bits v ∷ []) ≡ packed_in (r - f.width) fs + v * 2 ^ (r - (f.width + widths fs + w)) = rw e at (packed_more (r - f.width) fs w v) in
    rw i (sym (add_assoc _ _ _))

-- fields end where the bits behind them begin
packed_whole : (r : ℕ) (fs : List Field) → widths fs ≤ r → (k : ℕ) × (packed_in r fs ≡ k * 2 ^ (r - widths fs))
unfolding packed_in
packed_whole r [] h = (0, sym (zero-mul (2 ^ (r - 0))))
packed_whole r (f ∷ fs) h =
    let i = packed_whole (r - f.width) fs (omega arith) in
    let t : r - f.width - widths fs ≡ r - (f.width + widths fs) = omega arith in
    let e : r - f.width ≡ widths fs + (r - (f.width + widths fs)) = omega arith in
    let p : packed_in (r - f.width) fs ≡ i.0 * 2 ^ (r - (f.width + widths fs)) = rw t at i.1 in
    let q : f.value * 2 ^ (r - f.width) ≡ f.value * 2 ^ widths fs * 2 ^ (r - (f.width + widths fs)) =
    ap (λ (n : ℕ). f.value * 2 ^ n) e ∙ (ap (λ (n : ℕ). f.value * n) (pow-add 2 (widths fs) (r - (f.width + widths fs))) ∙ sym (mul_assoc _ _ _)) in
    (f.value * 2 ^ widths fs + i.0, rw (q, p) (sym (add-mul _ _ _)))

pub together : (fs : List Field) (w v : ℕ) → widths fs + w ≤ 8 → widths fs < 8 → v < 2 ^ w
    → bit_or (packed fs) (placed (widths fs) w v) ≡ packed (fs ++ w bits v ∷ [])
unfolding placed
together fs w v h l b =
    let i = packed_whole 8 fs (omega arith) in
    let e : w + (8 - (widths fs + w)) ≡ 8 - widths fs = omega arith in
    let s : v * 2 ^ (8 - (widths fs + w)) < 2 ^ (8 - widths fs) = rw e at (shl_lt w (8 - (widths fs + w)) b) in
    rw (mod-eq_of_lt b, mod-eq_of_lt l, packed_more 8 fs w v, i.1) (or_shifted i.0 (8 - widths fs) (v * 2 ^ (8 - (widths fs + w))) s)

pub pad_apart : (fs : List Field) → Fit 8 (fs ++ (8 - widths fs) bits 0 ∷ []) → widths fs < 8 → bits_of (packed fs) (widths fs) (8 - widths fs) ≡ 0
pad_apart fs h l = rw (e) at (apart fs ((8 - widths fs) bits 0) [] h l)
  where
    e : packed (fs ++ (8 - widths fs) bits 0 ∷ []) ≡ packed fs
    e = packed_more 8 fs (8 - widths fs) 0 ∙ (ap (λ (n : ℕ). packed fs + n) (zero-mul _) ∙ add-zero _)

-- the fields of these widths in an octet, behind its first b bits
abbrev pub fields_of : ℕ → ℕ → List ℕ → List Field
fields_of x b [] = []
fields_of x b (w ∷ ws) = w bits (bits_of x b w) ∷ fields_of x (b + w) ws

bits_from : (x r w : ℕ) → w ≤ r → r ≤ 8 → bits_of x (8 - r) w ≡ x / 2 ^ (r - w) % 2 ^ w
unfolding bits_of
bits_from x zero w h b = let e : w ≡ 0 = omega arith in rw e (omega arith)
bits_from x (suc r) w h b =
    let m : (8 - suc r) % 8 ≡ 8 - suc r = mod-eq_of_lt (omega arith) in
    let e : 8 - (8 - suc r + w) ≡ suc r - w = omega arith in
    rw (m, e)

repacked_in : (x r : ℕ) (ws : List ℕ) → widths (fields_of x (8 - r) ws) ≤ r → r ≤ 8
    → packed_in r (fields_of x (8 - r) ws) + x % 2 ^ (r - widths (fields_of x (8 - r) ws)) ≡ x % 2 ^ r
unfolding packed_in
repacked_in x r [] h b = rw (sub-zero r, zero-add (x % 2 ^ r))
repacked_in x r (w ∷ ws) h b =
    let e : 8 - r + w ≡ 8 - (r - w) = omega arith in
    let k : w + (r - w) ≡ r = omega arith in
    let g : w + widths (fields_of x (8 - (r - w)) ws) ≤ r = rw e at h in
    let t : r - (w + widths (fields_of x (8 - (r - w)) ws)) ≡ r - w - widths (fields_of x (8 - (r - w)) ws) = omega arith in
    rw (bits_from x r w (omega arith) b, e, t, add_assoc, repacked_in x (r - w) ws (omega arith) (omega arith)) (sym (rw k at (mod-pow-add x w (r - w))))

-- an octet is its fields and what stands behind them
pub repacked : (x : ℕ) (ws : List ℕ) → widths (fields_of x 0 ws) ≤ 8 → x < 256
    → packed (fields_of x 0 ws) + x % 2 ^ (8 - widths (fields_of x 0 ws)) ≡ x
repacked x ws h b = repacked_in x 8 ws h (omega arith) ∙ mod-eq_of_lt b

-- ---- numbers of two octets

-- hi << 8 | lo, at k bits
pub two_octets_lem : (k hi lo : ℕ) → hi * 256 < 2 ^ k → lo < 256 → bit_or (hi * 256 % 2 ^ k) lo ≡ hi * 256 + lo
two_octets_lem k hi lo h l = ap (λ (n : ℕ). bit_or n lo) (mod-eq_of_lt h) ∙ or_shifted hi 8 lo l

pub six_small : (x : ℕ) → bits_of x 2 6 < 64
unfolding bits_of
six_small x = omega arith
