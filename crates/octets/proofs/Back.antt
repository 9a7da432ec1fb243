-- Reading what was written gives the value, whatever stands around it.
-- Assumes nothing.
use mathlib.Core.Path.{◌≡◌, ◌∙◌, refl, sym, ap}
use mathlib.Core.Bool.{Bool, true, false}
use mathlib.Core.List.{List, [], ◌∷◌, ◌++◌}
use Prim.Native.Nat.{ℕ, zero, suc, ◌+◌, ◌*◌, ◌-◌, ◌/◌, ◌%◌, ◌^◌, ◌<◌, ◌≤◌}
use native.Mathlib.Omega.{arith}
use native.Mathlib.Nat.{mod-eq_of_lt, pow-suc, mod-one}
use borrow.Author.Tests.{lt-ltb, le-ltb, eq-eqb, ne_eqb, ltb-true, ltb-false}
use lib.Dec.{ltb, eqb}
use lib.ListN.{length, get_or}
use lib.Pow.{mod-pow-add, pow-add, pow_pos}
use Rattle.lists.proofs.Parts.{take_drop}
use Rattle.std.specs.Prelude.{Ok}
use Rattle.packed.specs.Packed.{bits_of, Field, ◌bits◌, bit, widths, packed, Fit}
use Rattle.octets.specs.Field.{flag_at, plain_at, choice_at, pad_at, value_at, number_at, string_at, same_at, long_at, long_length_at, length_at, open_at, ends_at}
use Rattle.octets.specs.Write.{number_octets, length_octets}
use Rattle.octets.specs.Stands.{Stands}
use Rattle.packed.proofs.Packed.{apart, pad_apart}
use Rattle.octets.proofs.Chain.{past}
use Rattle.octets.proofs.Stood.{stands_head, stands_split}
use Rattle.octets.proofs.Writing.{length_short, length_long}

-- ---- a field of an octet, between others

module _ (s : List ℕ) (at : ℕ) (us : List Field) (f : Field) (ls : List Field)
    (ok : Fit 8 (us ++ f ∷ ls)) (b : widths us < 8) (h : Stands s at (packed (us ++ f ∷ ls) ∷ [])) where
  field_back : bits_of (get_or s at 0) (widths us) f.width ≡ f.value
  field_back = rw (stands_head h) (apart us f ls ok b)

  pub choice_back : (n : ℕ) → f.value < n → Ok f.value ≡ choice_at n f.width s at (widths us)
  unfolding choice_at
  choice_back n l = rw (le-ltb (length s) (at + 1) h.room, field_back, lt-ltb f.value n l)

module _ (s : List ℕ) (at : ℕ) (us : List Field) (v : Bool) (ls : List Field)
    (ok : Fit 8 (us ++ bit v ∷ ls)) (b : widths us < 8) (h : Stands s at (packed (us ++ bit v ∷ ls) ∷ [])) where
  pub flag_back : Ok v ≡ flag_at s at (widths us)
  unfolding flag_at
  flag_back = rw (le-ltb (length s) (at + 1) h.room) (ap (λ (x : Bool). Ok x) (by v (field_back s at us (bit v) ls ok b h)))
    where
      by : (w : Bool) → bits_of (get_or s at 0) (widths us) (bit w).width ≡ (bit w).value → w ≡ eqb (bits_of (get_or s at 0) (widths us) 1) 1
      by true e = rw e
      by false e = rw e

-- an extension bit that is not set
pub plain_back : (s : List ℕ) (at : ℕ) (us ls : List Field) → Fit 8 (us ++ bit false ∷ ls) → widths us < 8 → Stands s at (packed (us ++ bit false ∷ ls) ∷ [])
    → Ok tt ≡ plain_at s at (widths us)
unfolding plain_at
plain_back s at us ls ok b h = rw (le-ltb (length s) (at + 1) h.room, field_back s at us (bit false) ls ok b h)

pub pad_back : (s : List ℕ) (at : ℕ) (fs : List Field) → Fit 8 (fs ++ (8 - widths fs) bits 0 ∷ []) → 0 < widths fs → widths fs < 8
    → Stands s at (packed fs ∷ []) → Ok tt ≡ pad_at s at (widths fs)
unfolding pad_at
pad_back s at fs ok p b h =
    let m : widths fs % 8 ≡ widths fs = mod-eq_of_lt b in
    let z : bits_of (get_or s at 0) (widths fs) (8 - widths fs) ≡ 0 = rw (stands_head h) (pad_apart fs ok b) in
    rw (m, ne_eqb (widths fs) 0 (λ q. omega arith), le-ltb (length s) (at + 1) h.room, z)

-- fields fit with their pad
fit_pad : (r : ℕ) (fs : List Field) → Fit r fs → Fit r (fs ++ (r - widths fs) bits 0 ∷ [])
fit_pad r [] h = (omega arith, pow_pos (r - 0), tt)
fit_pad r (f ∷ fs) h =
    let k : r - f.width - widths fs ≡ r - (f.width + widths fs) = omega arith in
    (h.0, h.1, rw k at (fit_pad (r - f.width) fs h.2))

-- the pad behind fields, if there is any
pub rest_back : (s : List ℕ) (at : ℕ) (fs : List Field) → Fit 8 fs → 0 < widths fs → widths fs ≤ 8 → Stands s at (packed fs ∷ []) → Ok tt ≡ pad_at s at (widths fs)
unfolding pad_at
rest_back s at fs ok p b h = by (ltb (widths fs) 8) refl
  where
    by : (t : Bool) → ltb (widths fs) 8 ≡ t → Ok tt ≡ pad_at s at (widths fs)
    by true e = pad_back s at fs (fit_pad 8 fs ok) p (ltb-true (widths fs) 8 e) h
    by false e = let l = ltb-false (widths fs) 8 e in let z : widths fs % 8 ≡ 0 = omega arith in rw (eq-eqb (widths fs % 8) 0 z)

-- ---- numbers and strings, over every width

pub octets_pow : (k : ℕ) → 256 ^ k ≡ 2 ^ (8 * k)
octets_pow zero = refl
octets_pow (suc k) =
    let e : 8 * suc k ≡ 8 * k + 8 = omega arith in
    pow-suc 256 k ∙ (ap (λ (n : ℕ). n * 256) (octets_pow k) ∙ (sym (pow-add 2 (8 * k) 8) ∙ ap (λ (n : ℕ). 2 ^ n) (sym e)))

-- a number in one octet more
pub octet_more : (k v : ℕ) → v / 256 ^ k % 256 * 256 ^ k + v % 256 ^ k ≡ v % 256 ^ suc k
octet_more k v =
    let e : 8 + 8 * k ≡ 8 * suc k = omega arith in
    rw (octets_pow (suc k), octets_pow k, ← e) (sym (mod-pow-add v 8 (8 * k)))

pub length_number : (k v : ℕ) → length (number_octets k v) ≡ k
unfolding number_octets
length_number zero v = refl
length_number (suc k) v = ap suc (length_number k v)

value_back : (k : ℕ) (s : List ℕ) (at v : ℕ) → Stands s at (number_octets k v) → value_at k s at ≡ v % 256 ^ k
unfolding number_octets
value_back zero s at v h = sym (mod-one v)
value_back (suc k) s at v h =
    let t = stands_split ((v / 256 ^ k % 256) ∷ []) (number_octets k v) h in
    rw (stands_head h, value_back k s (at + 1) v t.1) (octet_more k v)

pub number_back : (k : ℕ) (s : List ℕ) (at v : ℕ) → v < 256 ^ k → Stands s at (number_octets k v) → Ok v ≡ number_at k s at
unfolding number_at
number_back k s at v b h =
    let r = h.room in
    let l = length_number k v in
    rw (le-ltb (length s) (at + k) (omega arith), value_back k s at v h, mod-eq_of_lt b)

pub string_back : (s : List ℕ) (at : ℕ) (vs : List ℕ) → Stands s at vs → Ok vs ≡ string_at (length vs) s at
unfolding string_at
string_back s at vs h = rw (le-ltb (length s) (at + length vs) h.room) (ap (λ (x : List ℕ). Ok x) (sym h.octets ∙ take_drop (length vs) at s))

pub same_back : (s : List ℕ) (at v : ℕ) → v < 65536 → Stands s at (number_octets 2 v) → Ok tt ≡ same_at v s at
unfolding same_at
same_back s at v b h = past _ v (number_back 2 s at v b h) (rw (eq-eqb v v refl))

-- ---- lengths and what they count

-- the top bits of the two forms
low_top : (x : ℕ) → x < 128 → bits_of x 0 1 ≡ 0
unfolding bits_of
low_top x h = omega arith

ten_top : (x : ℕ) → bits_of x 0 2 ≡ 2 → bits_of x 0 1 ≡ 1
unfolding bits_of
ten_top x h = omega arith

pub length_back : (s : List ℕ) (at n : ℕ) → n < 16384 → Stands s at (length_octets n)
    → Ok (record { value = n; next = at + length (length_octets n) }) ≡ length_at s at
unfolding length_at long_length_at
length_back s at n b h = by (ltb n 128) refl
  where
    by : (t : Bool) → ltb n 128 ≡ t → Ok (record { value = n; next = at + length (length_octets n) }) ≡ length_at s at
    by true e =
        let o : length_octets n ≡ n ∷ [] = length_short n (ltb-true n 128 e) in
        let g : Stands s at (n ∷ []) = rw o at h in
        let x : get_or s at 0 ≡ n = stands_head g in
        let z : bits_of n 0 1 ≡ 0 = low_top n (ltb-true n 128 e) in
        rw (o, le-ltb (length s) (at + 1) g.room, x, z)
    by false e =
        let l = ltb-false n 128 e in
        let o : length_octets n ≡ packed (2 bits 2 ∷ 6 bits (n / 256) ∷ []) ∷ (n % 256) ∷ [] = length_long n l b in
        let g : Stands s at (packed (2 bits 2 ∷ 6 bits (n / 256) ∷ []) ∷ (n % 256) ∷ []) = rw o at h in
        let t = stands_split (packed (2 bits 2 ∷ 6 bits (n / 256) ∷ []) ∷ []) ((n % 256) ∷ []) g in
        let fit : Fit 8 (2 bits 2 ∷ 6 bits (n / 256) ∷ []) = (omega arith, omega arith, (omega arith, omega arith, tt)) in
        let ten : bits_of (get_or s at 0) 0 2 ≡ 2 = field_back s at [] (2 bits 2) (6 bits (n / 256) ∷ []) fit (omega arith) t.0 in
        let six : bits_of (get_or s at 0) 2 6 ≡ n / 256 = field_back s at (2 bits 2 ∷ []) (6 bits (n / 256)) [] fit (omega arith) t.0 in
        let low : get_or s (at + 1) 0 ≡ n % 256 = stands_head t.1 in
        let all : long_at s at ≡ n = omega arith in
        let r = g.room in
        rw (o, le-ltb (length s) (at + 1) (omega arith), ten_top _ ten, ten, le-ltb (length s) (at + 2) r, all, le-ltb n 128 l)

pub open_back : (s : List ℕ) (at : ℕ) (vs : List ℕ) → 0 < length vs → length vs < 16384 → Stands s at (length_octets (length vs) ++ vs)
    → let from = at + length (length_octets (length vs)) in Ok (record { from = from; to = from + length vs }) ≡ open_at s at
unfolding open_at
open_back s at vs p b h =
    let t = stands_split (length_octets (length vs)) vs h in
    let r = t.1.room in
    past _ _ (length_back s at (length vs) b t.0)
    (rw (ne_eqb (length vs) 0 (λ q. omega arith), le-ltb (length s) (at + length (length_octets (length vs)) + length vs) r))

pub ends_back : (s : List ℕ) (at : ℕ) → length s ≤ at → Ok tt ≡ ends_at s at
unfolding ends_at
ends_back s at h = rw (le-ltb at (length s) h)
