-- What was read, written again, is the same octets.
-- Assumes nothing.
use mathlib.Core.Path.{◌≡◌, ◌∙◌, refl, sym, ap}
use mathlib.Core.Bool.{Bool, true, false}
use mathlib.Core.List.{List, [], ◌∷◌, ◌++◌}
use Prim.Native.Nat.{ℕ, zero, suc, ◌+◌, ◌*◌, ◌-◌, ◌/◌, ◌%◌, ◌^◌, ◌<◌, ◌≤◌}
use native.Mathlib.Omega.{arith}
use native.Mathlib.Nat.{mod-eq_of_lt, add-zero, zero-add, zero-mul, mod-one, add_assoc, add-mul, mul_comm, mul_assoc, mul-le-mul_right, pow-suc}
use borrow.Author.Tests.{ltb-true, ltb-false}
use lib.Dec.{ltb}
use lib.ListN.{length, get_or, take, drop}
use lib.Seq.{slice, length-slice}
use lib.Pow.{high}
use Rattle.lists.proofs.Parts.{take_drop}
use Rattle.std.specs.Prelude.{Ok}
use Rattle.packed.specs.Packed.{bits_of, ◌bits◌, widths, packed, packed_in}
use Rattle.octets.specs.Field.{bits_at, pad_at, value_at, number_at, string_at, long_at, length_at, open_at, ends_at}
use Rattle.octets.specs.Write.{number_octets, length_octets}
use Rattle.octets.specs.Stands.{Stands, Fills, Octets}
use Rattle.octets.specs.declared.Part.{Part}
use Rattle.octets.specs.declared.Span.{Span}
use Rattle.packed.proofs.Packed.{bits_low, fields_of, repacked}
use Rattle.octets.proofs.Got.{pad_got, ends_got, number_got, string_got, length_got, Sized, short, long, open_got}
use Rattle.octets.proofs.Stood.{stands_one, stands_more, stands_none, stands_join}
use Rattle.octets.proofs.Back.{octets_pow}
use Rattle.octets.proofs.Writing.{length_short, length_long}

-- fields that were read, with zero behind them
pub packed_again : (s : List ℕ) (at : ℕ) (ws : List ℕ) → Octets s → at + 1 ≤ length s → widths (fields_of (get_or s at 0) 0 ws) ≤ 8
    → get_or s at 0 % 2 ^ (8 - widths (fields_of (get_or s at 0) 0 ws)) ≡ 0 → Stands s at (packed (fields_of (get_or s at 0) 0 ws) ∷ [])
packed_again s at ws o r h z =
    stands_one r (sym (add-zero _) ∙ (ap (λ (n : ℕ). packed (fields_of (get_or s at 0) 0 ws) + n) (sym z) ∙ repacked (get_or s at 0) ws h (o at)))

-- what stands behind the first b bits of an octet, if it is pad that was read
pub pad_zero : (s : List ℕ) (at b : ℕ) → 0 < b → b ≤ 8 → Ok tt ≡ pad_at s at b → get_or s at 0 % 2 ^ (8 - b) ≡ 0
pad_zero s at b p h q = by (ltb b 8) refl
  where
    by : (t : Bool) → ltb b 8 ≡ t → get_or s at 0 % 2 ^ (8 - b) ≡ 0
    by true e =
        let l = ltb-true b 8 e in
        let m : b % 8 ≡ b = mod-eq_of_lt l in
        let z : bits_at s at b (8 - b) ≡ 0 = rw m at (pad_got s at b (λ n. omega arith) q).1 in
        bits_low (get_or s at 0) b (8 - b) (omega arith) ∙ z
    by false e =
        let l = ltb-false b 8 e in
        let k : 8 - b ≡ 0 = omega arith in
        rw k (mod-one (get_or s at 0))

pub value_below : (k : ℕ) (s : List ℕ) (at : ℕ) → Octets s → value_at k s at < 256 ^ k
value_below zero s at o = omega arith
value_below (suc k) s at o =
    let x = o at in
    let m : get_or s at 0 * 256 ^ k ≤ 255 * 256 ^ k = mul-le-mul_right (256 ^ k) (omega arith) in
    let u = value_below k s (at + 1) o in
    rw (pow-suc 256 k) (omega arith)

above : (a k u : ℕ) → u < 256 ^ k → (a * 256 ^ k + u) / 256 ^ k ≡ a
above a k u h = let l : u < 2 ^ (8 * k) = rw (octets_pow k) at h in rw (octets_pow k) (high a (8 * k) l)

-- under whatever stands above it
number_stands : (k : ℕ) (s : List ℕ) (at a : ℕ) → Octets s → at + k ≤ length s → Stands s at (number_octets k (a * 256 ^ k + value_at k s at))
unfolding number_octets
number_stands zero s at a o r = stands_none (omega arith)
number_stands (suc k) s at a o r =
    let x = o at in
    let e : a * 256 ^ suc k + (get_or s at 0 * 256 ^ k + value_at k s (at + 1)) ≡ (a * 256 + get_or s at 0) * 256 ^ k + value_at k s (at + 1) =
    rw (pow-suc 256 k, mul_comm (256 ^ k) 256, ← mul_assoc a 256 (256 ^ k), add-mul (a * 256) (get_or s at 0) (256 ^ k)) (sym (add_assoc _ _ _)) in
    rw (e, above (a * 256 + get_or s at 0) k (value_at k s (at + 1)) (value_below k s (at + 1) o))
    (stands_more (omega arith) (omega arith) (number_stands k s (at + 1) (a * 256 + get_or s at 0) o (omega arith)))

pub number_again : (k : ℕ) (s : List ℕ) (at : ℕ) {v : ℕ} → Octets s → Ok v ≡ number_at k s at → Stands s at (number_octets k v)
number_again k s at {v} o q =
    let n = number_got s at k q in
    let e : 0 * 256 ^ k + value_at k s at ≡ v = ap (λ (x : ℕ). x + value_at k s at) (zero-mul (256 ^ k)) ∙ (zero-add _ ∙ sym n.1) in
    rw e at (number_stands k s at 0 o n.0)

pub string_again : (k : ℕ) (s : List ℕ) (at : ℕ) {vs : List ℕ} → Ok vs ≡ string_at k s at → (length vs ≡ k) × Stands s at vs
string_again k s at {vs} q =
    let n = string_got s at k q in
    let r = n.0 in
    let l = length-slice at (at + k) s r in
    let e : length vs ≡ k = ap length n.1 ∙ (l ∙ omega arith) in
    (e, record { room = omega arith; octets = ap (λ (j : ℕ). take j (drop at s)) e ∙ (take_drop k at s ∙ sym n.1) })

-- octets that stand, and a value that ends where they do
pub fills_again : (s : List ℕ) (at : ℕ) {vs : List ℕ} (n : ℕ) → Stands s at vs → length vs ≡ n → Ok tt ≡ ends_at s (at + n) → Fills s at vs
fills_again s at n h l q = let r = h.room in let k = ends_got s (at + n) q in record { stands = h; ends = omega arith }

-- ---- lengths and what they count

short_form : (s : List ℕ) (at : ℕ) → Octets s → bits_at s at 0 1 ≡ 0 → get_or s at 0 < 128
unfolding bits_of
short_form s at o e = let x = o at in omega arith

long_form : (s : List ℕ) (at : ℕ) → Octets s → (bits_at s at 0 1 ≡ 0 → ⊥) → (bits_at s at 0 2 ≡ 3 → ⊥)
    → (long_at s at < 16384) × (get_or s at 0 ≡ packed (2 bits 2 ∷ 6 bits (long_at s at / 256) ∷ [])) × (get_or s (at + 1) 0 ≡ long_at s at % 256)
unfolding bits_of packed_in
long_form s at o a b =
    let x = o at in
    let y = o (at + 1) in
    (omega arith, omega arith, omega arith)

-- a length that was read
pub record Length (s : List ℕ) (at : ℕ) (n : Part ℕ) : Type 0 where
  pub octets : Stands s at (length_octets n.value)
  pub next : n.next ≡ at + length (length_octets n.value)
  pub small : n.value < 16384

pub length_again : (s : List ℕ) (at : ℕ) {n : Part ℕ} → Octets s → Ok n ≡ length_at s at → Length s at n
length_again s at {n} o q = by n (length_got s at q)
  where
    by : (m : Part ℕ) → Sized s at m → Length s at m
    by m (short r e) =
        let h = short_form s at o e in
        let l = length_short (get_or s at 0) h in
        record { octets = rw l (stands_one r refl); next = rw l; small = omega arith }
    by m (long r a b c) =
        let h = long_form s at o a b in
        let l = length_long (long_at s at) c h.0 in
        record {
          octets = rw l (stands_more (omega arith) (sym h.1) (stands_one (omega arith) (sym h.2)));
          next = rw l;
          small = h.0;
        }

-- an open value that was read
pub record Opened (s : List ℕ) (at : ℕ) (v : Span) : Type 0 where
  pub octets : Stands s at (length_octets (v.to - v.from) ++ slice v.from v.to s)
  pub from : v.from ≡ at + length (length_octets (v.to - v.from))
  pub some : v.from < v.to
  pub ends : v.to ≤ length s
  pub small : v.to - v.from < 16384

pub open_again : (s : List ℕ) (at : ℕ) {v : Span} → Octets s → Ok v ≡ open_at s at → Opened s at v
open_again s at {v} o q =
    let i = open_got s at q in
    let l = length_again s at o i.sized in
    let f = i.from in
    let t = i.to in
    let p = i.some in
    let e : v.to - v.from ≡ i.size.value = omega arith in
    let n : v.from ≡ at + length (length_octets (v.to - v.from)) = rw e (f ∙ l.next) in
    let k = i.ends in
    let z = length-slice v.from v.to s k in
    let b : v.from + (v.to - v.from) ≡ v.to = omega arith in
    record {
      octets = stands_join {vs = length_octets (v.to - v.from)} {ws = slice v.from v.to s} (rw e l.octets)
          (rw (← n) (record { room = omega arith; octets = ap (λ (j : ℕ). take j (drop v.from s)) z ∙ (take_drop (v.to - v.from) v.from s ∙ ap (λ (j : ℕ). slice v.from j s) b) }));
      from = n;
      some = omega arith;
      ends = k;
      small = rw e l.small;
    }
