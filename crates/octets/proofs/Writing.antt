-- Stores in a row, and writers one after another.
--     sets_append   octets and then others are both put in
--     sets_out      behind the end nothing is put in
--     wrote_then    a run of writers writes the octets of all
-- Assumes nothing.
use mathlib.Core.Path.{◌≡◌, ◌∙◌, refl, sym, ap}
use mathlib.Core.List.{List, [], ◌∷◌, ◌++◌}
use mathlib.Core.Bool.{Bool, true, false}
use Prim.Native.Nat.{ℕ, suc, min, ◌+◌, ◌/◌, ◌%◌, ◌<◌, ◌≤◌}
use native.Mathlib.Omega.{arith}
use native.Mathlib.Nat.{add-zero}
use borrow.Author.Tests.{ltb-true, ltb-false, lt-ltb, le-ltb}
use lib.Dec.{ltb}
use lib.ListN.{length, set, get_or, take, drop, length-append}
use lib.Seq.{sets, sets-eq, set_out, length-sets, length-take-le}
use Rattle.lists.proofs.Slices.{take_next}
use Rattle.octets.specs.Write.{Wrote, number_octets, length_octets}
use Rattle.packed.specs.Packed.{packed, ◌bits◌}

module _ {A : Type 0} where
  pub sets_append : (l : List A) (i : ℕ) (vs ws : List A) → sets l i (vs ++ ws) ≡ sets (sets l i vs) (i + length vs) ws
  sets_append l i [] ws = rw add-zero
  sets_append l i (v ∷ vs) ws = sets_append (set l i v) (suc i) vs ws ∙ ap (λ (k : ℕ). sets (sets (set l i v) (suc i) vs) k ws) (omega arith)

  pub sets_out : (l : List A) (i : ℕ) (vs : List A) → length l ≤ i → sets l i vs ≡ l
  sets_out l i [] h = refl
  sets_out l i (v ∷ vs) h = rw (set_out l i v h) (sets_out l (suc i) vs (omega arith))

  -- where all fit, they stand in the front, and the rest is kept
  pub sets_front : (l vs : List A) → length vs ≤ length l → sets l 0 vs ≡ vs ++ drop (length vs) l
  sets_front l vs h = let e : 0 + length vs ≡ length vs = omega arith in rw e at (sets-eq vs l 0 (omega arith))

-- one more of a list behind those that were put in
pub sets_next : (l vs : List ℕ) (s i : ℕ) → i < length vs → set (sets l s (take i vs)) (s + i) (get_or vs i 0) ≡ sets l s (take (i + 1) vs)
sets_next l vs s i h =
    let e : length (take i vs) ≡ i = length-take-le i vs (omega arith) in
    sym (ap (sets l s) (take_next vs i 0 h) ∙ (sets_append l s (take i vs) (get_or vs i 0 ∷ []) ∙ ap (λ (k : ℕ). sets (sets l s (take i vs)) (s + k) (get_or vs i 0 ∷ [])) e))

pub wrote_length : {l vs m : List ℕ} {at r : ℕ} → Wrote l at vs m r → length m ≡ length l
wrote_length {l} {vs} {m} {at} w = ap length w.octets ∙ length-sets l at vs

pub wrote_then : {l vs m ws k : List ℕ} {at r q : ℕ} → Wrote l at vs m r → Wrote m r ws k q → Wrote l at (vs ++ ws) k q
wrote_then {l} {vs} {m} {ws} {k} {at} {r} {q} w x = by (ltb (length l) (at + length vs)) refl (wrote_length w) (length-append vs ws) w.next x.next
  where
    by : (b : Bool) → ltb (length l) (at + length vs) ≡ b → length m ≡ length l → length (vs ++ ws) ≡ length vs + length ws
        → r ≡ min (at + length vs) (length l) → q ≡ min (r + length ws) (length m) → Wrote l at (vs ++ ws) k q
    by true e size total next last =
        let h = ltb-true (length l) (at + length vs) e in
        record {
          octets = x.octets ∙ (sets_out m r ws (omega arith) ∙ (w.octets ∙ sym (sets_append l at vs ws ∙ sets_out (sets l at vs) (at + length vs) ws (rw (length-sets l at vs) (omega arith)))));
          next = omega arith;
        }
    by false e size total next last =
        let h = ltb-false (length l) (at + length vs) e in
        let n : r ≡ at + length vs = omega arith in
        record { octets = x.octets ∙ (rw (n, w.octets) (sym (sets_append l at vs ws))); next = omega arith }

pub wrote_none : (l : List ℕ) (at : ℕ) {r : ℕ} → r ≡ min at (length l) → Wrote l at [] l r
wrote_none l at h = record { octets = refl; next = omega arith }

-- one octet, by what the code tests
pub wrote_one : {A : Type 0} (l : List A) (at : ℕ) (v : A) → at < length l → Wrote l at (v ∷ []) (set l at v) (at + 1)
wrote_one l at v h = record { octets = refl; next = omega arith }

pub wrote_past : {A : Type 0} (l : List A) (at : ℕ) (v : A) → length l ≤ at → Wrote l at (v ∷ []) l (length l)
wrote_past l at v h = record { octets = sym (set_out l at v h); next = omega arith }

-- ---- numbers and lengths

pub number_one : (v : ℕ) → v < 256 → number_octets 1 v ≡ v ∷ []
unfolding number_octets
number_one v h = let a : v / 1 % 256 ≡ v = omega arith in rw a

pub number_two : (v : ℕ) → v < 65536 → number_octets 2 v ≡ (v / 256) ∷ (v % 256) ∷ []
unfolding number_octets
number_two v h =
    let a : v / 256 % 256 ≡ v / 256 = omega arith in
    let b : v / 1 % 256 ≡ v % 256 = omega arith in
    rw (a, b)

module _ (n : ℕ) where
  pub length_short : n < 128 → length_octets n ≡ n ∷ []
  unfolding length_octets
  length_short h = simp (lt-ltb n 128 h)

  pub length_long : 128 ≤ n → n < 16384 → length_octets n ≡ packed (2 bits 2 ∷ 6 bits (n / 256) ∷ []) ∷ (n % 256) ∷ []
  unfolding length_octets
  length_long h b = simp (le-ltb n 128 h, lt-ltb n 16384 b)

  pub length_over : 16384 ≤ n → length_octets n ≡ []
  unfolding length_octets
  length_over h = let g : 128 ≤ n = omega arith in simp (le-ltb n 128 g, le-ltb n 16384 h)
