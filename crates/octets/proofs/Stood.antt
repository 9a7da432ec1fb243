-- Octets that stand in others.
--     stands_around, stands_alone      whatever stands around them, or nothing
--     stands_one, -none, -more, -join  octets, one after another
--     stands_head, -split              and taken apart
--     stands_front, stands_in_front    in a front of the others
--     fills_alone, fills_front         with nothing behind them: nothing around them, or in the front that ends with them
-- Assumes nothing.
use mathlib.Core.Path.{◌≡◌, ◌∙◌, refl, sym, ap}
use mathlib.Core.Bool.{Bool, true, false}
use mathlib.Core.List.{List, [], ◌∷◌, ◌++◌, append_assoc}
use Prim.Native.Nat.{ℕ, suc, ◌+◌, ◌<◌, ◌≤◌}
use native.Mathlib.Omega.{arith}
use borrow.Author.Tests.{ltb-true, ltb-false}
use lib.Dec.{ltb}
use lib.ListN.{length, get_or, take, drop, length-take, length-drop, length-append, get_or-eq_default}
use lib.Seq.{slice, slice_empty, take-add, drop-drop, drop-cons, take_at, drop_at, take-append_seam, drop-append_seam, length-take-le, take-take, take-length, get_or-take}
use Rattle.lists.proofs.Slices.{slice_next}
use Rattle.lists.proofs.Parts.{take_drop}
use Rattle.octets.specs.Stands.{Stands, Fills, Octets}

pub slice_three : (s : List ℕ) (at : ℕ) → at + 3 ≤ length s → slice at (at + 3) s ≡ get_or s at 0 ∷ get_or s (at + 1) 0 ∷ get_or s (at + 2) 0 ∷ []
slice_three s at h =
    let a : at + 1 + 1 ≡ at + 2 = omega arith in
    let b : at + 2 + 1 ≡ at + 3 = omega arith in
    rw (slice_next at (at + 3) s 0 (omega arith) h, slice_next (at + 1) (at + 3) s 0 (omega arith) h, a, slice_next (at + 2) (at + 3) s 0 (omega arith) h, b, slice_empty (at + 3) s)

-- ---- octets that stand in others

-- whatever stands around them
pub stands_around : (p vs q : List ℕ) → Stands (p ++ vs ++ q) (length p) vs
stands_around p vs q =
    let a = length-append (p ++ vs) q in
    let b = length-append p vs in
    record {
      room = omega arith;
      octets = rw (append_assoc p vs q, drop-append_seam p (vs ++ q), take-append_seam vs q);
    }

pub stands_alone : (vs : List ℕ) → Stands vs 0 vs
stands_alone vs = record { room = omega arith; octets = take-length vs }

pub fills_alone : (vs : List ℕ) → Fills vs 0 vs
fills_alone vs = record { stands = stands_alone vs; ends = omega arith }

-- a front of octets is octets
pub octets_front : (s : List ℕ) (n : ℕ) → Octets s → Octets (take n s)
octets_front s n o i = by (ltb i n) refl
  where
    by : (t : Bool) → ltb i n ≡ t → get_or (take n s) i 0 < 256
    by true e = rw (get_or-take n s i 0 (ltb-true i n e)) (o i)
    by false e =
        let h = ltb-false i n e in
        let l : length (take n s) ≤ i = rw (length-take n s) (omega arith) in
        rw (get_or-eq_default (take n s) 0 l) (omega arith)

front_same : (s : List ℕ) (at n to : ℕ) → at + n ≤ to → take n (drop at (take to s)) ≡ take n (drop at s)
front_same s at n to h = take_drop n at (take to s) ∙ (ap (drop at) (take-take (at + n) to s h) ∙ sym (take_drop n at s))

module _ {s : List ℕ} {at : ℕ} where
  pub stands_one : {v : ℕ} → at + 1 ≤ length s → v ≡ get_or s at 0 → Stands s at (v ∷ [])
  stands_one {v} h e =
      let k : at < length s = omega arith in
      record { room = h; octets = ap (take 1) (drop-cons s at 0 k) ∙ ap (λ (x : ℕ). x ∷ []) (sym e) }

  pub stands_none : at ≤ length s → Stands s at []
  stands_none h = record { room = omega arith; octets = refl }

  pub stands_head : {v : ℕ} {vs : List ℕ} → Stands s at (v ∷ vs) → get_or s at 0 ≡ v
  stands_head {v} {vs} h =
      let r = h.room in
      let k : at < length s = omega arith in
      first (get_or s at 0) (drop (suc at) s) (rw (drop-cons s at 0 k) at h.octets)
    where
      first : (x : ℕ) (xs : List ℕ) → take (suc (length vs)) (x ∷ xs) ≡ v ∷ vs → x ≡ v
      first x xs q = cc

  pub stands_split : (vs ws : List ℕ) → Stands s at (vs ++ ws) → Stands s at vs × Stands s (at + length vs) ws
  stands_split vs ws h =
      let n = length-append vs ws in
      let r = h.room in
      let o : take (length vs) (drop at s) ++ take (length ws) (drop (at + length vs) s) ≡ vs ++ ws =
      sym (ap (λ (m : List ℕ). take (length vs) (drop at s) ++ take (length ws) m) (drop-drop (length vs) at s))
      ∙ (sym (take-add (length vs) (length ws) (drop at s)) ∙ (ap (λ (k : ℕ). take k (drop at s)) (sym n) ∙ h.octets)) in
      let d = length-drop at s in
      let l : length (take (length vs) (drop at s)) ≡ length vs = length-take-le (length vs) (drop at s) (omega arith) in (
        record {
          room = omega arith;
          octets = sym (take_at (take (length vs) (drop at s)) _ (length vs) l) ∙ (ap (take (length vs)) o ∙ take-append_seam vs ws);
        },
        record {
          room = omega arith;
          octets = sym (drop_at (take (length vs) (drop at s)) _ (length vs) l) ∙ (ap (drop (length vs)) o ∙ drop-append_seam vs ws);
        },
      )

  pub stands_join : {vs ws : List ℕ} → Stands s at vs → Stands s (at + length vs) ws → Stands s at (vs ++ ws)
  stands_join {vs} {ws} h g =
      let n = length-append vs ws in
      let r = g.room in
      record {
        room = omega arith;
        octets = ap (λ (k : ℕ). take k (drop at s)) n
            ∙ (take-add (length vs) (length ws) (drop at s)
            ∙ (ap (λ (m : List ℕ). take (length vs) (drop at s) ++ take (length ws) m) (drop-drop (length vs) at s)
            ∙ rw (h.octets, g.octets)));
      }

  pub stands_more : {v : ℕ} {vs : List ℕ} → at + 1 ≤ length s → v ≡ get_or s at 0 → Stands s (at + 1) vs → Stands s at (v ∷ vs)
  stands_more {v} {vs} h e g = stands_join {vs = v ∷ []} {ws = vs} (stands_one h e) g

  -- what stands in a front of s stands in s, and back
  pub stands_front : {vs : List ℕ} (to : ℕ) → to ≤ length s → Stands (take to s) at vs → Stands s at vs
  stands_front {vs} to h g =
      let r = g.room in
      let l = length-take-le to s h in
      record { room = omega arith; octets = sym (front_same s at (length vs) to (omega arith)) ∙ g.octets }

  pub stands_in_front : {vs : List ℕ} (to : ℕ) → to ≤ length s → at + length vs ≤ to → Stands s at vs → Stands (take to s) at vs
  stands_in_front {vs} to h b g = record { room = rw (length-take-le to s h) b; octets = front_same s at (length vs) to b ∙ g.octets }

  pub fills_front : {vs : List ℕ} → Stands s at vs → Fills (take (at + length vs) s) at vs
  fills_front {vs} g = record {
    stands = stands_in_front (at + length vs) g.room (omega arith) g;
    ends = length-take-le (at + length vs) s g.room;
  }
