-- Octets put in at once, as far as there is room.
-- Assumes nothing.
use Rattle.std.proofs.Common.{◌≡◌, ◌∙◌, sym, ap, refl, ℕ, min, ◌+◌, ◌-◌, ◌≤◌, List, [], ◌++◌, length, take, drop, arith, length-drop, replicate}
use mathlib.Core.Bool.{Bool, true, false}
use borrow.Author.Tests.{ltb-true, ltb-false}
use lib.Dec.{ltb}
use lib.ListN.{length-replicate, length-take, take-append-drop, drop_of_length-le}
use lib.Seq.{slice, sets, sets-eq, length-sets, take_all, length-take-le}
use Rattle.std.specs.List.{between}
use Rattle.std.proofs.lemmas.List.{take_min, drop_min, take-replicate}
use Rattle.std.proofs.lemmas.Slice.{put_mid-paste, between_is}
use borrow.Rule.Slice.PartMut.{put_mid}
use Rattle.octets.specs.Write.{Wrote}
use Rattle.octets.proofs.Writing.{sets_append, sets_out}

-- k octets in the middle, all of which are there
sets_mid : (l vs : List ℕ) (at k : ℕ) → length vs ≡ k → at + k ≤ length l → put_mid at k l vs ≡ sets l at vs
sets_mid l vs at k e h =
    put_mid-paste at k l vs vs k refl refl (sym e) ∙ (rw (take_all k vs (omega arith), ← e) refl ∙ sym (sets-eq vs l at (omega arith)))

-- of the octets vs those that fit, k of them, which end where vs or l does
pub wrote_mid : (l vs : List ℕ) (at k : ℕ) {r : ℕ} → at + k ≡ min (at + length vs) (length l) → r ≡ at + k → Wrote l at vs (put_mid at k l (take k vs)) r
wrote_mid l vs at k {r} e q =
    let size : length (take k vs) ≡ k = length-take-le k vs (omega arith) in
    record {
      octets = sets_mid l (take k vs) at k size (omega arith) ∙ (sym (rest (ltb (length l) (at + length vs)) refl) ∙ ap (sets l at) (take-append-drop k vs));
      next = omega arith;
    }
  where
    rest : (b : Bool) → ltb (length l) (at + length vs) ≡ b → sets l at (take k vs ++ drop k vs) ≡ sets l at (take k vs)
    rest true t =
        let o = ltb-true (length l) (at + length vs) t in
        let size : length (take k vs) ≡ k = length-take-le k vs (omega arith) in
        sets_append l at (take k vs) (drop k vs) ∙ sets_out (sets l at (take k vs)) (at + length (take k vs)) (drop k vs) (rw (length-sets l at (take k vs), size) (omega arith))
    rest false t =
        let o = ltb-false (length l) (at + length vs) t in
        sets_append l at (take k vs) (drop k vs) ∙ rw (drop_of_length-le vs {i = k} (omega arith)) refl

-- the same from where the code begins, which is the end where the place lies behind it
wrote_from : (l vs : List ℕ) (at start end : ℕ) → end ≡ min (at + length vs) (length l) → start ≡ min at end → Wrote l at vs (put_mid start (end - start) l (take (end - start) vs)) end
wrote_from l vs at start end e q = by (ltb end at) refl
  where
    by : (b : Bool) → ltb end at ≡ b → Wrote l at vs (put_mid start (end - start) l (take (end - start) vs)) end
    by true t =
        let o = ltb-true end at t in
        let none : end - start ≡ 0 = omega arith in
        let last : start ≡ length l = omega arith in
        record {
          octets = rw (none, last) (sets_mid l [] (length l) 0 refl (omega arith)) ∙ sym (sets_out l at vs (omega arith));
          next = e;
        }
    by false t =
        let o = ltb-false end at t in
        let here : start ≡ at = omega arith in
        rw here (wrote_mid l vs at (end - at) (omega arith) (omega arith))

-- the same, put one by one
pub wrote_each : (l vs : List ℕ) (at start end : ℕ) → end ≡ min (at + length vs) (length l) → start ≡ min at end → {m : List ℕ} → m ≡ sets l start (take (end - start) vs) → Wrote l at vs m end
wrote_each l vs at start end e q h =
    let w = wrote_from l vs at start end e q in
    let k : length (take (end - start) vs) ≡ end - start = length-take-le (end - start) vs (omega arith) in
    record { octets = h ∙ (sym (sets_mid l (take (end - start) vs) start (end - start) k (omega arith)) ∙ w.octets); next = w.next }

-- the same of zeros, as many as the part has octets
pub zeros_from : (l : List ℕ) (n at start end : ℕ) {m : List ℕ} → end ≡ min (at + n) (length l) → start ≡ min at end
    → m ≡ replicate (length (take (end - start) (drop start l))) 0 → Wrote l at (replicate n 0) (put_mid start (end - start) l m) end
zeros_from l n at start end e q z =
    let k : length (take (end - start) (drop start l)) ≡ end - start = length-take (end - start) (drop start l) ∙ (ap (min (end - start)) (length-drop start l) ∙ omega arith) in
    let all : length {A = ℕ} (replicate n 0) ≡ n = length-replicate {A = ℕ} n 0 in
    rw (z, k, ← take-replicate {X = ℕ} (end - start) n 0 (omega arith)) (wrote_from l (replicate n 0) at start end (rw all e) q)

-- the octets from a place up to another, as the code finds them
pub between_places : (s : List ℕ) (from to start end : ℕ) → end ≡ min to (length s) → start ≡ min from end → between start end s ≡ slice from to s
between_places s from to start end e q =
    let cut : take end s ≡ take to s = ap (λ (n : ℕ). take n s) e ∙ take_min to s in
    let size : end ≡ length (take to s) = e ∙ sym (length-take to s) in
    between_is s start end ∙ (ap (drop start) cut ∙ (ap (λ (n : ℕ). drop n (take to s)) (q ∙ ap (min from) size) ∙ drop_min from (take to s)))
