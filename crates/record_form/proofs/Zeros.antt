-- Octets that are all zero are the same as zeros.
-- Assumes nothing.
use mathlib.Core.Path.{◌≡◌, refl, sym}
use mathlib.Core.Bool.{◌&&◌}
use mathlib.Core.List.{List, [], ◌∷◌}
use Prim.Native.Nat.{ℕ, zero, suc, ◌+◌, ◌*◌, ◌-◌, ◌≤◌}
use native.Mathlib.Omega.{arith}
use borrow.Author.Tests.{eq-eqb, eqb-true}
use lib.Dec.{eqb}
use lib.ListN.{length, take, drop, replicate, length-take, length-drop}
use Rattle.lists.proofs.Tests.{both_ways}
use Rattle.lent.specs.Lent.{same}
use Rattle.lent.specs.Tests.{zeros}
use Rattle.record_form.specs.Form.{zeros_at}

pub eqb_sym : (a b : ℕ) → eqb a b ≡ eqb b a
eqb_sym a b = both_ways (eqb a b) (eqb b a) (λ e. eq-eqb b a (sym (eqb-true a b e))) (λ e. eq-eqb a b (sym (eqb-true b a e)))

pub zeros_same : (l : List ℕ) (n : ℕ) → length l ≡ n → zeros l ≡ same (replicate n 0) l
unfolding same zeros
zeros_same [] zero e = refl
zeros_same [] (suc n) e = absurd (omega arith)
zeros_same (x ∷ l) zero e = absurd (omega arith)
zeros_same (x ∷ l) (suc n) e = λ i. eqb_sym x 0 i && zeros_same l n (omega arith) i

-- those behind the slots of n rows
pub zeros_between : (s : List ℕ) (n : ℕ) → n ≤ 12 → length s ≡ 2662 → zeros (take (98 - (2 + 8 * n)) (drop (2 + 8 * n) s)) ≡ zeros_at s (2 + 8 * n) (96 - 8 * n)
zeros_between s n h l =
    let k : 98 - (2 + 8 * n) ≡ 96 - 8 * n = omega arith in
    rw k (zeros_same (take (96 - 8 * n) (drop (2 + 8 * n) s)) (96 - 8 * n) (omega (arith, length-take (96 - 8 * n) (drop (2 + 8 * n) s), length-drop (2 + 8 * n) s)))
