-- A loop that reads n of one kind, from the place from on: those of the list are read, i of them, and the next begins at at.
-- Assumes nothing.
use mathlib.Core.Path.{◌≡◌, ◌∙◌, refl}
use mathlib.Core.List.{List, [], ◌∷◌, ◌++◌}
use Prim.Native.Nat.{ℕ, ◌+◌, ◌-◌, ◌<◌, ◌≤◌}
use native.Mathlib.Omega.{arith}
use native.Mathlib.Nat.{sub-zero}
use lib.ListN.{length, length-append}
use Rattle.std.specs.Prelude.{Ok, Err}
use Rattle.octets.specs.Read.{Read}
use Rattle.octets.specs.Many.{many}
use Rattle.octets.specs.declared.Part.{Part}
use Rattle.octets.specs.declared.Stop.{Stop}
use Rattle.octets.proofs.ManyLaws.{before, before_none, many_none, many_one, many_stop}

pub record Reading {A : Type 0} (one : ℕ → Read (Part A)) (n from : ℕ) (list : List A) (i at : ℕ) : Type 0 where
  pub within : i ≤ n
  pub count : i ≡ length list
  pub rest : before list (many one (n - i) at) ≡ many one n from

module _ {A : Type 0} {one : ℕ → Read (Part A)} {n from : ℕ} where
  pub reading_none : Reading one n from [] 0 from
  reading_none = record { within = omega arith; count = refl; rest = rw sub-zero (before_none _) }

  module _ {list : List A} {i at : ℕ} (g : Reading one n from list i at) where
    pub reading_more : (p : Part A) → i < n → Ok p ≡ one at → Reading one n from (list ++ p.value ∷ []) (i + 1) p.next
    reading_more p h q =
        let k : n - (i + 1) ≡ n - i - 1 = omega arith in
        record { within = omega arith; count = rw length-append (omega (arith, g.count)); rest = rw k (many_one one list (n - i) at (λ e. omega arith) p q ∙ g.rest) }

    pub reading_stop : (x : Stop) → i < n → Err x ≡ one at → Err x ≡ many one n from
    reading_stop x h q = many_stop one list (n - i) at (λ e. omega arith) x q ∙ g.rest

    pub reading_all : n ≤ i → Ok (record { value = list; next = at }) ≡ many one n from
    reading_all h = many_none one list (n - i) at (omega arith) ∙ g.rest
