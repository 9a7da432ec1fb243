-- Octets as they are, and the number that they say.
-- Assumes nothing.
use Rattle.std.proofs.Common.{◌≡◌, ◌∙◌, sym, ap, refl, ℕ, zero, suc, ◌+◌, ◌<◌, ◌≤◌, List, length, get_or, take, arith}
use Rattle.std.specs.Prelude.{Bool, true, false, Ok, Err}
use borrow.Author.Tests.{le-ltb, lt-ltb}
use lib.Dec.{ltb}
use lib.Seq.{slice, get_or-take, get_or-drop}
use Rattle.lists.specs.Lists.{pick}
use Rattle.octets.specs.declared.Stop.{Stop}
use Rattle.octets.specs.Read.{cut_short}
use Rattle.octets.specs.Field.{value_at, number_at, string_at}
use Rattle.octets.proofs.Chain.{got_stop}
use Rattle.octets.proofs.Got.{string_got}

module _ (k : ℕ) (s : List ℕ) (at : ℕ) where
  pub string_there : {vs : List ℕ} → at + k ≤ length s → vs ≡ slice at (at + k) s → Ok vs ≡ string_at k s at
  unfolding string_at
  string_there h e = rw (le-ltb (length s) (at + k) h, e)

  pub string_short : length s < at + k → Err (cut_short at) ≡ string_at k s at
  unfolding string_at
  string_short h = rw (lt-ltb (length s) (at + k) h) refl

  value_in : (j i : ℕ) → i + j ≤ k → value_at j (slice at (at + k) s) i ≡ value_at j s (at + i)
  value_in zero i h = refl
  value_in (suc j) i h =
      let here : get_or (slice at (at + k) s) i 0 ≡ get_or s (at + i) 0 = get_or-drop at (take (at + k) s) i 0 ∙ get_or-take (at + k) s (at + i) 0 (omega arith) in
      let next : at + (i + 1) ≡ at + i + 1 = omega arith in
      let rest : value_at j (slice at (at + k) s) (i + 1) ≡ value_at j s (at + i + 1) = value_in j (i + 1) (omega arith) ∙ ap (value_at j s) next in
      rw (here, rest)

  -- the number that k octets say, by the octets
  pub number_by : {vs : List ℕ} → Ok vs ≡ string_at k s at → Ok (value_at k vs 0) ≡ number_at k s at
  unfolding number_at
  number_by {vs} q =
      let p = string_got s at k q in
      let here : at + 0 ≡ at = omega arith in
      rw (le-ltb (length s) (at + k) p.0) (ap (λ (v : ℕ). Ok v) (ap (λ (l : List ℕ). value_at k l 0) p.1 ∙ value_in k 0 (omega arith) ∙ ap (value_at k s) here))

  -- where the octets are cut short, so is the number
  pub number_stop : {x : Stop} → Err x ≡ string_at k s at → Err x ≡ number_at k s at
  unfolding number_at string_at
  number_stop q = by (ltb (length s) (at + k)) _ _ q
    where
      by : (b : Bool) (vs : List ℕ) (v : ℕ) {x : Stop} → Err x ≡ pick b (Err (cut_short at)) (Ok vs) → Err x ≡ pick b (Err (cut_short at)) (Ok v)
      by true vs v e = cc
      by false vs v e = got_stop (sym e)
