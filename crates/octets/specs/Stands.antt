-- Octets that stand in others, whatever stands around them.
use Rattle.std.specs.Prelude.{ℕ, ◌+◌, ◌<◌, ◌≤◌, ◌≡◌, List, length, get_or, take, drop}

-- s has the octets vs from the place on
pub record Stands (s : List ℕ) (at : ℕ) (vs : List ℕ) : Type 0 where
  pub room : at + length vs ≤ length s
  pub octets : take (length vs) (drop at s) ≡ vs

-- s has the octets vs from the place on, and nothing behind them
pub record Fills (s : List ℕ) (at : ℕ) (vs : List ℕ) : Type 0 where
  pub stands : Stands s at vs
  pub ends : length s ≡ at + length vs

-- each number of s is an octet's
abbrev pub Octets : List ℕ → Type 0
Octets s = (i : ℕ) → get_or s i 0 < 256

-- Two things which differ stay different: good values with the same octets are the same value.
abbrev pub StaysDifferent : {A : Type 0} → (A → Type 0) → (A → List ℕ) → Type 0
StaysDifferent {A} Good octets = (v w : A) → Good v → Good w → octets v ≡ octets w → v ≡ w
