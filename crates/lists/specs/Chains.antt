-- Scaffolding: no demand speaks of it. Places in slots, chained: each names the one before it in the same slot. A place is named by one more than itself, and 0 names none.
use Rattle.std.specs.Prelude.{◌≡◌, List, ℕ, zero, suc, ◌<◌, eqb, length, get_or}
use Rattle.lists.specs.Lists.{pick}

-- the last place below i that is in the slot h
unfoldable pub last_in : (ℕ → ℕ) → ℕ → ℕ → ℕ
last_in slot h zero = 0
last_in slot h (suc i) = pick (eqb (slot i) h) (suc i) (last_in slot h i)

-- the chains of the places below i, of m places in s slots: where each slot's chain begins, and how each goes on
pub record Chained (slot : ℕ → ℕ) (s m : ℕ) (head next : List ℕ) (i : ℕ) : Type 0 where
  pub heads : length head ≡ s
  pub nexts : length next ≡ m
  pub first : (h : ℕ) → h < s → get_or head h 0 ≡ last_in slot h i
  pub link : (j : ℕ) → j < i → slot j < s → get_or next j 0 ≡ last_in slot (slot j) j
