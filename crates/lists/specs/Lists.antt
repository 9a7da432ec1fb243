-- Lists of anything, with tests.
use Rattle.std.specs.Prelude.{Bool, true, false, not, ◌&&◌, ◌||◌, List, [], ◌∷◌, ◌++◌, ℕ, zero, suc, ◌-◌, length, replicate}

-- a case by a test
abbrev pub pick : {A : Type 0} → Bool → A → A → A
pick true a b = a
pick false a b = b

module _ {A : Type 0} where
  -- the elements that pass the test, in order
  abbrev pub keep : (A → Bool) → List A → List A
  keep p [] = []
  keep p (a ∷ l) = pick (p a) (a ∷ []) [] ++ keep p l

  -- some element passes the test
  abbrev pub some : (A → Bool) → List A → Bool
  some p [] = false
  some p (a ∷ l) = p a || some p l

  -- no two elements are alike
  abbrev pub apart : (A → A → Bool) → List A → Bool
  apart alike [] = true
  apart alike (a ∷ l) = not (some (alike a) l) && apart alike l

  -- an array of n: the list in front, d in the rest
  abbrev pub fill : A → ℕ → List A → List A
  fill d n l = l ++ replicate (n - length l) d

-- some number below n passes the test
unfoldable pub upto : (ℕ → Bool) → ℕ → Bool
upto p zero = false
upto p (suc n) = p n || upto p n
