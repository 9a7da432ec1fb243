-- The search for the first message that passes a test, one after another: at i, what is left gives what all give.
-- Assumes nothing.
use Rattle.std.specs.Prelude.{None, Some}
use Prim.Native.Nat.{ℕ, ◌+◌, ◌<◌, ◌≤◌}
use mathlib.Core.Path.{◌≡◌, sym}
use mathlib.Core.Bool.{Bool, true, false, ◌&&◌}
use mathlib.Core.List.{List, ◌∷◌}
use native.Mathlib.Numerals.{add-one}
use lib.Dec.{eqb}
use lib.ListN.{length, get_or, drop, drop_of_length-le}
use lib.Seq.{drop-cons}
use Rattle.editions.specs.declared.Edition.{Edition}
use Rattle.editions.specs.declared.Message.{Message}
use Rattle.editions.specs.declared.Message.TheVariants.{StartRequest}
use Rattle.editions.specs.declared.Head.{Head}
use Rattle.editions.specs.Steps.{Heads}
use Rattle.editions.specs.Editions.{form_of, first_of, code_of, number_of}

-- the tests
abbrev pub framed : Edition → ℕ → ℕ → Message → Bool
framed e kind code m = eqb kind (code_of e m).kind && eqb code (code_of e m).code

-- the test by what a message's head says
pub framed_as : (e : Edition) (m : Message) (kind code : ℕ) {h : Head} {b : Bool} → Heads (form_of e m) h → b ≡ (eqb kind h.1 && eqb code h.2) → framed e kind code m ≡ b
framed_as e m kind code h q = rw (← h.kind, ← h.code) (sym q)

abbrev pub counted : Edition → ℕ → Message → Bool
counted e n m = eqb n (number_of e m)

abbrev pub Left : (Message → Bool) → List Message → ℕ → Type 0
Left p ms i = first_of p (drop i ms) ≡ first_of p ms

module _ (p : Message → Bool) (ms : List Message) (i : ℕ) (left : Left p ms i) where
  next : i < length ms → first_of p (get_or ms i StartRequest ∷ drop (i + 1) ms) ≡ first_of p ms
  next h = rw (add-one, ← drop-cons ms i StartRequest h) left

  pub left_found : i < length ms → p (get_or ms i StartRequest) ≡ true → Some (get_or ms i StartRequest) ≡ first_of p ms
  unfolding first_of
  left_found h e = rw e at (next h)

  pub left_more : i < length ms → p (get_or ms i StartRequest) ≡ false → Left p ms (i + 1)
  unfolding first_of
  left_more h e = rw e at (next h)

  pub left_none : length ms ≤ i → None ≡ first_of p ms
  unfolding first_of
  left_none h = rw (drop_of_length-le ms {i = i} h) at left
