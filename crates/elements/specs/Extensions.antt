-- What the judging makes of the extensions in a container behind the elements.
use Rattle.std.specs.Prelude.{ℕ, ◌≡◌, not, List, [], ◌++◌, map, length}
use Rattle.lists.specs.Lists.{keep}
use Rattle.entries.specs.declared.Entry.{Entry}
use Rattle.rows.specs.declared.Row.{Row}
use Rattle.envelopes.specs.declared.Head.{Head}
use Rattle.elements.specs.Judge.{front, read_of, ignored, unknown_of, missing_of, judged_of}

-- each that is not to be ignored, in order, whatever its id
abbrev pub not_understood : List Head → List Entry
not_understood xs = map (λ (h : Head). record { crit = h.crit; id = h.id; error = 0 }) (keep (λ (h : Head). not (ignored h.crit)) xs)

pub record ExtensionsJudged (t : List Row) (n : ℕ) (hs xs : List Head) : Type 0 where
  -- where all elements count: behind the unknown ones, before what is missing
  pub listed : length (front t 0 hs) ≡ n → (judged_of t n hs xs).listed ≡ unknown_of t (front t 0 hs) ++ (not_understood xs ++ missing_of t (read_of t (front t 0 hs)))
  -- where not all do, no extension counts
  pub unseen : (length (front t 0 hs) ≡ n → ⊥) → (judged_of t n hs xs).listed ≡ unknown_of t (front t 0 hs)
  -- the place and the values are as without extensions
  pub place : (judged_of t n hs xs).place ≡ (judged_of t n hs []).place
  pub spans : (judged_of t n hs xs).spans ≡ (judged_of t n hs []).spans
