-- Rows gone over one by one: those passed, before what the rest say, are all that they say.
-- Assumes nothing.
use mathlib.Core.Path.{◌≡◌, ◌∙◌, refl, sym, ap}
use mathlib.Core.Bool.{Bool, true, false, not, ◌&&◌, ◌||◌}
use mathlib.Core.List.{List, [], ◌∷◌, ◌++◌, append_assoc, append-nil}
use Prim.Native.Nat.{ℕ, zero, suc, min, ◌+◌, ◌-◌, ◌*◌, ◌≤◌, ◌<◌}
use native.Mathlib.Nat.{sub-zero, mul-zero, add-zero, mul-suc}
use native.Mathlib.Numerals.{add-one}
use native.Mathlib.Omega.{arith}
use borrow.Author.Tests.{le-leb}
use lib.Dec.{ltb}
use lib.ListN.{length, drop}
use lib.Seq.{drop-drop}
use Rattle.lists.specs.Lists.{some}
use Rattle.lists.proofs.Some.{some_append}
use Rattle.octets.specs.Field.{value_at}
use Rattle.entries.specs.declared.Entry.{Entry}
use Rattle.meaning.specs.Written.{entry_good, entries_good}
use Rattle.layout.specs.Rows.{each_row, row_entry}
use Rattle.layout.specs.Record.{lists_in}

pub length_each : {A : Type 0} (one : List ℕ → A) (w n : ℕ) (s : List ℕ) → length (each_row one w n s) ≡ n
unfolding each_row
length_each one w zero s = refl
length_each one w (suc n) s = ap suc (length_each one w n (drop w s))

-- of n rows of w octets, from the place k on, i were passed, and those are the list
pub record Passed {A : Type 0} (one : List ℕ → A) (w n : ℕ) (s : List ℕ) (k : ℕ) (list : List A) (i : ℕ) : Type 0 where
  pub within : i ≤ n
  pub rest : list ++ each_row one w (n - i) (drop (k + w * i) s) ≡ each_row one w n (drop k s)

module _ {A : Type 0} {one : List ℕ → A} {w n : ℕ} {s : List ℕ} {k : ℕ} where
  pub passed_none : Passed one w n s k [] 0
  passed_none = record { within = omega arith; rest = rw (sub-zero, mul-zero, add-zero) }

  module _ {list : List A} {i : ℕ} (g : Passed one w n s k list i) where
    pub passed_more : i < n → Passed one w n s k (list ++ one (drop (k + w * i) s) ∷ []) (i + 1)
    unfolding each_row
    passed_more h =
        let less : n - i ≡ suc (n - (i + 1)) = omega arith in
        let next : k + w * (i + 1) ≡ k + w * i + w = rw (add-one i, mul-suc w i) (omega arith) in
        record {
          within = omega arith;
          rest = append_assoc list _ _ ∙ (rw (next, ← drop-drop w (k + w * i) s) (sym (ap (λ (m : ℕ). list ++ each_row one w m (drop (k + w * i) s)) less)) ∙ g.rest);
        }

    pub passed_all : n ≤ i → list ≡ each_row one w n (drop k s)
    unfolding each_row
    passed_all h = let none : n - i ≡ 0 = omega arith in sym (append-nil list) ∙ rw none at g.rest

-- ---- entries

pub said_count : (s : List ℕ) → length (lists_in s).entries ≡ min (value_at 2 s 1636) 256
said_count s = length_each row_entry 4 (min (value_at 2 s 1636) 256) (drop 1638 s)

pub said_few : (s : List ℕ) → length (lists_in s).entries ≤ 256
said_few s = omega (arith, said_count s)

-- n of them, as many as are said
pub said_all : (s : List ℕ) {n : ℕ} → n ≡ length (lists_in s).entries → each_row row_entry 4 n (drop 1638 s) ≡ (lists_in s).entries
said_all s {n} e = ap (λ (m : ℕ). each_row row_entry 4 m (drop 1638 s)) (e ∙ said_count s)

abbrev bad : Entry → Bool
bad e = not (entry_good e)

pub good_more : (es : List Entry) (e : Entry) {g : Bool} → g ≡ not (some (λ (x : Entry). not (entry_good x)) es)
    → (g && entry_good e) ≡ not (some (λ (x : Entry). not (entry_good x)) (es ++ e ∷ []))
good_more es e {g} q = rw (q, some_append bad es (e ∷ [])) (by (entry_good e) (some bad es))
  where
    by : (a b : Bool) → (not b && a) ≡ not (b || (not a || false))
    by true true = refl
    by true false = refl
    by false true = refl
    by false false = refl

pub all_good : (es : List Entry) {n : ℕ} {g : Bool} → n ≡ length es → n ≤ 256 → g ≡ not (some (λ (x : Entry). not (entry_good x)) es) → (ltb 0 n && g) ≡ entries_good es
all_good es {n} {g} e h q = rw (q, ← e, le-leb n 256 h) (by (ltb 0 n) _)
  where
    by : (a b : Bool) → (a && b) ≡ ((a && true) && b)
    by true b = refl
    by false b = refl
