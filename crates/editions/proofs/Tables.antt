-- Each table of each edition is lawful and its rows fit their octets: one computed test for all (table_lawful, rows_fit). What a lawful table gives:
--     lawful_count   at most twelve rows;      lawful_ids   ids are apart, so each row is found by its id, at its place (placed)
--     lawful_rest    without its first row it is lawful; lawful_first   no other row fills what the first fills; fills_apart   nor of any two
-- Assumes nothing.
use Prim.Native.Nat.{ℕ, zero, suc, ◌<◌, ◌≤◌}
use mathlib.Core.Path.{◌≡◌, refl, ap}
use mathlib.Core.Bool.{Bool, true, false, not, ◌&&◌}
use mathlib.Core.List.{List, [], ◌∷◌, ◌++◌, Memᴰ}
use native.Mathlib.Omega.{arith}
use borrow.Author.Tests.{eq-eqb, leb-true, le-leb, lt-ltb, ltb-true, not-true, not-false, eqb-false}
use lib.Dec.{ltb, leb, eqb}
use lib.ListN.{length, get_or}
use Rattle.lists.specs.Lists.{pick, keep, some, apart}
use Rattle.lists.proofs.Tests.{and_left, and_right, or_left, or_right}
use Rattle.lists.proofs.Keep.{mem_keep}
use Rattle.lists.proofs.Some.{none_at}
use Rattle.octets.specs.Many.{Each}
use Rattle.rows.specs.declared.Row.{Row}
use Rattle.rows.specs.Table.{find, no_row}
use Rattle.editions.specs.declared.Edition.{Edition}
use Rattle.editions.specs.declared.Edition.TheVariants.{Release18, Warnings, WarningsLab}
use Rattle.editions.specs.declared.Message.{Message}
use Rattle.editions.specs.Editions.{printed, table_of}
use Rattle.editions.specs.Lawful.{fills, lawful, all_lawful}
use Rattle.editions.proofs.Listed.{all_messages, every}

all_lawful_lem : (e : Edition) → all_lawful e all_messages ≡ true
unfolding printed
all_lawful_lem Release18 = refl
all_lawful_lem Warnings = refl
all_lawful_lem WarningsLab = refl

pub table_lawful : (e : Edition) (m : Message) → lawful (table_of e m) ≡ true
table_lawful e m = every (λ (x : Message). lawful (table_of e x)) (not-true _ (all_lawful_lem e)) m

-- ---- rows fit their octets

pub record Fits (r : Row) : Type 0 where
  pub id : r.id < 65536
  pub crit : r.crit < 3

-- the same as a test
abbrev fits : Row → Bool
fits r = ltb r.id 65536 && ltb r.crit 3

abbrev unfit : List Row → Bool
unfit t = some (λ (r : Row). not (fits r)) t

all_fit : (e : Edition) → some (λ (m : Message). not (not (unfit (table_of e m)))) all_messages ≡ false
unfolding printed
all_fit Release18 = refl
all_fit Warnings = refl
all_fit WarningsLab = refl

row_fits : (r : Row) → fits r ≡ true → Fits r
row_fits r e = record {
  id = ltb-true r.id 65536 (and_left (ltb r.id 65536) _ e);
  crit = ltb-true r.crit 3 (and_right (ltb r.id 65536) _ e);
}

each_fits : (t : List Row) → unfit t ≡ false → Each Fits t
each_fits [] e = tt
each_fits (r ∷ t) e = (row_fits r (not-false (fits r) (or_left (not (fits r)) (unfit t) e)), each_fits t (or_right (not (fits r)) (unfit t) e))

pub rows_fit : (e : Edition) (m : Message) → Each Fits (table_of e m)
rows_fit e m = each_fits (table_of e m) (not-true _ (every (λ (x : Message). not (unfit (table_of e x))) (all_fit e) m))

-- ---- what a lawful table gives

-- two rows of one id
abbrev pub alike : Row → Row → Bool
alike q r = eqb q.id r.id

-- a row that fills something; two that fill the same
abbrev filling : Row → Bool
filling r = ltb 0 (fills r.kind)

abbrev rivals : Row → Row → Bool
rivals r q = eqb (fills r.kind) (fills q.kind)

abbrev short : List Row → Bool
short t = leb (length t) 12

pub lawful_count : (t : List Row) → lawful t ≡ true → length t ≤ 12
lawful_count t e = leb-true (length t) 12 (and_left (short t) (apart alike t) (and_left (short t && apart alike t) _ e))

pub lawful_ids : (t : List Row) → lawful t ≡ true → apart alike t ≡ true
lawful_ids t e = and_right (short t) (apart alike t) (and_left (short t && apart alike t) _ e)

lawful_fills : (t : List Row) → lawful t ≡ true → apart rivals (keep filling t) ≡ true
lawful_fills t e = and_right (short t && apart alike t) _ e

pub lawful_rest : (r : Row) (t : List Row) → lawful (r ∷ t) ≡ true → lawful t ≡ true
lawful_rest r t e =
    let h = lawful_count (r ∷ t) e in
    rw (le-leb (length t) 12 (omega arith), and_right (not (some (alike r) t)) (apart alike t) (lawful_ids (r ∷ t) e)) (by (filling r) (lawful_fills (r ∷ t) e))
  where
    by : (b : Bool) → apart rivals (pick b (r ∷ []) [] ++ keep filling t) ≡ true → apart rivals (keep filling t) ≡ true
    by true h = and_right (not (some (rivals r) (keep filling t))) _ h
    by false h = h

pub lawful_first : (r : Row) (t : List Row) → lawful (r ∷ t) ≡ true → 0 < fills r.kind → (q : Row) → Memᴰ q t → 0 < fills q.kind → fills r.kind ≡ fills q.kind → ⊥
lawful_first r t e h q m k =
    let f : apart rivals (r ∷ keep filling t) ≡ true = by (filling r) (lt-ltb 0 (fills r.kind) h) (lawful_fills (r ∷ t) e) in
    let none = not-true _ (and_left (not (some (rivals r) (keep filling t))) _ f) in
    eqb-false (fills r.kind) (fills q.kind) (none_at (rivals r) ((mem_keep filling t).1 (m, lt-ltb 0 (fills q.kind) k)) none)
  where
    by : (b : Bool) → b ≡ true → apart rivals (pick b (r ∷ []) [] ++ keep filling t) ≡ true → apart rivals (r ∷ keep filling t) ≡ true
    by true p h = h
    by false p h = let z : ◌≡◌ {A = ℕ} 0 1 = cc in absurd (omega arith)

mem_get_d : (t : List Row) (i : ℕ) → i < length t → Memᴰ (get_or t i no_row) t
mem_get_d [] i h = absurd (omega arith)
mem_get_d (r ∷ t) zero h = Memᴰ.head refl
mem_get_d (r ∷ t) (suc i) h = Memᴰ.tail (mem_get_d t i (omega arith))

-- what the row at a place fills
abbrev pub fills_at : List Row → ℕ → ℕ
fills_at t i = fills (get_or t i no_row).kind

pub fills_apart : (t : List Row) (i j : ℕ) → lawful t ≡ true → i < j → j < length t → 0 < fills_at t i → 0 < fills_at t j → fills_at t i ≡ fills_at t j → ⊥
fills_apart [] i j e l h a b = absurd (omega arith)
fills_apart (r ∷ t) i zero e l h a b = absurd (omega arith)
fills_apart (r ∷ t) zero (suc j) e l h a b = lawful_first r t e a (get_or t j no_row) (mem_get_d t j (omega arith)) b
fills_apart (r ∷ t) (suc i) (suc j) e l h a b = fills_apart t i j (lawful_rest r t e) (omega arith) (omega arith) a b

-- ---- each row is found by its id, at its place

pub record Found (t : List Row) (k : ℕ) (r : Row) : Type 0 where
  pub found : find r.id t ≡ k
  pub within : k < length t
  pub row : get_or t k no_row ≡ r

abbrev pub Placed : List Row → ℕ → List Row → Type 0
Placed t k [] = Unit
Placed t k (r ∷ rs) = Found t k r × Placed t (suc k) rs

-- behind another row
found_behind : (q : Row) (t : List Row) (k : ℕ) (r : Row) → alike q r ≡ false → Found t k r → Found (q ∷ t) (suc k) r
unfolding find
found_behind q t k r e f = let h = f.within in record { found = rw e (ap suc f.found); within = omega arith; row = f.row }

placed_behind : (q : Row) (t : List Row) (k : ℕ) (rs : List Row) → some (alike q) rs ≡ false → Placed t k rs → Placed (q ∷ t) (suc k) rs
placed_behind q t k [] e p = tt
placed_behind q t k (r ∷ rs) e p =
    (found_behind q t k r (or_left (alike q r) (some (alike q) rs) e) p.0, placed_behind q t (suc k) rs (or_right (alike q r) (some (alike q) rs) e) p.1)

found_first : (r : Row) (t : List Row) → Found (r ∷ t) 0 r
unfolding find
found_first r t = record { found = rw (eq-eqb r.id r.id refl); within = omega arith; row = refl }

pub placed : (t : List Row) → apart alike t ≡ true → Placed t 0 t
placed [] e = tt
placed (r ∷ t) e =
    (found_first r t, placed_behind r t 0 t (not-true _ (and_left (not (some (alike r) t)) _ e)) (placed t (and_right (not (some (alike r) t)) _ e)))
