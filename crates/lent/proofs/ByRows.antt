-- The rows gone over one by one: what is found of those passed.
use Rattle.std.specs.Prelude.{None, Option, Some}
use Rattle.identity.specs.declared.MceId.{MceId}
use Rattle.identity.specs.declared.MmeId.{MmeId}
use mathlib.Core.Path.{◌≡◌, refl, ap, sym, ◌∙◌}
use mathlib.Core.Bool.{Bool, true, false, ◌&&◌, ◌||◌}
use mathlib.Core.List.{List, [], ◌∷◌}
use Prim.Native.Nat.{ℕ, zero, suc, ◌+◌, ◌-◌, ◌*◌, ◌≤◌, ◌<◌}
use native.Mathlib.Omega.{arith}
use borrow.Author.Tests.{le-leb}
use lib.Dec.{leb}
use lib.ListN.{length, get_or, take, drop, set, length-drop, length-set, take-append-drop}
use lib.Seq.{drop-drop, take_all, length-take-le}
use Rattle.lists.specs.Lists.{some, fill}
use Rattle.lists.proofs.Fill.{fill_more}
use Rattle.lists.proofs.Slices.{take_next}
use Rattle.lists.proofs.Some.{some_append, some_nothing}
use Rattle.lists.proofs.Tests.{and_left, or_left, or_right}
use Rattle.table.specs.Table.{State, empty_association, unheld, table_holding, names, has_mme, has_mce, has_pair, full, held_by}
use Rattle.table.specs.declared.Association.{Association}
use Rattle.lent.specs.Lent.{row_of, row_in, rows_of}
use Rattle.lent.specs.Tests.{session_good, rows_good}
use Rattle.lent.proofs.Rows.{length_rows}
use Rattle.lent.proofs.Reading.{tail_part}

rows_at : (n : ℕ) (s : List ℕ) (i : ℕ) (z : Association) → i < n → get_or (rows_of n s) i z ≡ row_of (drop (12 * i) s)
unfolding rows_of
rows_at zero s i z h = absurd (omega arith)
rows_at (suc n) s zero z h = refl
rows_at (suc n) s (suc i) z h =
    let e : 12 * suc i ≡ 12 + 12 * i = omega arith in
    rw (e, ← drop-drop (12 * i) 12 s) (rows_at n (drop 12 s) i z (omega arith))

module _ (s : List ℕ) (n i : ℕ) (h : i < n) (b : 2 + 12 * n ≤ length s) where
  -- twelve octets are there at each row's place
  pub row_there : 12 ≤ length (take (length s - (2 + 12 * i)) (drop (2 + 12 * i) s))
  row_there = rw tail_part (simp length-drop (omega arith))

  -- what is read there is the next row
  pub next_row : (z : Association) {a : Association} → a ≡ row_in (take (length s - (2 + 12 * i)) (drop (2 + 12 * i) s)) → a ≡ get_or (rows_of n (drop 2 s)) i z
  next_row z e =
      e ∙ rw (le-leb 12 _ row_there, tail_part s (2 + 12 * i), ← drop-drop (12 * i) 2 s) (sym (rows_at n (drop 2 s) i z h))

-- ---- of i of n rows the octets were good
pub record GoodTo (s : List ℕ) (n i : ℕ) : Type 0 where
  pub rest : rows_good (n - i) (drop (2 + 12 * i) s) ≡ rows_good n (drop 2 s)

pub good_none : (s : List ℕ) (n : ℕ) → GoodTo s n 0
good_none s n = let z : n - 0 ≡ n = omega arith in record { rest = rw z }

module _ {s : List ℕ} {n i : ℕ} (g : GoodTo s n i) where
  module _ (h : i < n) {b : Bool} (e : b ≡ session_good (get_or (drop (2 + 12 * i) s) 10 0) (get_or (drop (2 + 12 * i) s) 11 0)) where
    good_next : rows_good (n - i) (drop (2 + 12 * i) s) ≡ (b && rows_good (n - (i + 1)) (drop (2 + 12 * (i + 1)) s))
    unfolding rows_good
    good_next =
        let less : n - i ≡ suc (n - (i + 1)) = omega arith in
        let next : 2 + 12 * (i + 1) ≡ 2 + 12 * i + 12 = omega arith in
        rw (e, less, next, drop-drop 12 (2 + 12 * i) s)

    pub good_stop : b ≡ false → rows_good n (drop 2 s) ≡ false
    good_stop f = sym g.rest ∙ good_next ∙ rw f

    pub good_more : b ≡ true → GoodTo s n (i + 1)
    good_more f = record { rest = sym (good_next ∙ rw f) ∙ g.rest }

  pub good_all : n ≤ i → rows_good n (drop 2 s) ≡ true
  unfolding rows_good
  good_all h = let none : n - i ≡ 0 = omega arith in sym g.rest ∙ rw none

-- what passes no weaker test passes no stronger one
pub none_less : {A : Type 0} (p q : A → Bool) → ((a : A) → q a ≡ true → p a ≡ true) → (l : List A) → some p l ≡ false → some q l ≡ false
none_less p q f [] e = refl
none_less p q f (a ∷ l) e = by (q a) refl (none_less p q f l (or_right (p a) (some p l) e))
  where
    by : (b : Bool) → q a ≡ b → some q l ≡ false → (b || some q l) ≡ false
    by true t n = let z : true ≡ false = sym (f a t) ∙ or_left (p a) (some p l) e in cc
    by false t n = n

-- ---- no row of the first i is named
pub record NotTo (p : Association → Bool) (l : State) (i : ℕ) : Type 0 where
  pub within : i ≤ length l
  pub none : some p (take i l) ≡ false

or_none_lem : (b : Bool) → (b || false) ≡ b
or_none_lem true = refl
or_none_lem false = refl

module _ {p : Association → Bool} {l : State} where
  pub not_yet : NotTo p l 0
  not_yet = record { within = omega arith; none = refl }

  module _ {i : ℕ} (g : NotTo p l i) where
    module _ (h : i < length l) {a : Association} (q : a ≡ get_or l i empty_association) {b : Bool} (e : b ≡ p a) where
      with_next : some p (take (i + 1) l) ≡ b
      with_next = ap (some p) (take_next l i empty_association h) ∙ some_append p (take i l) (get_or l i empty_association ∷ []) ∙ rw (g.none, ← q, ← e) (or_none_lem b)

      pub not_more : b ≡ false → NotTo p l (i + 1)
      not_more f = record { within = omega arith; none = with_next ∙ f }

      pub not_found : b ≡ true → some p l ≡ true
      not_found f =
          ap (some p) (sym (take-append-drop (i + 1) l)) ∙ some_append p (take (i + 1) l) (drop (i + 1) l)
          ∙ rw (with_next, f)

    pub not_all : length l ≤ i → some p l ≡ false
    not_all h = ap (some p) (sym (take_all i l h)) ∙ g.none

-- where neither identity is held, no association has both
pub no_pair : (x : Option MmeId) (y : Option MceId) (l : State) → held_by x None l ≡ false → held_by None y l ≡ false → held_by x y l ≡ false
no_pair (Some m) (Some c) l e f = none_less (has_mme m) (has_pair m c) (λ a t. and_left (has_mme m a) (has_mce c a) t) l e
no_pair (Some m) None l e f = e
no_pair None (Some c) l e f = f
no_pair None None l e f = refl

-- some row is named by an item that has these identities
pub held_by_lem : (x : Option MmeId) (y : Option MceId) (l : State) → some (names (record { mme = x; mce = y })) l ≡ held_by x y l
held_by_lem (Some m) (Some c) l = refl
held_by_lem (Some m) None l = refl
held_by_lem None (Some c) l = refl
held_by_lem None None l = some_nothing l

pub full_rows : (n : ℕ) (s : List ℕ) → leb 256 n ≡ full (rows_of n s)
unfolding full
full_rows n s = rw (length_rows n s)

-- ---- the rows into an array: the first i of n stand in its front, and the empty association behind
pub record InRows (l : State) (n : ℕ) (rows : State) (i : ℕ) : Type 0 where
  pub long : length rows ≡ 256
  pub array : rows ≡ fill unheld 256 (take i l)

pub in_none : (l : State) (n : ℕ) {rows : State} → rows ≡ fill unheld 256 [] → InRows l n rows 0
in_none l n e = record { long = rw e; array = e }

module _ {l : State} {n : ℕ} (k : n ≡ length l) {rows : State} {i : ℕ} (g : InRows l n rows i) where
  pub in_more : i < n → n ≤ 256 → {a : Association} → a ≡ get_or l i empty_association → InRows l n (set rows i a) (i + 1)
  in_more h b {a} q =
      let j : i ≡ length (take i l) = sym (length-take-le i l (omega arith)) in
      record {
        long = length-set rows i a ∙ g.long;
        array = rw (g.array, q, take_next l i empty_association (omega arith)) (fill_more unheld 256 (take i l) (get_or l i empty_association) i j (omega arith));
      }

  pub in_all : n ≤ i → record { rows = rows; count = n } ≡ table_holding l
  in_all h = let e : take i l ≡ l = take_all i l (omega arith) in rw (g.array, e, ← k)
