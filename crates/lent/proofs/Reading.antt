-- When octets are a table: what the reader's tests say of them.
use Rattle.std.specs.Prelude.{None, Option, Some}
use mathlib.Core.Path.{◌≡◌, refl, ap, sym, ◌∙◌}
use mathlib.Core.Bool.{Bool, true, false, ◌&&◌}
use mathlib.Core.List.{List, [], ◌∷◌, ◌++◌}
use Prim.Native.Nat.{ℕ, ◌+◌, ◌-◌, ◌*◌, ◌≤◌, ◌<◌}
use native.Mathlib.Omega.{arith}
use borrow.Author.Tests.{eqb-true, eq-eqb, leb-true, le-leb}
use lib.Dec.{eqb, leb}
use lib.ListN.{length, get_or, take, drop, replicate, length-append, length-drop}
use lib.Seq.{drop-cons, drop-drop, get_or-drop, drop_at, take_all}
use Rattle.lists.specs.Lists.{pick}
use Rattle.lists.proofs.Tests.{and_left, and_right}
use Rattle.lists.proofs.Fill.{length_fill}
use Rattle.octets.specs.Field.{value_at}
use Rattle.octets.specs.Write.{number_octets}
use Rattle.octets.specs.Stands.{Octets}
use Rattle.octets.proofs.Back.{length_number}
use Rattle.identity.specs.declared.Item.{Item}
use Rattle.lent.specs.declared.Looked.{Looked}
use Rattle.table.specs.Table.{State, standing, distinct_held}
use Rattle.lent.specs.Lent.{rows_octets, table_octets, rows_of, said, same, Held, NoTable, read_table, looked_up}
use Rattle.lent.specs.Tests.{rows_good, rows_right, zeros}
use Rattle.lent.proofs.Zeros.{zeros_are, are_zeros}
use Rattle.lent.proofs.Rows.{length_rows, length_octets_lem, value_again, rows_again, good_back}

pub same_self : (s : List ℕ) → same s s ≡ true
unfolding same
same_self [] = refl
same_self (x ∷ s) = rw (eq-eqb x x refl) (same_self s)

pub same_is : (s t : List ℕ) → same s t ≡ true → s ≡ t
unfolding same
same_is [] [] e = refl
same_is [] (y ∷ t) e = cc
same_is (x ∷ s) [] e = cc
same_is (x ∷ s) (y ∷ t) e = λ i. eqb-true x y (and_left (eqb x y) (same s t) e) i ∷ same_is s t (and_right (eqb x y) (same s t) e) i

-- ---- the octets are a table, or not
pub record Formed (s : List ℕ) : Type 0 where
  pub few : length (said s) ≤ 256
  pub apart : distinct_held (said s) ≡ true
  pub octets : table_octets (said s) ≡ s

module _ (s : List ℕ) where
  abbrev test : Bool
  test = leb (length (said s)) 256 && distinct_held (said s) && same (table_octets (said s)) s

  passed : test ≡ true → Formed s
  passed e =
      let f = and_left (leb (length (said s)) 256 && distinct_held (said s)) (same (table_octets (said s)) s) e in
      record {
        few = leb-true (length (said s)) 256 (and_left (leb (length (said s)) 256) (distinct_held (said s)) f);
        apart = and_right (leb (length (said s)) 256) (distinct_held (said s)) f;
        octets = same_is (table_octets (said s)) s (and_right (leb (length (said s)) 256 && distinct_held (said s)) (same (table_octets (said s)) s) e);
      }

  pub is_table_lem : Formed s → read_table s ≡ Held (said s)
  unfolding read_table
  is_table_lem t =
      let o : same (table_octets (said s)) s ≡ true = ap (λ (x : List ℕ). same x s) t.octets ∙ same_self s in
      rw (le-leb (length (said s)) 256 t.few, t.apart, o)

  pub no_table_lem : (Formed s → ⊥) → read_table s ≡ NoTable
  unfolding read_table
  no_table_lem n = by test refl
    where
      by : (b : Bool) → test ≡ b → pick b (Held (said s)) NoTable ≡ NoTable
      by true e = absurd (n (passed e))
      by false e = refl

  pub held_table : {l : State} → read_table s ≡ Held l → Formed s × (said s ≡ l)
  unfolding read_table
  held_table {l} q = by test refl q
    where
      by : (b : Bool) → test ≡ b → pick b (Held (said s)) NoTable ≡ Held l → Formed s × (said s ≡ l)
      by true e q = (passed e, cc)
      by false e q = absurd (let z : ◌≡◌ {A = ℕ} 0 1 = cc in omega arith)

-- ---- what the tests say
pub length_front : (l : State) → length (number_octets 2 (length l) ++ rows_octets l) ≡ 2 + 12 * length l
length_front l = rw (length-append, length_number, length_octets_lem)

pub length_table : (l : State) → length l ≤ 256 → length (table_octets l) ≡ 3074
length_table l h = length_fill 0 3074 (number_octets 2 (length l) ++ rows_octets l) (rw (length_front l) (omega arith))

module _ (s : List ℕ) where
  -- all tests pass: the octets are those that are written for what they say
  pub tests_pass : Octets s → length s ≡ 3074 → value_at 2 s 0 ≤ 256 → zeros (drop (2 + 12 * value_at 2 s 0) s) ≡ true → rows_good (value_at 2 s 0) (drop 2 s) ≡ true →
      table_octets (said s) ≡ s
  tests_pass o w h z g =
      let n = length_rows (value_at 2 s 0) (drop 2 s) in
      let f : length (number_octets 2 (length (said s)) ++ rows_octets (said s)) ≡ 2 + 12 * value_at 2 s 0 = length_front (said s) ∙ rw n in
      let d : 3074 - (2 + 12 * value_at 2 s 0) ≡ length (drop (2 + 12 * value_at 2 s 0) s) = rw (length-drop, w) in
      let p : Octets (drop 2 s) = λ i. rw get_or-drop (o (2 + i)) in
      let r = rows_again (value_at 2 s 0) (drop 2 s) (rw length-drop (omega arith)) p g in
      let e : s ≡ get_or s 0 0 ∷ get_or s 1 0 ∷ drop 2 s = drop-cons s 0 0 (omega arith) ∙ rw (drop-cons s 1 0 (omega arith)) in
      rw (f, d, ← zeros_are (drop (2 + 12 * value_at 2 s 0) s) z, ← drop-drop (12 * value_at 2 s 0) 2 s, n, value_again s 0 o, r) (sym e)

  -- the octets are a table: each test passes
  module _ (t : Formed s) where
    count : length (said s) ≡ value_at 2 s 0
    count = length_rows (value_at 2 s 0) (drop 2 s)

    pub table_count : value_at 2 s 0 ≤ 256
    table_count = rw (← count) t.few

    pub table_long : length s ≡ 3074
    table_long = sym (ap length t.octets) ∙ length_table (said s) t.few

    pub table_good : rows_good (value_at 2 s 0) (drop 2 s) ≡ true
    unfolding number_octets
    table_good = by (said s) t.octets count
      where
        by : (l : State) → table_octets l ≡ s → length l ≡ value_at 2 s 0 → rows_good (value_at 2 s 0) (drop 2 s) ≡ true
        by l e c = rw (← c, ← e) (good_back (replicate (3074 - length (number_octets 2 (length l) ++ rows_octets l)) 0) l)

    pub table_zeros : zeros (drop (2 + 12 * value_at 2 s 0) s) ≡ true
    table_zeros = by (said s) t.octets count
      where
        by : (l : State) → table_octets l ≡ s → length l ≡ value_at 2 s 0 → zeros (drop (2 + 12 * value_at 2 s 0) s) ≡ true
        by l e c =
            rw (← c, ← e, drop_at (number_octets 2 (length l) ++ rows_octets l) (replicate (3074 - length (number_octets 2 (length l) ++ rows_octets l)) 0) (2 + 12 * length l) (length_front l))
            (are_zeros (3074 - length (number_octets 2 (length l) ++ rows_octets l)))

-- ---- the tests in turn, with n for the count that is said
module _ (s : List ℕ) where
  clash : {b : Bool} → (Formed s → b ≡ true) → b ≡ false → read_table s ≡ NoTable
  clash f e = no_table_lem s (λ t. let z : true ≡ false = sym (f t) ∙ e in let o : ◌≡◌ {A = ℕ} 0 1 = cc in omega arith)

  module _ {n : ℕ} (e : n ≡ value_at 2 s 0) where
    pub too_many : 256 < n → read_table s ≡ NoTable
    too_many h = no_table_lem s (λ t. omega (arith, table_count s t))

    pub not_zeros : zeros (drop (2 + 12 * n) s) ≡ false → read_table s ≡ NoTable
    not_zeros f = clash (λ t. rw e (table_zeros s t)) f

    pub not_right : rows_right n (drop 2 s) ≡ false → read_table s ≡ NoTable
    not_right f = clash (λ t. rw (e, table_good s t, t.apart)) f

    pub all_pass : Octets s → length s ≡ 3074 → n ≤ 256 → zeros (drop (2 + 12 * n) s) ≡ true → rows_right n (drop 2 s) ≡ true → read_table s ≡ Held (rows_of n (drop 2 s))
    all_pass o w h z r =
        let g = and_left (rows_good n (drop 2 s)) (distinct_held (rows_of n (drop 2 s))) r in
        let a = and_right (rows_good n (drop 2 s)) (distinct_held (rows_of n (drop 2 s))) r in
        rw e (is_table_lem s
        (record { few = rw (length_rows (value_at 2 s 0) (drop 2 s), ← e) h; apart = rw e at a; octets = tests_pass s o w (rw (← e) h) (rw e at z) (rw e at g) }))

    -- by whether the rows are right
    pub right_or_not : Octets s → length s ≡ 3074 → n ≤ 256 → zeros (drop (2 + 12 * n) s) ≡ true → (i : Item) →
        pick {A = Option Looked} (rows_right n (drop 2 s)) (Some (record { standing = standing i (rows_of n (drop 2 s)); count = n })) None ≡ looked_up i (read_table s)
    right_or_not o w h z i = by (rows_right n (drop 2 s)) refl
      where
        by : (b : Bool) → rows_right n (drop 2 s) ≡ b → pick {A = Option Looked} b (Some (record { standing = standing i (rows_of n (drop 2 s)); count = n })) None ≡ looked_up i (read_table s)
        by true r = rw (all_pass o w h z r, length_rows n (drop 2 s))
        by false r = rw (not_right r)

  pub not_long : (length s ≡ 3074 → ⊥) → read_table s ≡ NoTable
  not_long h = no_table_lem s (λ t. h (table_long s t))

-- a part with no end is the rest of the octets
pub tail_part : (s : List ℕ) (at : ℕ) → take (length s - at) (drop at s) ≡ drop at s
tail_part s at = take_all (length s - at) (drop at s) (simp length-drop (omega arith))
