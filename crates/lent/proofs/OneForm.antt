-- A lent table has one form: what is said comes first, and why below.
use mathlib.Core.Path.{◌≡◌, ap, sym, ◌∙◌}
use mathlib.Core.List.{List, [], ◌++◌}
use Prim.Native.Nat.{ℕ, min, ◌-◌, ◌≤◌}
use native.Mathlib.Nat.{mod-eq_of_lt}
use native.Mathlib.Omega.{arith}
use borrow.Author.Tests.{eq-eqb}
use lib.ListN.{length, drop, replicate}
use Rattle.octets.specs.Field.{value_at}
use Rattle.octets.specs.Write.{number_octets}
use Rattle.octets.specs.Stands.{StaysDifferent}
use Rattle.table.specs.Table.{State}
use Rattle.lent.specs.Lent.{rows_octets, table_octets, rows_of, said, Held, NoTable, read_table, first_rows, Good}
use Rattle.lent.proofs.Rows.{length_rows, value_back, rows_back, rows_range}
use Rattle.lent.proofs.Reading.{is_table_lem, held_table, length_table, table_long}

pub record OneForm : Type 0 where
  pub size : (l : State) → length l ≤ 256 → length (table_octets l) ≡ 3074
  -- reading what was written gives the table
  pub back : (l : State) → Good l → read_table (table_octets l) ≡ Held l
  -- writing what was read gives the octets
  pub again : (s : List ℕ) (l : State) → read_table s ≡ Held l → table_octets l ≡ s
  -- what is read is a table that can be held
  pub table : (s : List ℕ) (l : State) → read_table s ≡ Held l → Good l
  -- octets that are refused are not those of any
  pub none : (s : List ℕ) (l : State) → read_table s ≡ NoTable → Good l → table_octets l ≡ s → ⊥
  -- so two tables that differ have octets that differ,
  pub different : StaysDifferent Good table_octets
  -- and octets that are the same table are the same
  pub one : (s t : List ℕ) (l : State) → read_table s ≡ Held l → read_table t ≡ Held l → s ≡ t
  -- the rows of a table, taken by their count, are what it holds
  pub rows : (s : List ℕ) (l : State) → read_table s ≡ Held l → first_rows (length l) s ≡ l

-- ==== why

-- what the octets of a table say
module _ (l : State) (h : length l ≤ 256) where
  rest : List ℕ
  rest = replicate (3074 - length (number_octets 2 (length l) ++ rows_octets l)) 0

  said_rows : said (table_octets l) ≡ rows_of (length l) (rows_octets l ++ rest)
  unfolding number_octets rest
  said_rows =
      let e : value_at 2 (table_octets l) 0 ≡ length l = value_back (length l) [] ∙ mod-eq_of_lt (omega arith) in
      ap (λ (n : ℕ). rows_of n (rows_octets l ++ rest)) e

again_is : (s : List ℕ) (l : State) → read_table s ≡ Held l → table_octets l ≡ s
again_is s l q = let t = held_table s q in rw (← t.1) t.0.octets

back_is : (l : State) → Good l → read_table (table_octets l) ≡ Held l
back_is l g =
    let e : said (table_octets l) ≡ l = said_rows l g.few ∙ rows_back (rest l g.few) l g.each in
    is_table_lem (table_octets l) (record { few = rw e g.few; apart = rw e g.apart; octets = ap table_octets e }) ∙ ap Held e

table_is : (s : List ℕ) (l : State) → read_table s ≡ Held l → Good l
table_is s l q =
    let t = held_table s q in
    let f : length l ≤ 256 = rw (← t.1) t.0.few in
    let e : said (table_octets l) ≡ l = ap said (again_is s l q) ∙ t.1 in
    record {
      few = f;
      apart = rw (← t.1) t.0.apart;
      each = rows_range (rest l f) l (sym (said_rows l f) ∙ e);
    }

same_held : {l m : State} → Held l ≡ Held m → l ≡ m
same_held q = cc

rows_are : (s : List ℕ) (l : State) → read_table s ≡ Held l → first_rows (length l) s ≡ l
rows_are s l q =
    let t = held_table s q in
    let n : length l ≡ value_at 2 s 0 = ap length (sym t.1) ∙ length_rows (value_at 2 s 0) (drop 2 s) in
    let k : min (length l) 256 ≡ value_at 2 s 0 = omega (arith, (table_is s l q).few) in
    rw (eq-eqb (length s) 3074 (table_long s t.0), k) t.1

pub one_form : OneForm
one_form = record {
  size = length_table;
  back = back_is;
  again = again_is;
  table = table_is;
  none = λ s l q g e. let z : Held l ≡ NoTable = sym (back_is l g) ∙ (ap read_table e ∙ q) in let o : ◌≡◌ {A = ℕ} 0 1 = cc in omega arith;
  different = λ v w a b e. same_held (sym (back_is v a) ∙ (ap read_table e ∙ back_is w b));
  one = λ s t l p q. sym (again_is s l p) ∙ again_is t l q;
  rows = rows_are;
}
