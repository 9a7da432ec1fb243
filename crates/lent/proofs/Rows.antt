-- Rows: reading what was written gives them back, and writing what was read gives the octets.
use Rattle.std.specs.Prelude.{None, Option, Some}
use mathlib.Core.Path.{◌≡◌, refl, ap, sym, ◌∙◌}
use mathlib.Core.Bool.{Bool, true, false, ◌&&◌, ◌||◌}
use mathlib.Core.List.{List, [], ◌∷◌, ◌++◌, append_assoc, Memᴰ}
use Prim.Native.Nat.{ℕ, zero, suc, ◌+◌, ◌*◌, ◌/◌, ◌%◌, ◌≤◌}
use native.Mathlib.Nat.{mod-eq_of_lt}
use native.Mathlib.Omega.{arith}
use borrow.Author.Tests.{eqb-true}
use lib.Dec.{eqb}
use lib.ListN.{length, get_or, drop, length-drop}
use lib.Seq.{drop-cons, drop-drop, get_or-drop}
use Rattle.lists.proofs.Tests.{and_left, and_right}
use Rattle.octets.specs.Field.{value_at}
use Rattle.octets.specs.Write.{number_octets}
use Rattle.octets.specs.Stands.{Octets}
use Rattle.table.specs.Table.{State}
use Rattle.table.specs.declared.Association.{Association}
use Rattle.lent.specs.Lent.{flag_of, session_octet, row_octets, rows_octets, session_of, row_of, rows_of, IdentitiesInRange}
use Rattle.lent.specs.Tests.{session_good, rows_good}

pub length_rows : (n : ℕ) (s : List ℕ) → length (rows_of n s) ≡ n
unfolding rows_of
length_rows zero s = refl
length_rows (suc n) s = ap suc (length_rows n (drop 12 s))

pub length_octets_lem : (l : State) → length (rows_octets l) ≡ 12 * length l
unfolding rows_octets number_octets
length_octets_lem [] = refl
length_octets_lem (a ∷ l) = rw (length_octets_lem l) (omega arith)

pub octets_more : (l : State) (a : Association) → rows_octets (l ++ (a ∷ [])) ≡ rows_octets l ++ row_octets a
unfolding rows_octets number_octets
octets_more [] a = refl
octets_more (b ∷ l) a = rw (octets_more l a)

-- ---- written, then read
pub value_back : (v : ℕ) (r : List ℕ) → value_at 2 (number_octets 2 v ++ r) 0 ≡ v % 65536
unfolding number_octets
value_back v r = omega arith

session_back : (s : Option ℕ) → session_of (flag_of s) (session_octet s) ≡ s
session_back (Some v) = refl
session_back None = refl

row_back : (a : Association) (r : List ℕ) → IdentitiesInRange a → row_of (row_octets a ++ r) ≡ a
unfolding number_octets
row_back a r h = λ i. record {
  mme = record { 0 = (value_back a.mme.0 [] ∙ mod-eq_of_lt h.mme) i };
  mce = record { 0 = (value_back a.mce.0 [] ∙ mod-eq_of_lt h.mce) i };
  tmgi = a.tmgi;
  session = session_back a.session i;
}

-- only numbers in range are read back
row_range : (a : Association) (r : List ℕ) → row_of (row_octets a ++ r) ≡ a → IdentitiesInRange a
unfolding number_octets
row_range a r e = record {
  mme = omega (arith, value_back a.mme.0 [], ap (λ (x : Association). x.mme.0) e);
  mce = omega (arith, value_back a.mce.0 [], ap (λ (x : Association). x.mce.0) e);
}

module _ (r : List ℕ) where
  pub rows_back : (l : State) → ((a : Association) → Memᴰ a l → IdentitiesInRange a) → rows_of (length l) (rows_octets l ++ r) ≡ l
  unfolding rows_of rows_octets number_octets
  rows_back [] each = refl
  rows_back (a ∷ l) each = λ i. row_back a (rows_octets l ++ r) (each a (Memᴰ.head refl)) i ∷ rows_back l (λ b m. each b (Memᴰ.tail m)) i

  pub rows_range : (l : State) → rows_of (length l) (rows_octets l ++ r) ≡ l → (a : Association) → Memᴰ a l → IdentitiesInRange a
  unfolding rows_of rows_octets number_octets
  rows_range [] e a x = elim x [ ]
  rows_range (b ∷ l) e a (Memᴰ.head h) = rw h (row_range b (rows_octets l ++ r) (cc))
  rows_range (b ∷ l) e a (Memᴰ.tail m) = rows_range l (cc) a m

  pub good_back : (l : State) → rows_good (length l) (rows_octets l ++ r) ≡ true
  unfolding rows_good rows_octets number_octets
  good_back [] = refl
  good_back (a ∷ l) = rw (good a.session, good_back l)
    where
      good : (s : Option ℕ) → session_good (flag_of s) (session_octet s) ≡ true
      good (Some v) = refl
      good None = refl

-- ---- read, then written
pub value_again : (s : List ℕ) (at : ℕ) → Octets s → number_octets 2 (value_at 2 s at) ≡ get_or s at 0 ∷ get_or s (at + 1) 0 ∷ []
unfolding number_octets
value_again s at o = λ i. high i ∷ low i ∷ []
  where
    high : value_at 2 s at / 256 % 256 ≡ get_or s at 0
    high = omega (arith, o at, o (at + 1))

    low : value_at 2 s at / 1 % 256 ≡ get_or s (at + 1) 0
    low = omega (arith, o at, o (at + 1))

session_again : (f v : ℕ) → session_good f v ≡ true → (flag_of (session_of f v) ≡ f) × (session_octet (session_of f v) ≡ v)
session_again f v g = by (eqb f 1) refl (eqb f 0) refl (eqb v 0) refl g
  where
    by : (a : Bool) → eqb f 1 ≡ a → (b : Bool) → eqb f 0 ≡ b → (c : Bool) → eqb v 0 ≡ c → (a || (b && c)) ≡ true →
        (flag_of (session_of f v) ≡ f) × (session_octet (session_of f v) ≡ v)
    by true x true y c z g = absurd (omega (arith, eqb-true f 1 x, eqb-true f 0 y))
    by true x false y c z g = (rw y (sym (eqb-true f 1 x)), rw y)
    by false x true y true z g = (rw y (sym (eqb-true f 0 y)), rw y (sym (eqb-true v 0 z)))
    by false x true y false z g = (cc, cc)
    by false x false y c z g = (cc, cc)

front : (s : List ℕ) → 12 ≤ length s →
    s ≡ get_or s 0 0 ∷ get_or s 1 0 ∷ get_or s 2 0 ∷ get_or s 3 0 ∷ get_or s 4 0 ∷ get_or s 5 0 ∷ get_or s 6 0 ∷ get_or s 7 0 ∷ get_or s 8 0 ∷ get_or s 9 0 ∷ get_or s 10 0 ∷ get_or s 11 0 ∷ drop 12 s
front s h =
    drop-cons s 0 0 (omega arith)
    ∙ rw (drop-cons s 1 0 (omega arith), drop-cons s 2 0 (omega arith), drop-cons s 3 0 (omega arith), drop-cons s 4 0 (omega arith), drop-cons s 5 0 (omega arith), drop-cons s 6 0 (omega arith), drop-cons s 7 0 (omega arith), drop-cons s 8 0 (omega arith), drop-cons s 9 0 (omega arith), drop-cons s 10 0 (omega arith), drop-cons s 11 0 (omega arith))

row_again : (s : List ℕ) → 12 ≤ length s → Octets s → session_good (get_or s 10 0) (get_or s 11 0) ≡ true → row_octets (row_of s) ++ drop 12 s ≡ s
row_again s h o g =
    let x = session_again (get_or s 10 0) (get_or s 11 0) g in
    rw (value_again s 0 o, value_again s 2 o, x.0, x.1) (sym (front s h))

pub rows_again : (n : ℕ) (s : List ℕ) → 12 * n ≤ length s → Octets s → rows_good n s ≡ true → rows_octets (rows_of n s) ++ drop (12 * n) s ≡ s
unfolding rows_octets rows_of rows_good
rows_again zero s h o g = refl
rows_again (suc n) s h o g =
    let e : 12 * suc n ≡ 12 + 12 * n = omega arith in
    let d : 12 * n ≤ length (drop 12 s) = rw (length-drop 12 s) (omega arith) in
    let p : Octets (drop 12 s) = λ i. rw (get_or-drop) (o (12 + i)) in
    let f = and_left (session_good (get_or s 10 0) (get_or s 11 0)) (rows_good n (drop 12 s)) g in
    let r = and_right (session_good (get_or s 10 0) (get_or s 11 0)) (rows_good n (drop 12 s)) g in
    rw (append_assoc (row_octets (row_of s)), e, ← drop-drop (12 * n) 12 s, rows_again n (drop 12 s) d p r) (row_again s (omega arith) o f)
