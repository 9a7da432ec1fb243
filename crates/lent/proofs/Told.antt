-- The rows by what sets of w words tell apart of their identities.
use Rattle.std.specs.Prelude.{None, Option, Some}
use Rattle.std.specs.Option.{is_some}
use mathlib.Core.Path.{◌≡◌, refl, ap, sym, ◌∙◌}
use mathlib.Core.Bool.{Bool, true, false, not, and-false}
use mathlib.Core.List.{List, [], ◌∷◌, map}
use Prim.Native.Nat.{ℕ, zero, suc, ◌+◌, ◌*◌, ◌%◌, ◌<◌}
use native.Mathlib.Nat.{mod-eq_of_lt}
use native.Mathlib.Omega.{arith}
use borrow.Author.Tests.{eqb-true, eq-eqb, not-true}
use lib.Dec.{eqb}
use lib.ListN.{length, get_or, drop}
use lib.Seq.{drop-drop, get_or-drop}
use Rattle.lists.specs.Lists.{pick, some, apart}
use Rattle.lists.proofs.Apart.{apart_map}
use Rattle.lists.proofs.Some.{some_map}
use Rattle.lists.proofs.Tests.{and_left, and_right}
use Rattle.octets.specs.Field.{value_at}
use Rattle.octets.specs.Stands.{Octets}
use Rattle.identity.specs.Identity.{Numbering}
use Rattle.identity.specs.declared.Item.{Item}
use Rattle.identity.specs.declared.MceId.{MceId}
use Rattle.identity.specs.declared.MmeId.{MmeId}
use Rattle.distinct.specs.Bits.{told, in_set}
use Rattle.distinct.specs.Series.{alike}
use Rattle.table.specs.Table.{State, held_by, distinct_held}
use Rattle.table.specs.declared.Association.{Association}
use Rattle.lent.specs.Lent.{row_of, rows_of}
use Rattle.lent.specs.Tests.{rows_good, rows_right, low_mme, low_mce, low_held, is_met, numbers_at, series_held, right_by, held_apart, Fits}
use Rattle.lent.proofs.ByRows.{none_less}

-- two octets at a place of the rest
pub value_there : (s : List ℕ) (at k : ℕ) → value_at 2 s (at + k) ≡ value_at 2 (drop at s) k
value_there s at k = let z : at + k + 1 ≡ at + (k + 1) = omega arith in rw (z, get_or-drop at s k 0, get_or-drop at s (k + 1) 0)

-- a row's number at a place of it
numbers_there : (from n : ℕ) (s : List ℕ) (i : ℕ) (z : ℕ) → i < n → get_or (numbers_at from n s) i z ≡ value_at 2 (drop (12 * i) s) from
unfolding numbers_at
numbers_there from zero s i z h = absurd (omega arith)
numbers_there from (suc n) s zero z h = refl
numbers_there from (suc n) s (suc i) z h =
    let e : 12 * suc i ≡ 12 + 12 * i = omega arith in
    rw (e, ← drop-drop (12 * i) 12 s) (numbers_there from n (drop 12 s) i z (omega arith))

pub next_number : (s : List ℕ) (from n i : ℕ) → i < n → value_at 2 s (2 + 12 * i + from) ≡ get_or (numbers_at from n (drop 2 s)) i (value_at 2 s (2 + 12 * i + from))
next_number s from n i h =
    value_there s (2 + 12 * i) from ∙ ap (λ (r : List ℕ). value_at 2 r from) (sym (drop-drop (12 * i) 2 s)) ∙ sym (numbers_there from n (drop 2 s) i _ h)

pub length_numbers : (from n : ℕ) (s : List ℕ) → length (numbers_at from n s) ≡ n
unfolding numbers_at
length_numbers from zero s = refl
length_numbers from (suc n) s = ap suc (length_numbers from n (drop 12 s))

-- the number of an identity that is read is the number read
pub number_read : {I : Type 0} {numbered : ℕ → I} {number : I → ℕ} → Numbering numbered number → (w v : ℕ) {x : I} → x ≡ numbered v → told w (number x) ≡ told w v
number_read {I} {numbered} {number} g w v e = ap (λ (y : I). told w (number y)) e ∙ ap (told w) (g.back v)

picked_none : {A : Type 0} (b : Bool) (p : A) → ◌≡◌ {A = Option A} None (pick b (Some p) None) → b ≡ false
picked_none true p e = cc
picked_none false p e = refl

picked_some : {A : Type 0} (b : Bool) {q p : A} → ◌≡◌ {A = Option A} (Some q) (pick b (Some p) None) → (b ≡ true) × (q ≡ p)
picked_some true e = (refl, cc)
picked_some false e = absurd (let z : ◌≡◌ {A = ℕ} 0 1 = cc in omega arith)

-- an identity is in the set of all where one is alike with it
held_in_set : {I A : Type 0} (number : I → ℕ) (f : A → ℕ) (w : ℕ) (l : List A) (words : List ℕ) → ((y : ℕ) → in_set w words y ≡ some (λ (a : A). eqb (f a) y) l) →
    (x : Option I) → is_met number w words x ≡ low_held number f w x l
held_in_set number f w l words h (Some x) = h (told w (number x))
held_in_set number f w l words h None = refl

-- what is found of one series
module _ {I A : Type 0} (number : I → ℕ) (f : A → ℕ) (w : ℕ) (x : Option I) (l : List A) where
  pub series_shared : apart (alike f) l ≡ false → None ≡ series_held number f w x l
  unfolding series_held
  series_shared e = rw e

  pub series_apart : apart (alike f) l ≡ true → (words : List ℕ) → ((y : ℕ) → in_set w words y ≡ some (λ (a : A). eqb (f a) y) l) → {b : Bool} → b ≡ is_met number w words x → Some b ≡ series_held number f w x l
  unfolding series_held
  series_apart e words h q = rw (e, q, held_in_set number f w l words h x)

  shared_then : None ≡ series_held number f w x l → apart (alike f) l ≡ false
  unfolding series_held
  shared_then e = picked_none (apart (alike f) l) _ e

  apart_then : {b : Bool} → Some b ≡ series_held number f w x l → (apart (alike f) l ≡ true) × (b ≡ low_held number f w x l)
  unfolding series_held
  apart_then e = picked_some (apart (alike f) l) e

-- the numbers at the place of a series are those of the rows
module _ (from : ℕ) (f : Association → ℕ) (there : (s : List ℕ) → value_at 2 s from ≡ f (row_of s)) where
  rows_numbers : (n : ℕ) (s : List ℕ) → numbers_at from n s ≡ map f (rows_of n s)
  unfolding numbers_at rows_of
  rows_numbers zero s = refl
  rows_numbers (suc n) s = λ i. there s i ∷ rows_numbers n (drop 12 s) i

  series_rows : {I : Type 0} (number : I → ℕ) (w : ℕ) (x : Option I) (n : ℕ) (s : List ℕ) →
      series_held number (told w) w x (numbers_at from n s) ≡ series_held number (λ (a : Association). told w (f a)) w x (rows_of n s)
  unfolding series_held
  series_rows number w x n s = rw (rows_numbers n s, apart_map (alike (told w)) f (rows_of n s), same x)
    where
      same : (y : Option _) → low_held number (told w) w y (map f (rows_of n s)) ≡ low_held number (λ (a : Association). told w (f a)) w y (rows_of n s)
      same (Some y) = some_map (λ (v : ℕ). eqb (told w v) (told w (number y))) f (rows_of n s)
      same None = refl

-- what is found of the rows
module _ (w : ℕ) (x : Item) (n : ℕ) (s : List ℕ) where
  mme_rows : series_held (λ (m : MmeId). m.0) (told w) w x.mme (numbers_at 0 n s) ≡ series_held (λ (m : MmeId). m.0) (low_mme w) w x.mme (rows_of n s)
  mme_rows = series_rows 0 (λ (a : Association). a.mme.0) (λ s. refl) (λ (m : MmeId). m.0) w x.mme n s

  mce_rows : series_held (λ (c : MceId). c.0) (told w) w x.mce (numbers_at 2 n s) ≡ series_held (λ (c : MceId). c.0) (low_mce w) w x.mce (rows_of n s)
  mce_rows = series_rows 2 (λ (a : Association). a.mce.0) (λ s. refl) (λ (c : MceId). c.0) w x.mce n s

  pub mme_shared : None ≡ series_held (λ (m : MmeId). m.0) (told w) w x.mme (numbers_at 0 n s) → None ≡ held_apart w x n s
  unfolding held_apart right_by
  mme_shared e = rw (shared_then (λ (m : MmeId). m.0) (low_mme w) w x.mme (rows_of n s) (e ∙ mme_rows), and-false)

  pub mce_shared : None ≡ series_held (λ (c : MceId). c.0) (told w) w x.mce (numbers_at 2 n s) → None ≡ held_apart w x n s
  unfolding held_apart right_by
  mce_shared e = rw (shared_then (λ (c : MceId). c.0) (low_mce w) w x.mce (rows_of n s) (e ∙ mce_rows), and-false, and-false)

  pub not_good : rows_good n s ≡ false → None ≡ held_apart w x n s
  unfolding held_apart right_by
  not_good e = rw e

  pub both_apart : rows_good n s ≡ true → {a b : Bool} → Some a ≡ series_held (λ (m : MmeId). m.0) (told w) w x.mme (numbers_at 0 n s) →
      Some b ≡ series_held (λ (c : MceId). c.0) (told w) w x.mce (numbers_at 2 n s) → ◌≡◌ {A = Option (Bool × Bool)} (Some (a, b)) (held_apart w x n s)
  unfolding held_apart right_by
  both_apart g e f =
      let p = apart_then (λ (m : MmeId). m.0) (low_mme w) w x.mme (rows_of n s) (e ∙ mme_rows) in
      let q = apart_then (λ (c : MceId). c.0) (low_mce w) w x.mce (rows_of n s) (f ∙ mce_rows) in
      rw (g, p.0, q.0, ← p.1, ← q.1)

-- what is apart by a weaker likeness is so by a stronger one
apart_less : {A : Type 0} (p q : A → A → Bool) → ((a b : A) → q a b ≡ true → p a b ≡ true) → (l : List A) → apart p l ≡ true → apart q l ≡ true
apart_less p q f [] e = refl
apart_less p q f (a ∷ l) e =
    let x = not-true _ (and_left (not (some (p a) l)) (apart p l) e) in
    rw (none_less (p a) (q a) (f a) l x, apart_less p q f l (and_right (not (some (p a) l)) (apart p l) e))

pub low_apart : (f : Association → ℕ) (l : State) → apart (alike (λ (a : Association). f a % 4096)) l ≡ true → apart (alike f) l ≡ true
low_apart f l e = apart_less (alike (λ (a : Association). f a % 4096)) (alike f) (λ a b t. eq-eqb _ _ (ap (◌% 4096) (eqb-true (f a) (f b) t))) l e

-- few words: where the rows are apart by what these tell, they are apart
pub right_low : (n : ℕ) (s : List ℕ) → right_by 64 n s ≡ true → rows_right n s ≡ true
unfolding right_by distinct_held
right_low n s e =
    let l = rows_of n s in
    let a = and_right (rows_good n s) _ e in
    rw (
      and_left (rows_good n s) _ e,
      low_apart (λ (x : Association). x.mme.0) l (and_left (apart (alike (low_mme 64)) l) _ a),
      low_apart (λ (x : Association). x.mce.0) l (and_right (apart (alike (low_mme 64)) l) _ a),
    )

-- something is found where they are told apart
pub right_found : (w : ℕ) (x : Item) (n : ℕ) (s : List ℕ) → true ≡ is_some (held_apart w x n s) → right_by w n s ≡ true
unfolding held_apart
right_found w x n s e = by (right_by w n s) _ e
  where
    by : (b : Bool) (p : Bool × Bool) → true ≡ is_some (pick b (Some p) None) → b ≡ true
    by true p e = refl
    by false p e = cc

-- so many words tell all identities apart
module _ (f : Association → ℕ) (small : (s : List ℕ) → Octets s → f (row_of s) < 65536) where
  whole : (n : ℕ) (s : List ℕ) → Octets s → map (λ (a : Association). told 1024 (f a)) (rows_of n s) ≡ map f (rows_of n s)
  unfolding rows_of
  whole zero s o = refl
  whole (suc n) s o = λ i. mod-eq_of_lt (small s o) i ∷ whole n (drop 12 s) (λ j. rw get_or-drop (o (12 + j))) i

  pub whole_apart : (n : ℕ) (s : List ℕ) → Octets s → apart (alike (λ (a : Association). told 1024 (f a))) (rows_of n s) ≡ apart (alike f) (rows_of n s)
  whole_apart n s o = sym (apart_map eqb _ (rows_of n s)) ∙ ap (apart eqb) (whole n s o) ∙ apart_map eqb f (rows_of n s)

  pub whole_some : (n : ℕ) (s : List ℕ) → Octets s → (y : ℕ) → y < 65536 → some (λ (a : Association). eqb (told 1024 (f a)) (told 1024 y)) (rows_of n s) ≡ some (λ (a : Association). eqb (f a) y) (rows_of n s)
  whole_some n s o y h =
      rw (mod-eq_of_lt h)
      (sym (some_map (λ (x : ℕ). eqb x y) _ (rows_of n s)) ∙ ap (some (λ (x : ℕ). eqb x y)) (whole n s o) ∙ some_map (λ (x : ℕ). eqb x y) f (rows_of n s))

mme_small : (s : List ℕ) → Octets s → (row_of s).mme.0 < 65536
mme_small s o = omega (arith, o 0, o 1)

mce_small : (s : List ℕ) → Octets s → (row_of s).mce.0 < 65536
mce_small s o = omega (arith, o 2, o 3)

-- what so many words tell of the rows is what holds of them
module _ (x : Item) (n : ℕ) (s : List ℕ) (o : Octets s) where
  right_whole : right_by 1024 n s ≡ rows_right n s
  unfolding right_by distinct_held
  right_whole = rw (
    whole_apart (λ (a : Association). a.mme.0) mme_small n s o,
    whole_apart (λ (a : Association). a.mce.0) mce_small n s o,
  )

  pub wholly_none : None ≡ held_apart 1024 x n s → rows_right n s ≡ false
  unfolding held_apart
  wholly_none e = sym right_whole ∙ picked_none (right_by 1024 n s) _ e

  pub wholly_some : {a b : Bool} → ◌≡◌ {A = Option (Bool × Bool)} (Some (a, b)) (held_apart 1024 x n s) → Fits (λ (m : MmeId). m.0) x.mme → Fits (λ (c : MceId). c.0) x.mce →
      (rows_right n s ≡ true) × (a ≡ held_by x.mme None (rows_of n s)) × (b ≡ held_by None x.mce (rows_of n s))
  unfolding held_apart
  wholly_some e p q =
      let t = picked_some (right_by 1024 n s) e in
      (sym right_whole ∙ t.0, ap (λ (p : Bool × Bool). p.0) t.1 ∙ mme x.mme p, ap (λ (p : Bool × Bool). p.1) t.1 ∙ mce x.mce q)
    where
      mme : (m : Option MmeId) → Fits (λ (x : MmeId). x.0) m → low_held (λ (x : MmeId). x.0) (low_mme 1024) 1024 m (rows_of n s) ≡ held_by m None (rows_of n s)
      mme (Some m) p = whole_some (λ (a : Association). a.mme.0) mme_small n s o m.0 p
      mme None p = refl

      mce : (c : Option MceId) → Fits (λ (x : MceId). x.0) c → low_held (λ (x : MceId). x.0) (low_mce 1024) 1024 c (rows_of n s) ≡ held_by None c (rows_of n s)
      mce (Some c) p = whole_some (λ (a : Association). a.mce.0) mce_small n s o c.0 p
      mce None p = refl
