-- Octets are a unit exactly if those in front are a table and those behind are the marks.
-- Assumes nothing.
use Prim.Native.Nat.{ℕ, zero, suc, min, ◌≤◌}
use mathlib.Core.Path.{◌≡◌, refl, ap, sym, subst, ◌∙◌}
use mathlib.Core.Bool.{Bool, true, false, ◌&&◌}
use mathlib.Core.List.{List, ◌∷◌, ◌++◌}
use mir.Val.{bool_byte}
use native.Mathlib.Omega.{arith}
use borrow.Author.Tests.{leb-true, leb-false, le-leb}
use lib.Dec.{leb, eqb}
use lib.ListN.{length, take, drop, get_or, replicate, length-append, length-drop, take-append-drop, drop_of_length-le}
use lib.Seq.{take_at, drop_at, drop-cons, get_or-drop, drop-drop, length-take-le}
use Rattle.lists.specs.Lists.{pick}
use Rattle.lists.proofs.Tests.{and_left, and_right}
use Rattle.lists.proofs.Slices.{take_within}
use Rattle.table.specs.Table.{State, distinct_held}
use Rattle.lent.specs.Lent.{table_octets, said, same, Held, NoTable, Lent, read_table}
use Rattle.lent.specs.Tests.{zeros}
use Rattle.lent.proofs.Zeros.{zeros_are}
use Rattle.lent.proofs.Reading as table
use Rattle.lent.proofs.Reading.{same_self, same_is, length_table, held_table, is_table_lem}
use Rattle.units.specs.Unit.{Unit, unit_octets, open_octet, mark_octets, open_in, said_unit, good_unit, MaybeUnit, is_unit, no_unit, read_unit, on_front}

-- the octet of a mark
pub octet_is : (b : Bool) → bool_byte b ≡ open_octet b
octet_is true = refl
octet_is false = refl

-- the parts of a unit's octets
module _ (u : Unit) (few : length u.held ≤ 256) where
  pub front_part : take 3074 (unit_octets u) ≡ table_octets u.held
  unfolding unit_octets
  front_part = take_at (table_octets u.held) (mark_octets u) 3074 (length_table u.held few)

  pub mark_part : drop 3074 (unit_octets u) ≡ mark_octets u
  unfolding unit_octets
  mark_part = drop_at (table_octets u.held) (mark_octets u) 3074 (length_table u.held few)

  pub mark_part_said : open_in (unit_octets u) ≡ u.is_open
  mark_part_said = ap (λ (n : ℕ). eqb n 1) (sym (get_or-drop 3074 (unit_octets u) 2 0) ∙ ap (λ (m : List ℕ). get_or m 2 0) mark_part) ∙ by u.is_open
    where
      by : (b : Bool) → eqb (open_octet b) 1 ≡ b
      by true = refl
      by false = refl

  pub unit_size : length (unit_octets u) ≡ 3088
  unfolding unit_octets
  unit_size = rw (length-append, length_table u.held few)

-- the unit of a table, with its mark
abbrev pub unit_by : Bool → Lent → MaybeUnit
unit_by b (Held l) = is_unit (record { held = l; is_open = b })
unit_by b NoTable = no_unit

-- the marks: two octets of zero, one that is 0 or 1, zeros
pub record Marked (s : List ℕ) : Type 0 where
  pub front : zeros (take 2 (drop 3074 s)) ≡ true
  pub mark : get_or s 3076 0 ≤ 1
  pub behind : zeros (drop 3077 s) ≡ true

mark_is : (n : ℕ) → n ≤ 1 → n ≡ open_octet (eqb n 1)
mark_is zero h = refl
mark_is (suc zero) h = refl
mark_is (suc (suc n)) h = absurd (omega arith)

small_mark : (b : Bool) → open_octet b ≤ 1
small_mark true = omega arith
small_mark false = omega arith

marks_said : (s : List ℕ) → length s ≡ 3088 → Marked s → drop 3074 s ≡ mark_octets (said_unit s)
marks_said s n m =
    let long : length (drop 3074 s) ≡ 14 = rw (length-drop, n) in
    let two : take 2 (drop 3074 s) ≡ replicate 2 0 = zeros_are (take 2 (drop 3074 s)) m.front ∙ ap (λ (k : ℕ). replicate k 0) (length-take-le 2 (drop 3074 s) (subst (λ (k : ℕ). 2 ≤ k) (sym long) (omega arith))) in
    let rest : drop 3077 s ≡ replicate 11 0 = zeros_are (drop 3077 s) m.behind ∙ rw (length-drop, n) in
    let last : drop 2 (drop 3074 s) ≡ open_octet (open_in s) ∷ replicate 11 0 =
    drop-drop 2 3074 s ∙ (drop-cons s 3076 0 (omega (arith, n)) ∙ (λ i. mark_is (get_or s 3076 0) m.mark i ∷ rest i)) in
    sym (take-append-drop 2 (drop 3074 s)) ∙ (λ i. two i ++ last i)

pub record Formed (s : List ℕ) : Type 0 where
  pub few : length (said_unit s).held ≤ 256
  pub apart : distinct_held (said_unit s).held ≡ true
  pub octets : unit_octets (said_unit s) ≡ s

module _ (s : List ℕ) where
  abbrev test : Bool
  test = good_unit (said_unit s) && same (unit_octets (said_unit s)) s

  passed : test ≡ true → Formed s
  passed e =
      let f = and_left (good_unit (said_unit s)) (same (unit_octets (said_unit s)) s) e in
      record {
        few = leb-true (length (said_unit s).held) 256 (and_left (leb (length (said_unit s).held) 256) (distinct_held (said_unit s).held) f);
        apart = and_right (leb (length (said_unit s).held) 256) (distinct_held (said_unit s).held) f;
        octets = same_is (unit_octets (said_unit s)) s (and_right (good_unit (said_unit s)) (same (unit_octets (said_unit s)) s) e);
      }

  pub is_unit_lem : Formed s → read_unit s ≡ is_unit (said_unit s)
  unfolding read_unit
  is_unit_lem t =
      let o : same (unit_octets (said_unit s)) s ≡ true = ap (λ (x : List ℕ). same x s) t.octets ∙ same_self s in
      rw (le-leb (length (said_unit s).held) 256 t.few, t.apart, o)

  pub has_no_unit : (Formed s → ⊥) → read_unit s ≡ no_unit
  unfolding read_unit
  has_no_unit n = by test refl
    where
      by : (b : Bool) → test ≡ b → pick b (is_unit (said_unit s)) no_unit ≡ no_unit
      by true e = absurd (n (passed e))
      by false e = refl

  pub read_unit_lem : {u : Unit} → read_unit s ≡ is_unit u → Formed s × (said_unit s ≡ u)
  unfolding read_unit
  read_unit_lem {u} q = by test refl q
    where
      by : (b : Bool) → test ≡ b → pick b (is_unit (said_unit s)) no_unit ≡ is_unit u → Formed s × (said_unit s ≡ u)
      by true e q = (passed e, cc)
      by false e q = absurd (let z : ◌≡◌ {A = ℕ} 0 1 = cc in omega arith)

  module _ (t : Formed s) where
    front_is : table_octets (said_unit s).held ≡ take 3074 s
    front_is = sym (front_part (said_unit s) t.few) ∙ ap (take 3074) t.octets

    pub marks_are : drop 3074 s ≡ mark_octets (said_unit s)
    marks_are = sym (ap (drop 3074) t.octets) ∙ mark_part (said_unit s) t.few

    is_long : length s ≡ 3088
    is_long = sym (ap length t.octets) ∙ unit_size (said_unit s) t.few

    pub table_in_lem : table.Formed (take 3074 s)
    table_in_lem = record { few = t.few; apart = t.apart; octets = front_is }

    pub is_marked : Marked s
    unfolding zeros
    is_marked = record {
      front = rw marks_are refl;
      mark = rw (← get_or-drop 3074 s 2 0, marks_are) (small_mark (open_in s));
      behind = rw (← drop-drop 3 3074 s, marks_are) refl;
    }

  -- ---- by the parts

  pub not_long : (length s ≡ 3088 → ⊥) → read_unit s ≡ no_unit
  not_long h = has_no_unit (λ t. h (is_long t))

  pub not_marked : (Marked s → ⊥) → read_unit s ≡ no_unit
  not_marked h = has_no_unit (λ t. h (is_marked t))

  -- the table in front decides, where the marks are right
  pub by_table : length s ≡ 3088 → Marked s → read_unit s ≡ unit_by (open_in s) (read_table (take 3074 s))
  unfolding unit_octets
  by_table n z = by (read_table (take 3074 s)) refl
    where
      whole : table.Formed (take 3074 s) → Formed s
      whole t = record { few = t.few; apart = t.apart; octets = ap (λ (x : List ℕ). x ++ mark_octets (said_unit s)) t.octets ∙ (ap (λ (x : List ℕ). take 3074 s ++ x) (sym (marks_said s n z)) ∙ take-append-drop 3074 s) }

      by : (x : Lent) → read_table (take 3074 s) ≡ x → read_unit s ≡ unit_by (open_in s) x
      by (Held l) q = let t = held_table (take 3074 s) q in is_unit_lem (whole t.0) ∙ ap (λ (x : State). is_unit (record { held = x; is_open = open_in s })) t.1
      by NoTable q = has_no_unit (λ t. let y : Held (said (take 3074 s)) ≡ NoTable = sym (is_table_lem (take 3074 s) (table_in_lem t)) ∙ q in let o : ◌≡◌ {A = ℕ} 0 1 = cc in omega arith)

-- ---- the octets in front, or all where they are too few
module _ (s : List ℕ) {e : ℕ} (q : e ≡ min (length s) 3074) where
  pub front_take : take e s ≡ take 3074 s
  front_take = take_within s 3074 (length s) refl {n = e} (omega arith)

  pub front_drop : drop e s ≡ drop 3074 s
  front_drop = by (leb 3074 (length s)) refl
    where
      by : (b : Bool) → leb 3074 (length s) ≡ b → drop e s ≡ drop 3074 s
      by true t = let h = leb-true 3074 (length s) t in let k : e ≡ 3074 = omega arith in rw k
      by false t = let h = leb-false 3074 (length s) t in drop_of_length-le s {i = e} (omega arith) ∙ sym (drop_of_length-le s {i = 3074} (omega arith))

  -- what is put there, and what stands behind
  pub front_put : (f : List ℕ → List ℕ) {x : List ℕ} → x ≡ f (take e s) → x ++ drop e s ≡ on_front f s
  front_put f p = ap (◌++ drop e s) p ∙ (λ i. f (front_take i) ++ front_drop i)
