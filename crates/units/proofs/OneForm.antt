-- A unit has one form: what is said comes first, and why below.
use Prim.Native.Nat.{ℕ}
use mathlib.Core.Path.{◌≡◌, refl, ap, sym, ◌∙◌}
use mathlib.Core.Bool.{Bool}
use mathlib.Core.List.{List, [], ◌∷◌, ◌++◌, append_assoc}
use native.Mathlib.Omega.{arith}
use lib.ListN.{length, take, drop, replicate, length-append}
use lib.Seq.{set_at}
use Rattle.octets.specs.Stands.{StaysDifferent}
use Rattle.lent.specs.Lent.{table_octets, rows_octets, said, Held, read_table}
use Rattle.lent.proofs.OneForm.{one_form}
use Rattle.lent.proofs.Reading.{is_table_lem, held_table, length_table}
use Rattle.octets.specs.Write.{number_octets}
use Rattle.units.specs.Unit.{Unit, fresh, with_open, open_octet, open_out, mark_octets, open_in, unit_octets, said_unit, is_unit, no_unit, read_unit, GoodUnit}
use Rattle.units.proofs.Parts.{front_part, mark_part_said, unit_size, is_unit_lem, read_unit_lem, table_in_lem, marks_are}

pub record OneUnit : Type 0 where
  pub size : (u : Unit) → GoodUnit u → length (unit_octets u) ≡ 3088
  -- reading what was written gives the unit
  pub back : (u : Unit) → GoodUnit u → read_unit (unit_octets u) ≡ is_unit u
  -- writing what was read gives the octets
  pub again : (s : List ℕ) (u : Unit) → read_unit s ≡ is_unit u → unit_octets u ≡ s
  -- what is read can be remembered
  pub good : (s : List ℕ) (u : Unit) → read_unit s ≡ is_unit u → GoodUnit u
  -- octets that are refused are not those of any
  pub none : (s : List ℕ) (u : Unit) → read_unit s ≡ no_unit → GoodUnit u → unit_octets u ≡ s → ⊥
  -- so two units that differ have octets that differ,
  pub different : StaysDifferent GoodUnit unit_octets
  -- and octets that are the same unit are the same
  pub one : (s t : List ℕ) (u : Unit) → read_unit s ≡ is_unit u → read_unit t ≡ is_unit u → s ≡ t
  -- the fresh unit is all zero octets
  pub zero : unit_octets fresh ≡ replicate 3088 0

-- ==== why

-- the table in front, and the marks behind it
pub table_of : (s : List ℕ) (u : Unit) → read_unit s ≡ is_unit u → read_table (take 3074 s) ≡ Held u.held
table_of s u q =
    let t = read_unit_lem s q in
    is_table_lem (take 3074 s) (table_in_lem s t.0) ∙ ap (λ (x : Unit). Held x.held) t.1

pub marks_of_lem : (s : List ℕ) (u : Unit) → read_unit s ≡ is_unit u → drop 3074 s ≡ mark_octets u
marks_of_lem s u q = let t = read_unit_lem s q in marks_are s t.0 ∙ ap mark_octets t.1

good_is : (s : List ℕ) (u : Unit) → read_unit s ≡ is_unit u → GoodUnit u
good_is s u q = record { held = one_form.table (take 3074 s) u.held (table_of s u q) }

again_is : (s : List ℕ) (u : Unit) → read_unit s ≡ is_unit u → unit_octets u ≡ s
again_is s u q = let t = read_unit_lem s q in rw (← t.1) t.0.octets

back_is : (u : Unit) → GoodUnit u → read_unit (unit_octets u) ≡ is_unit u
back_is u g =
    let t = held_table (table_octets u.held) (one_form.back u.held g.held) in
    let h : said (take 3074 (unit_octets u)) ≡ u.held = ap said (front_part u g.held.few) ∙ t.1 in
    let o : open_in (unit_octets u) ≡ u.is_open = mark_part_said u g.held.few in
    let e : said_unit (unit_octets u) ≡ u = λ i. record { held = h i; is_open = o i } in
    is_unit_lem (unit_octets u) (record { few = rw h g.held.few; apart = rw h g.held.apart; octets = ap unit_octets e }) ∙ ap is_unit e

same_unit : {u v : Unit} → is_unit u ≡ is_unit v → u ≡ v
same_unit q = cc

pub one_unit : OneUnit
unfolding unit_octets rows_octets number_octets
one_unit = record {
  size = λ u g. unit_size u g.held.few;
  back = back_is;
  again = again_is;
  good = good_is;
  none = λ s u q g e. let z : is_unit u ≡ no_unit = sym (back_is u g) ∙ (ap read_unit e ∙ q) in let o : ◌≡◌ {A = ℕ} 0 1 = cc in omega arith;
  different = λ u v a b e. same_unit (sym (back_is u a) ∙ (ap read_unit e ∙ back_is v b));
  one = λ s t u p q. sym (again_is s u p) ∙ again_is t u q;
  zero = refl;
}

-- the mark of a setup request put into a unit's octets: that changes, and nothing else
pub mark_put : (s : List ℕ) (u : Unit) → read_unit s ≡ is_unit u → (b : Bool) → open_out b s ≡ unit_octets (with_open b u)
unfolding unit_octets
mark_put s u q b =
    let t = table_octets u.held in
    let few = (good_is s u q).held.few in
    let n : length (t ++ (0 ∷ 0 ∷ [])) ≡ 3076 = rw (length-append, length_table u.held few) in
    let front : (x : ℕ) → (t ++ (0 ∷ 0 ∷ [])) ++ (x ∷ replicate 11 0) ≡ t ++ (0 ∷ 0 ∷ x ∷ replicate 11 0) = λ x. append_assoc t (0 ∷ 0 ∷ []) (x ∷ replicate 11 0) in
    ap (open_out b) (sym (again_is s u q) ∙ sym (front (open_octet u.is_open))) ∙ (set_at (t ++ (0 ∷ 0 ∷ [])) (open_octet u.is_open) (replicate 11 0) (open_octet b) 3076 n ∙ front (open_octet b))
