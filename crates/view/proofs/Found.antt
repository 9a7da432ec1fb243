-- What was looked up: where octets are a unit, it holds the rows that the table in front has.
-- Assumes nothing.
use Rattle.std.specs.Prelude.{None, Option, Some}
use Rattle.std.specs.Option.{is_some}
use Prim.Native.Nat.{ℕ, ◌≤◌}
use mathlib.Core.Path.{◌≡◌, refl, ap, sym, ◌∙◌}
use mathlib.Core.Bool.{true≢false}
use mathlib.Core.List.{List}
use native.Mathlib.Omega.{arith}
use lib.ListN.{length, take, drop}
use Rattle.identity.specs.declared.Item.{Item}
use Rattle.table.specs.Table.{State}
use Rattle.octets.specs.Field.{value_at}
use Rattle.lent.specs.declared.Looked.{Looked}
use Rattle.lent.specs.Lent.{rows_of}
use Rattle.lent.proofs.Rows.{length_rows}
use Rattle.units.specs.Unit.{Unit, MaybeUnit, is_unit, no_unit, open_in, read_unit, looked_in}
use Rattle.units.proofs.Parts.{read_unit_lem}
use Rattle.units.proofs.OneForm.{one_unit}

-- the first n rows of the table in front
abbrev pub front : ℕ → List ℕ → State
front n s = rows_of n (drop 2 (take 3074 s))

pub record Found (s : List ℕ) (n : ℕ) : Type 0 where
  pub unit : read_unit s ≡ is_unit (record { held = front n s; is_open = open_in s })
  pub few : n ≤ 256
  pub long : length s ≡ 3088
  pub count : length (front n s) ≡ n

abbrev rows_said : ℕ → Option Looked → ℕ
rows_said n (Some l) = l.count
rows_said n None = n

module _ (s : List ℕ) (i : Item) where
  pub found : {l : Looked} → Some l ≡ looked_in i (read_unit s) → Found s l.count
  found {l} e = by (read_unit s) refl
    where
      by : (r : MaybeUnit) → read_unit s ≡ r → Found s l.count
      by (is_unit u) q =
          let n = l.count in
          let m : n ≡ length u.held = ap (rows_said n) (e ∙ ap (looked_in i) q) in
          let r : front (value_at 2 (take 3074 s) 0) s ≡ u.held = ap (λ (x : Unit). x.held) (read_unit_lem s q).1 in
          let w : n ≡ value_at 2 (take 3074 s) 0 = m ∙ ap length (sym r) ∙ length_rows _ _ in
          let g = one_unit.good s u q in
          record {
            unit = q ∙ ap is_unit (sym (read_unit_lem s q).1) ∙ ap (λ (x : ℕ). is_unit (record { held = front x s; is_open = open_in s })) (sym w);
            few = omega (arith, m, g.held.few);
            long = ap length (sym (one_unit.again s u q)) ∙ one_unit.size u g;
            count = length_rows n (drop 2 (take 3074 s));
          }
      by no_unit q = absurd (true≢false (ap is_some (e ∙ ap (looked_in i) q)))

  pub has_no_unit : None ≡ looked_in i (read_unit s) → read_unit s ≡ no_unit
  has_no_unit e = by (read_unit s) refl
    where
      by : (r : MaybeUnit) → read_unit s ≡ r → read_unit s ≡ no_unit
      by no_unit q = q
      by (is_unit u) q = absurd (true≢false (sym (ap is_some (e ∙ ap (looked_in i) q))))
