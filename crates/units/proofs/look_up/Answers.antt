-- Another length, or a mark that may not be set, is no unit; else the table in front decides.
use mathlib.Core.Path.{◌≡◌, refl, sym, ap, ◌∙◌}
use mathlib.Core.Bool.{Bool, true, false, true≢false}
use mathlib.Core.List.{List}
use Prim.Native.Nat.{ℕ}
use native.Mathlib.Omega.{arith}
use lib.ListN.{take}
use lib.Seq.{length-take-le}
use Rattle.lent.specs.Lent.{Lent, Held, NoTable, read_table, looked_up}
use Rattle.lent.specs.Tests.{zeros}
use Rattle.lent.proofs.Reading.{tail_part}
use Rattle.identity.specs.declared.Item.{Item}
use Rattle.units.specs.Unit.{open_in, looked_in, read_unit, no_unit}
use Rattle.units.proofs.Parts.{not_long, Marked, not_marked, unit_by, by_table}
use Rattle.units.proofs.look_up.Goals as goal

looked_up_lem : (i : Item) (b : Bool) (x : Lent) → looked_up i x ≡ looked_in i (unit_by b x)
looked_up_lem i b (Held l) = refl
looked_up_lem i b NoTable = refl

-- octets that are not zero where they have to be
not_zeros : (s : List ℕ) {r b : Bool} → r ≡ b → r ≡ false → (Marked s → b ≡ true) → read_unit s ≡ no_unit
not_zeros s e q f = not_marked s (λ m. true≢false (sym (f m) ∙ (sym e ∙ q)))

pub returns-then-unit-ne3088 : goal.returns-then-unit-ne3088
returns-then-unit-ne3088 c = rw (not_long c.args.unit.now c.if-unit-ne3088.true)

pub returns-then-unit-gt1 : goal.returns-then-unit-gt1
returns-then-unit-gt1 c = rw (not_marked c.args.unit.now (λ m. let h = m.mark in let k = c.if-unit-gt1.true in omega arith))

pub returns-then-not-all_zero : goal.returns-then-not-all_zero
returns-then-not-all_zero c = let s = c.args.unit.now in rw (not_zeros s c.all_zero.ensures c.if-not-all_zero.true (λ m. m.front))

pub returns-then-not-all_zero-2 : goal.returns-then-not-all_zero-2
returns-then-not-all_zero-2 c = let s = c.args.unit.now in rw (not_zeros s (c.all_zero-2.ensures ∙ ap zeros (tail_part s 3077)) c.if-not-all_zero-2.true (λ m. m.behind))

pub slice_bounds-look_up-end : goal.slice_bounds-look_up-end
slice_bounds-look_up-end c = sym (length-take-le 3074 c.args.unit.now (omega arith))

pub returns : goal.returns
returns c = let s = c.args.unit.now in
    let m : Marked s = record {
      front = sym c.all_zero.ensures ∙ c.if-not-all_zero.false;
      mark = c.if-unit-gt1.false;
      behind = sym (c.all_zero-2.ensures ∙ ap zeros (tail_part s 3077)) ∙ c.if-not-all_zero-2.false;
    } in
    rw (by_table s (omega arith) m) (c.look_up.ensures ∙ looked_up_lem c.args.item (open_in s) (read_table (take 3074 s)))
