-- What is shown of a unit is what it holds: `Shows`.
-- Assumes nothing.
use Rattle.std.specs.Prelude.{None, Option, Some}
use Prim.Native.Nat.{ℕ}
use mathlib.Core.Path.{◌≡◌, refl, ap, sym, ◌∙◌}
use mathlib.Core.Bool.{false}
use mathlib.Core.List.{List, [], ◌∷◌, map}
use borrow.Author.Tests.{le-leb}
use lib.ListN.{length, get_or, get_or-eq_default}
use lib.Seq.{ext_get_or}
use Rattle.identity.specs.declared.Tmgi.{Tmgi}
use Rattle.table.specs.declared.Association.{Association}
use Rattle.lists.specs.Lists.{some}
use Rattle.table.specs.Table.{State, empty_association}
use Rattle.units.specs.Unit.{Unit, is_unit, read_unit}
use Rattle.units.proofs.OneForm.{one_unit}
use Rattle.console.specs.Console.{stands_for, is_table, counted, elsewhere, counted_run}
use Rattle.view.specs.declared.Row.{Row}
use Rattle.view.specs.View.{record_of, row_for, count_for}
use Rattle.view.specs.Shows.{Shows}

-- a record stands for what it was made of
stands : (a : Association) → stands_for (record_of a) ≡ a
stands a = by a.session
  where
    by : (x : Option ℕ) → stands_for (record_of (record { mme = a.mme; mce = a.mce; tmgi = a.tmgi; session = x })) ≡ record { mme = a.mme; mce = a.mce; tmgi = a.tmgi; session = x }
    by (Some v) = refl
    by None = refl

different_are : (a b : Association) → record_of a ≡ record_of b → a ≡ b
different_are a b e = sym (stands a) ∙ ap stands_for e ∙ stands b

same_are : (u v : Unit) → ((k : ℕ) → row_for (is_unit u) k ≡ row_for (is_unit v) k) → u.held ≡ v.held
same_are u v h =
    ext_get_or empty_association u.held v.held (ap (λ (r : Row). r.held) (h 0)) (λ k b. different_are _ _ (ap (λ (r : Row). r.association) (h k)))

count_is : (s : List ℕ) (u : Unit) → read_unit s ≡ is_unit u → (t : Tmgi) → count_for (read_unit s) t ≡ counted t u.held
unfolding counted is_table
count_is s u q t = let g = one_unit.good s u q in rw (q, le-leb (length u.held) 256 g.held.few, g.held.apart)

run_is : (l : State) (t : Tmgi) → counted_run t (map record_of l) ≡ counted t l
unfolding counted_run
run_is l t = rw (here l, back l)
  where
    here : (l : State) → some elsewhere (map record_of l) ≡ false
    here [] = refl
    here (a ∷ l) = here l

    back : (l : State) → map stands_for (map record_of l) ≡ l
    back [] = refl
    back (a ∷ l) = λ i. stands a i ∷ back l i

pub shows : Shows
shows = record {
  each = λ u k h. stands (get_or u.held k empty_association);
  behind = λ u k h. ap record_of (get_or-eq_default u.held empty_association h);
  different = different_are;
  same = same_are;
  count = count_is;
  run = λ u t. run_is u.held t;
}
