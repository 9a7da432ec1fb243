-- Changing places on a small unit: of the pairs 1, 11 and 2, 12 the first is reset, next to a start of 3, 13 and next to a stop of 2, 12.
-- Assumes nothing.
use Rattle.std.specs.Prelude.{None, Some}
use Prim.Native.Nat.{ℕ}
use mathlib.Core.Bool.{false}
use mathlib.Core.Path.{◌≡◌, refl, sym, subst}
use mathlib.Core.List.Memᴰ
use mathlib.Core.List.{List, [], ◌∷◌, Memᴰ}
use native.Mathlib.Omega.{arith}
use Rattle.octets.specs.Stands.{Octets}
use Rattle.identity.specs.declared.Item.{Item}
use Rattle.items.specs.Written.{GoodItems}
use Rattle.editions.specs.declared.Edition.TheVariants.{Release18}
use Rattle.table.specs.declared.Association.{Association}
use Rattle.table.specs.Table.{named, without, distinct_held}
use Rattle.lent.specs.Lent.{row_octets, IdentitiesInRange}
use Rattle.units.specs.Unit.{Unit, unit_octets, GoodUnit}
use Rattle.requests.specs.declared.Request.TheVariants as request
use Rattle.demands.specs.Words.{Lends}
use Rattle.demands.specs.Resets.{SomeNeighbours}
use Rattle.demands.proofs.AllOctets.{all_join, all_number, all_zeros}
use Rattle.demands.proofs.States.{unit_lent}
use Rattle.demands.proofs.PlacesReal.{changing_places_is_real}

-- MME and MCE identity, and a TMGI of zeros
abbrev pair : ℕ → ℕ → Association
pair m c = record {
  mme = record { 0 = m };
  mce = record { 0 = c };
  tmgi = record { plmn = record { 0 = 0; 1 = 0; 2 = 0 }; service = record { 0 = 0; 1 = 0; 2 = 0 } };
  session = None;
}

abbrev two : Unit
two = record { held = pair 1 11 ∷ pair 2 12 ∷ []; is_open = false }

-- the item that names MME identity 1
abbrev items : List Item
items = record { mme = Some (record { 0 = 1 }); mce = None } ∷ []

-- the reset is not idle
leaves : without items two.held ≡ pair 2 12 ∷ []
unfolding without named
leaves = refl

row_octets_lem : (m c : ℕ) → Octets (row_octets (pair m c))
row_octets_lem m c = (all_join (all_join (all_join (all_join (all_number 2 m) (all_number 2 c)) (all_zeros 3)) (all_zeros 3)) (all_zeros 2)).octets

in_two : (P : Association → Type 0) → P (pair 1 11) → P (pair 2 12) → (a : Association) → Memᴰ a two.held → P a
in_two P x y a (Memᴰ.head e) = subst P (sym e) x
in_two P x y a (Memᴰ.tail (Memᴰ.head e)) = subst P (sym e) y
in_two P x y a (Memᴰ.tail (Memᴰ.tail m)) = absurd (Memᴰ.not-nil m)

good : GoodUnit two
unfolding distinct_held
good = record { held = record { few = omega arith; apart = refl; each = in_two IdentitiesInRange (record { mme = omega arith; mce = omega arith }) (record { mme = omega arith; mce = omega arith }) } }

lent : Lends (unit_octets two) two
lent = unit_lent two good (in_two (λ (a : Association). Octets (row_octets a)) (row_octets_lem 1 11) (row_octets_lem 2 12))

one_item : GoodItems items
one_item = (omega arith, omega arith, ((omega arith, tt), tt))

example_start : SomeNeighbours Release18 (unit_octets two) two (request.Start (record { 0 = 3 }) (pair 3 13).tmgi None) items
unfolding named
example_start =
    (changing_places_is_real Release18 refl).starts (unit_octets two) two (pair 3 13) items lent (record { mme = omega arith; mce = omega arith }) (row_octets_lem 3 13) (omega arith) refl refl one_item refl

example_stop : SomeNeighbours Release18 (unit_octets two) two (request.Stop (record { 0 = 2 }) (record { 0 = 12 })) items
unfolding named
example_stop = (changing_places_is_real Release18 refl).stops (unit_octets two) two (pair 2 12) items lent (Memᴰ.tail (Memᴰ.head refl)) one_item refl
