-- A lent unit holds what a unit can remember, in its octets; and what a partial reset leaves is a lent unit again.
-- Assumes nothing.
use Prim.Native.Nat.{ℕ}
use mathlib.Core.Path.{◌≡◌}
use mathlib.Core.List.{List, Memᴰ}
use Rattle.octets.specs.Stands.{Octets}
use Rattle.identity.specs.declared.Item.{Item}
use Rattle.table.specs.declared.Association.{Association}
use Rattle.table.proofs.Rules.{resets}
use Rattle.lent.specs.Lent.{row_octets}
use Rattle.units.specs.Unit.{Unit, unit_octets, GoodUnit}
use Rattle.units.proofs.OneForm.{one_unit}
use Rattle.demands.specs.Words.{Lends, reset_by}
use Rattle.demands.proofs.Decisions.{without_good}
use Rattle.demands.proofs.AllOctets.{octets_unit, octets_held}

module _ {t : List ℕ} {u : Unit} (h : Lends t u) where
  pub lent_good : GoodUnit u
  lent_good = one_unit.good t u h.read

  pub lent_octets : unit_octets u ≡ t
  lent_octets = one_unit.again t u h.read

pub unit_lent : (u : Unit) → GoodUnit u → ((a : Association) → Memᴰ a u.held → Octets (row_octets a)) → Lends (unit_octets u) u
unit_lent u g o = record { octets = octets_unit u o; read = one_unit.back u g }

pub reset_good_lem : (u : Unit) → GoodUnit u → (items : List Item) → GoodUnit (reset_by items u)
reset_good_lem u g items = record { held = without_good u.held g.held items }

pub reset_lent : {t : List ℕ} {u : Unit} → Lends t u → (items : List Item) → Lends (unit_octets (reset_by items u)) (reset_by items u)
reset_lent {t} {u} h items =
    let o : Octets (unit_octets u) = rw (lent_octets h) h.octets in
    unit_lent (reset_by items u) (reset_good_lem u (lent_good h) items) (λ a m. octets_held u o a ((resets.left items u.held a).0 m).0)
