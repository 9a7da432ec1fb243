-- Demand 3, in each edition of M3AP.
-- Assumes nothing.
use mathlib.Core.Path.{◌≡◌}
use mathlib.Core.Bool.{true}
use Rattle.editions.specs.declared.Edition.{Edition}
use Rattle.editions.specs.Editions.{of_m3ap}
use Rattle.demands.specs.Resets.{Demand3}
use Rattle.demands.proofs.Dealing.{dealing}
use Rattle.demands.proofs.Places.{changing}
use Rattle.demands.proofs.Real.{dealing_is_real}
use Rattle.demands.proofs.PlacesReal.{changing_places_is_real}
use Rattle.demands.proofs.Asks.{none_left_out}

pub demand_3 : (e : Edition) → of_m3ap e ≡ true → Demand3 e
demand_3 e j = record {
  dealing = dealing e;
  places = changing e;
  dealing_real = dealing_is_real e j;
  places_real = changing_places_is_real e j;
  none_left_out = none_left_out e;
}
