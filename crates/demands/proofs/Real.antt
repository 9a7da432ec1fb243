-- Dealing is not empty: partial resets have 1 to 256 items, any such list has a message, any unit accepts it, and so there are runs of them.
-- Assumes nothing.
use Prim.Native.Nat.{ℕ, ◌≤◌}
use mathlib.Core.Bool.{true}
use mathlib.Core.Path.{◌≡◌, refl, sym, subst}
use mathlib.Core.List.{List, [], ◌∷◌}
use native.Mathlib.Omega.{arith}
use lib.ListN.{length, length-replicate, replicate}
use Rattle.octets.specs.Stands.{Octets}
use Rattle.octets.specs.Many.{Each}
use Rattle.identity.specs.declared.Item.{Item}
use Rattle.values.specs.declared.Cause.{Cause}
use Rattle.values.specs.Written.{GoodCause}
use Rattle.items.specs.Written.{GoodItems}
use Rattle.editions.specs.declared.Edition.{Edition}
use Rattle.editions.specs.Editions.{of_m3ap}
use Rattle.units.specs.Unit.{Unit, is_unit, read_unit}
use Rattle.calls.specs.Judged.{judged}
use Rattle.calls.specs.Call.{Call, call}
use Rattle.demands.specs.Answered.{number_of}
use Rattle.demands.specs.Words.{Lends, reset_by, PartialReset, Resets, reset_message, joined, none, more}
use Rattle.demands.specs.Resets.{ResetRun, DealingIsReal}
use Rattle.demands.proofs.JudgedSound.{judged_sound}
use Rattle.demands.proofs.Done.{reset_decided}
use Rattle.demands.proofs.States.{lent_good, unit_lent, reset_lent}
use Rattle.demands.proofs.Runs.{reset_unit}
use Rattle.demands.proofs.Carrying.{reset_octets_lem, reset_carries}
use Rattle.demands.proofs.Granted.{granted}

abbrev pub some_cause : Cause
some_cause = record { group = 0; value = 0 }

module _ (e : Edition) where
  -- a partial reset has 1 to 256 items
  pub reset_sizes : (s : List ℕ) (items : List Item) → Octets s → PartialReset (judged e s) items → GoodItems items
  reset_sizes s items o p =
      let g = judged_sound e s o p.asks.what p.asks.accepted in
      subst GoodItems p.items (g.some p.asks.request, g.items.few, g.items.each)

  -- ---- a run for any lists of items

  pub reset_granted : (t : List ℕ) (c : Call) (u : Unit) (items : List Item) → read_unit t ≡ is_unit u → Resets e c items → 8192 ≤ length c.room → number_of e t c ≡ 0
  reset_granted t c u items q p b = granted e t c u q b (reset_decided e u c p) refl

  abbrev pub some_call : List Item → Call
  some_call items = record { message = reset_message e some_cause items; offered = record { 0 = 0 }; room = replicate 8192 0 }

  module _ (j : of_m3ap e ≡ true) where
    dealt : (t : List ℕ) (u : Unit) (lists : List (List Item)) → Lends t u → Each GoodItems lists → (cs : List Call) × ResetRun e t u cs (joined lists)
    unfolding joined
    dealt t u [] h g = ([], record { unit = h; messages = none; accepted = tt })
    dealt t u (items ∷ lists) h g =
        let c : Call = some_call items in
        let k : GoodCause some_cause = omega arith in
        let p = reset_carries e some_cause items k j g.0 in
        let a = reset_granted t c u items h.read p (rw (length-replicate {A = ℕ}) (omega arith)) in
        let q = reset_unit e t c u items (lent_good h) h.read p a in
        let r = dealt (call e t c).unit (reset_by items u) lists (subst (λ (x : List ℕ). Lends x (reset_by items u)) (sym q) (reset_lent h items)) g.1 in
        (c ∷ r.0, record { unit = h; messages = more (reset_octets_lem e some_cause items k) p r.1.messages; accepted = (a, r.1.accepted) })

    pub dealing_is_real : DealingIsReal e
    dealing_is_real = record {
      units = unit_lent;
      sizes = λ c items o p. reset_sizes c.message items o p;
      written = λ k items g h. (reset_octets_lem e k items g, reset_carries e k items g j h);
      granted = λ t u c items h p b. reset_granted t c u items h.read p b;
      dealt = dealt;
    }
