-- Demand 1: one answer of 01's list, what is lent is left as 01 says, a unit in is a unit out, and a reply reads back.
-- Assumes nothing.
use Prim.Native.Nat.{ℕ}
use mathlib.Core.Path.{◌≡◌, refl}
use mathlib.Core.Bool.{Bool, true, false}
use mathlib.Core.List.{List, []}
use Rattle.editions.specs.declared.Edition.{Edition}
use Rattle.meaning.specs.Value.{Said}
use Rattle.round_trips.specs.Ties.{ReadAs}
use Rattle.units.specs.Unit.{Unit, MaybeUnit, is_unit, no_unit, read_unit}
use Rattle.replies.specs.Replies.{Replied, silent, says, reply_octets}
use Rattle.calls.specs.Decided.{Decided, keeps, changes, fails}
use Rattle.calls.specs.Call.{Call, settled_if, fits, settled, on_unit, call, replied_in, decided_on}
use Rattle.demands.specs.Answered.{Handed, ReadsBack, Demand1}
use Rattle.demands.proofs.Settle.{answered, none_said}
use Rattle.demands.proofs.Written.{Spoken}
use Rattle.demands.proofs.Decisions.{Sure}
use Rattle.demands.proofs.UnitOut.{sure, call_on, unit_out}

module _ (e : Edition) where
  reads_back : (r : Replied) → Spoken e r → (reply_octets e r ≡ [] → ⊥) → ReadsBack e (reply_octets e r)
  reads_back silent s h = absurd (h (none_said e))
  reads_back (says w) s h = let b = s.back in record { what = b.what; read = b.read; accepted = b.accepted; noted = b.noted }

  settled_back : (t d : List ℕ) (b : Bool) (x : Decided) → Sure e x → ((settled_if e b t d x).reply ≡ [] → ⊥) → ReadsBack e (settled_if e b t d x).reply
  settled_back t d true (keeps a r) s h = reads_back r s h
  settled_back t d true (changes l r) s h = reads_back r s.0 h
  settled_back t d true (fails l v r) s h = reads_back r s.0 h
  settled_back t d false x s h = absurd (h refl)

  reply_back : (t : List ℕ) (c : Call) → Handed t c → ((call e t c).reply ≡ [] → ⊥) → ReadsBack e (call e t c).reply
  unfolding call settled
  reply_back t c h = by (read_unit t) refl
    where
      by : (x : MaybeUnit) → read_unit t ≡ x → ((on_unit e t c x).reply ≡ [] → ⊥) → ReadsBack e (on_unit e t c x).reply
      by (is_unit u) q k =
          let x : Decided = decided_on e u c in
          settled_back t c.room (fits e c.room x) x (sure e t c u h q) k
      by no_unit q k = absurd (k refl)

  says_back : (r : Replied) (w : Said) → Spoken e r → r ≡ says w → ReadAs e (reply_octets e r) w
  says_back silent w s q = cc
  says_back (says v) w s q = let z : v ≡ w = cc in rw (← z) s.back

  settled_says : (t d : List ℕ) (x : Decided) (w : Said) → Sure e x → fits e d x ≡ true → replied_in x ≡ says w → ReadAs e (settled e t d x).reply w
  unfolding settled
  settled_says t d (keeps a r) w s f h = rw f (says_back r w s h)
  settled_says t d (changes l r) w s f h = rw f (says_back r w s.0 h)
  settled_says t d (fails l v r) w s f h = rw f (says_back r w s.0 h)

  reply_says : (t : List ℕ) (c : Call) (u : Unit) (w : Said) → Handed t c → read_unit t ≡ is_unit u → fits e c.room (decided_on e u c) ≡ true → replied_in (decided_on e u c) ≡ says w
      → ReadAs e (call e t c).reply w
  reply_says t c u w h q f k = rw (call_on e t c u q) (settled_says t c.room (decided_on e u c) w (sure e t c u h q) f k)

  pub demand_1 : Demand1 e
  demand_1 = record { answered = answered e; unit = unit_out e; reply = reply_back; spoken = reply_says }
