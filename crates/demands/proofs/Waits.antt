-- Only a setup that failed hands back a time to wait.
-- Assumes nothing.
use Rattle.std.specs.Prelude.{Option, Ok, Err}
use Prim.Native.Nat.{ℕ}
use mathlib.Core.Path.{◌≡◌, refl}
use mathlib.Core.Bool.{Bool, true, false, not, ◌&&◌}
use mathlib.Core.List.{List}
use Rattle.lists.specs.Lists.{pick}
use Rattle.lists.proofs.Tests.{on-pick}
use Rattle.octets.specs.declared.Stop.TheVariants.{Fault, Extension}
use Rattle.identity.specs.declared.MmeId.{MmeId}
use Rattle.identity.specs.declared.MceId.{MceId}
use Rattle.identity.specs.declared.Tmgi.{Tmgi}
use Rattle.identity.specs.declared.Item.{Item}
use Rattle.entries.specs.declared.Entry.{Entry}
use Rattle.editions.specs.declared.Edition.{Edition}
use Rattle.frames.specs.declared.Frame.{Frame}
use Rattle.verdicts.specs.declared.Refusal.{Refusal}
use Rattle.verdicts.specs.declared.Refusal.TheVariants as refusal
use Rattle.verdicts.specs.Verdict.{Verdict, refused, understood, Understood}
use Rattle.table.specs.declared.Standing.{Standing}
use Rattle.table.specs.Table.{standing}
use Rattle.units.specs.Unit.{Unit, MaybeUnit, is_unit, no_unit, read_unit}
use Rattle.replies.specs.Replies.{silent}
use Rattle.requests.specs.declared.Request.{Request}
use Rattle.requests.specs.declared.Request.TheVariants as request
use Rattle.requests.specs.Requests.{ask_of, seen, items_in}
use Rattle.carry.specs.declared.Answer.TheVariants as answer
use Rattle.carry.specs.declared.Decision.{Decision}
use Rattle.carry.specs.Carry.{Ruling, refusal, started, stopped, carried_out, asked, ruling}
use Rattle.answers.specs.Answers.{numbered}
use Rattle.calls.specs.Judged.{ruled, judged_by, judged, verdict, setup_answer}
use Rattle.calls.specs.Decided.{Decided, keeps, applied, decided}
use Rattle.calls.specs.Call.{Call, answer_of, settled_if, fits, settled, decided_on, on_unit, call}
use Rattle.demands.specs.Words.{Asks}

abbrev wait_in : Decided → ℕ
wait_in x = (numbered (answer_of x)).wait

refusal_waits : (x : Refusal) → (numbered (refusal x)).wait ≡ 0
refusal_waits refusal.TooLong = refl
refusal_waits (refusal.Stopped (Fault p)) = refl
refusal_waits (refusal.Stopped (Extension p)) = refl
refusal_waits refusal.NotAmong = refl

module _ (e : Edition) where
  module _ (u : Unit) (f : Frame) (items : List Item) (noted : List Entry) (k : Standing) (c : MceId) where
    abbrev Not : Decision → Type 0
    Not d = wait_in (applied e u f items noted d) ≡ 0

    start_waits : (m : MmeId) (t : Tmgi) (s : Option ℕ) → Not (started k c m t s)
    unfolding started
    start_waits m t s = on-pick Not k.mme refl (on-pick Not k.mce refl (on-pick Not k.full refl refl))

    stop_waits : (m : MmeId) (x : MceId) → Not (stopped k m x)
    unfolding stopped
    stop_waits m x = on-pick Not k.pair refl refl

    carried_waits : (q : Request) → (Not (carried_out k c q) → ⊥) → (w : Option ℕ) × (q ≡ request.SetupFailure w)
    carried_waits (request.Start m t s) h = absurd (h (start_waits m t s))
    carried_waits (request.Stop m x) h = absurd (h (stop_waits m x))
    carried_waits request.Whole h = absurd (h refl)
    carried_waits request.Part h = absurd (h refl)
    carried_waits request.Indication h = absurd (h refl)
    carried_waits request.SetupResponse h = absurd (h refl)
    carried_waits (request.SetupFailure w) h = (w, refl)

  ruled_waits : (u : Unit) (c : MceId) (w : Understood) (r : Ruling) → (wait_in (decided e u c (ruled e w r)) ≡ 0 → ⊥) → (v : Option ℕ) × Asks (ruled e w r) (request.SetupFailure v)
  unfolding decided
  ruled_waits u c w (Ok q) h =
      let x = carried_waits u w.frame (items_in w.what) w.noted (standing (asked c q) u.held) c q h in
      (x.0, record { what = record { request = q; items = items_in w.what; frame = w.frame; noted = w.noted }; accepted = refl; request = x.1 })
  ruled_waits u c w (Err r) h = absurd (h refl)

  judged_waits : (u : Unit) (c : MceId) (v : Verdict) → (wait_in (decided e u c (judged_by e v)) ≡ 0 → ⊥) → (w : Option ℕ) × Asks (judged_by e v) (request.SetupFailure w)
  unfolding decided judged_by
  judged_waits u c (refused x) h = absurd (h (refusal_waits x))
  judged_waits u c (understood w) h = ruled_waits u c w (ruling (ask_of w.what.message) (seen w.what.values) w.outcome) h

  module _ (c : Call) where
    abbrev Failed : Type 0
    Failed = (w : Option ℕ) × Asks (judged e c.message) (request.SetupFailure w)

    decided_waits : (u : Unit) → (wait_in (decided_on e u c) ≡ 0 → ⊥) → Failed
    unfolding decided_on
    decided_waits u = by (setup_answer e c.message && not u.is_open)
      where
        by : (b : Bool) → (wait_in (pick b (keeps answer.NoneOpen silent) (decided e u c.offered (judged e c.message))) ≡ 0 → ⊥) → Failed
        by true h = absurd (h refl)
        by false h = judged_waits u c.offered (verdict e c.message) h

    pub call_waits : (t : List ℕ) → ((numbered (call e t c).answer).wait ≡ 0 → ⊥) → Failed
    unfolding call settled
    call_waits t = by (read_unit t)
      where
        fit : (b : Bool) (u : Unit) → ((numbered (settled_if e b t c.room (decided_on e u c)).answer).wait ≡ 0 → ⊥) → Failed
        fit true u h = decided_waits u h
        fit false u h = absurd (h refl)

        by : (x : MaybeUnit) → ((numbered (on_unit e t c x).answer).wait ≡ 0 → ⊥) → Failed
        by (is_unit u) h = fit (fits e c.room (decided_on e u c)) u h
        by no_unit h = absurd (h refl)
