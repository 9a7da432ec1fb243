-- Changing places: a session's start or stop and a partial reset next to each other leave the same octets and the same replies in either order.
-- Assumes nothing.
use Prim.Native.Nat.{ℕ, ◌<◌}
use mathlib.Core.Path.{◌≡◌, refl, ap, sym, subst, ◌∙◌}
use mathlib.Core.Bool.{false, not, ◌&&◌}
use mathlib.Core.List.{List, ◌++◌}
use Rattle.lists.specs.Lists.{pick}
use Rattle.lists.proofs.Tests.{or_left}
use Rattle.identity.specs.declared.Item.{Item}
use Rattle.editions.specs.declared.Edition.{Edition}
use Rattle.table.specs.declared.Association.{Association}
use Rattle.table.specs.Table.{State, named, without, starting, stopping}
use Rattle.table.proofs.Rules.{changing_places}
use Rattle.units.specs.Unit.{Unit, is_unit, read_unit, unit_octets, with_held, GoodUnit}
use Rattle.units.proofs.OneForm.{one_unit}
use Rattle.requests.specs.declared.Request.{Request}
use Rattle.requests.specs.declared.Request.TheVariants as request
use Rattle.replies.specs.declared.Reply.TheVariants as reply
use Rattle.replies.specs.Replies.{Replied, silent}
use Rattle.carry.specs.declared.Answer.TheVariants as answer
use Rattle.calls.specs.Judged.{Accepted, Judged, judged, setup_answer}
use Rattle.calls.specs.Decided.{Decided, keeps, changes, decided, adds, names_held}
use Rattle.calls.specs.Call.{Call, call, decided_on}
use Rattle.demands.specs.Words.{reset_by, some_named, Asks, PartialReset, OfSession, Resets, run}
use Rattle.demands.specs.Resets.{Neighbours, SameEnds, ChangingPlaces}
use Rattle.demands.proofs.Done.{number, Does, done, reply_to, start_decided, stop_decided, start_accepted, stop_accepted}
use Rattle.demands.proofs.Decisions.{GoodRequest, starting_good, stopping_good}
use Rattle.demands.proofs.JudgedSound.{judged_sound}
use Rattle.demands.proofs.States.{lent_good}
use Rattle.demands.proofs.Runs.{acknowledgement, reset_unit, reset_reply, reset_read_lem}

-- what is decided, whatever the room
same_decided : (e : Edition) (u : Unit) (c d : Call) → c.message ≡ d.message → c.offered ≡ d.offered → decided_on e u c ≡ decided_on e u d
unfolding decided_on
same_decided e u c d m o = λ i. pick (setup_answer e (m i) && not u.is_open) (keeps answer.NoneOpen silent) (decided e u (o i) (judged e (m i)))

module _ (e : Edition) {t : List ℕ} {u : Unit} {s p p' s' : Call} {a : Accepted} {items : List Item} (n : Neighbours e t u s p p' s' a items) where
  good : GoodUnit u
  good = lent_good n.unit

  again : Resets e p' items
  again = subst (λ (m : List ℕ). PartialReset (judged e m) items) (sym n.reset.1) n.reset.0

  behind : read_unit (call e t p').unit ≡ is_unit (reset_by items u)
  behind = reset_read_lem e t p' u items good n.unit.read again n.accepted.1.0

  -- what is decided about the session's message: in the first unit, and behind the reset
  abbrev first : Decided
  first = decided_on e u s

  abbrev second : Decided
  second = decided_on e (reset_by items u) s

  first_does : Does e t (call e t s) first
  first_does = done e t s u n.unit.read n.accepted.0.0

  second_does : Does e (call e t p').unit (call e (call e t p').unit s') second
  second_does =
      subst (Does e (call e t p').unit (call e (call e t p').unit s')) (same_decided e (reset_by items u) s' s n.session.2 n.offered)
      (done e (call e t p').unit s' (reset_by items u) behind n.accepted.1.1.0)

  -- where the message does in both units the same to what is held, and gets the same reply, and that goes past the reset
  pub swap : (f : State → State) (r : Replied) → first ≡ changes (with_held f u) r → second ≡ changes (with_held f (reset_by items u)) r → GoodUnit (with_held f u)
      → without items (f u.held) ≡ f (without items u.held) → SameEnds e t s p p' s'
  unfolding run
  swap f r x y g q =
      let v : Does e t (call e t s) (changes (with_held f u) r) = rw x at first_does in
      let w : Does e (call e t p').unit (call e (call e t p').unit s') (changes (with_held f (reset_by items u)) r) = rw y at second_does in
      let k : read_unit (call e t s).unit ≡ is_unit (with_held f u) = ap read_unit v.unit ∙ one_unit.back (with_held f u) g in
      record {
        unit = reset_unit e (call e t s).unit p (with_held f u) items g k n.reset.0 n.accepted.0.1.0 ∙ ap (λ (l : State). unit_octets (with_held (λ y. l) u)) q ∙ sym w.unit;
        session = v.reply ∙ sym w.reply;
        reset = reset_reply e (call e t s).unit p (with_held f u) items g k n.reset.0 n.accepted.0.1.0
            ∙ ap (acknowledgement e) (sym n.reset.1)
            ∙ sym (reset_reply e t p' u items good n.unit.read again n.accepted.1.0);
      }

  -- what the request is about is spared
  spared : (q : Request) → a.request ≡ q → some_named items (adds s.offered q ++ names_held q a.items u.held) ≡ false
  spared q r = subst (λ (x : Request). some_named items (adds s.offered x ++ names_held x a.items u.held) ≡ false) r n.spared.0

by_request : (e : Edition) (q : Request) {t : List ℕ} {u : Unit} {s p p' s' : Call} {a : Accepted} {items : List Item} → a.request ≡ q → OfSession q → Neighbours e t u s p p' s' a items
    → SameEnds e t s p p' s'
by_request e (request.Start m g v) {t} {u} {s} {p} {p'} {s'} {a = w} {items} r o n =
    let a : Association = record { mme = m; mce = s.offered; tmgi = g; session = v } in
    let j : Judged = judged e s.message in
    let z : Asks j (request.Start m g v) = record { what = w; accepted = n.session.0; request = r } in
    let i = start_decided e u s z in
    let k = start_decided e (reset_by items u) s z in
    let x = start_accepted e u w a (ap number (sym i) ∙ (first_does e n).answer) in
    let y = start_accepted e (reset_by items u) w a (ap number (sym k) ∙ (second_does e n).answer) in
    let b : m.0 < 65536 = subst GoodRequest r (judged_sound e s.message n.handed.message w n.session.0).request in
    swap e n (starting a) (reply_to e w (reply.StartResponse m s.offered)) (i ∙ x.decision) (k ∙ y.decision)
    (record { held = starting_good u.held (good e n).held a (record { mme = b; mce = n.handed.offered }) x.mme x.mce })
    (changing_places.start items a u.held (or_left (named items a) false (spared e n (request.Start m g v) r)) x.few)
by_request e (request.Stop m y) {t} {u} {s} {p} {p'} {s'} {a = w} {items} r o n =
    let j : Judged = judged e s.message in
    let z : Asks j (request.Stop m y) = record { what = w; accepted = n.session.0; request = r } in
    let i = stop_decided e u s z in
    let k = stop_decided e (reset_by items u) s z in
    swap e n (stopping m y) (reply_to e w (reply.StopResponse m y))
    (i ∙ stop_accepted e u w m y (ap number (sym i) ∙ (first_does e n).answer))
    (k ∙ stop_accepted e (reset_by items u) w m y (ap number (sym k) ∙ (second_does e n).answer))
    (record { held = stopping_good u.held (good e n).held m y }) (changing_places.stop items m y u.held)
by_request e request.Whole r o n = absurd o
by_request e request.Part r o n = absurd o
by_request e request.Indication r o n = absurd o
by_request e request.SetupResponse r o n = absurd o
by_request e (request.SetupFailure w) r o n = absurd o

pub changing : (e : Edition) → ChangingPlaces e
changing e t u s p p' s' a items n = by_request e a.request refl n.session.1 n
