-- A start, a stop and a partial reset that are answered 0 were accepted: so they ask for what the words say.
-- Assumes nothing.
use Rattle.std.specs.Prelude.{None, Option, Some, Ok, Err}
use Prim.Native.Nat.{ℕ}
use mathlib.Core.Path.{◌≡◌, ◌∙◌, refl, sym, ap, subst}
use mathlib.Core.Bool.{Bool, true, false, not, ◌&&◌}
use mathlib.Core.List.{List}
use native.Mathlib.Omega.{arith}
use Rattle.lists.specs.Lists.{pick}
use Rattle.identity.specs.declared.MmeId.{MmeId}
use Rattle.identity.specs.declared.MceId.{MceId}
use Rattle.identity.specs.declared.Tmgi.{Tmgi}
use Rattle.identity.specs.declared.Item.{Item}
use Rattle.editions.specs.declared.Message.{Message}
use Rattle.editions.specs.declared.Message.TheVariants as message
use Rattle.editions.specs.declared.Edition.{Edition}
use Rattle.verdicts.specs.Verdict.{Understood, Verdict, understood}
use Rattle.units.specs.Unit.{Unit, MaybeUnit, is_unit, no_unit, read_unit}
use Rattle.requests.specs.declared.Extent.TheVariants as extent
use Rattle.requests.specs.declared.Request.{Request}
use Rattle.requests.specs.declared.Request.TheVariants as request
use Rattle.requests.specs.declared.Seen.{Seen}
use Rattle.replies.specs.Replies.{silent}
use Rattle.requests.specs.Requests.{ask_of, start_of, stop_of, reset_of, request_of, seen}
use Rattle.carry.specs.Carry.{Ruling, ruling}
use Rattle.carry.specs.declared.Answer.TheVariants as answer
use Rattle.answers.specs.Answers.{numbered}
use Rattle.calls.specs.Judged.{Accepted, ruled, judged_by, judged, verdict, setup_answer}
use Rattle.calls.specs.Decided.{keeps, decided}
use Rattle.calls.specs.Call.{Call, decided_on, on_unit, call}
use Rattle.demands.specs.Answered.{number_of}
use Rattle.demands.specs.Words.{Asks, PartialReset}
use Rattle.demands.specs.Resets.{NoneLeftOut}
use Rattle.demands.proofs.JudgedSound.{accepted_of}
use Rattle.demands.proofs.Done.{number, done}

-- ---- answer 0 comes of a unit, and of a message that was accepted

module _ (e : Edition) where
  ruled_accepted : (u : Unit) (x : MceId) (w : Understood) (r : Ruling) → number (decided e u x (ruled e w r)) ≡ 0 → (a : Accepted) × (ruled e w r ≡ Ok a)
  unfolding decided
  ruled_accepted u x w (Ok q) h = (_, refl)
  ruled_accepted u x w (Err r) h = absurd (omega arith)

  was_accepted : (u : Unit) (x : MceId) (w : Understood) → number (decided e u x (judged_by e (understood w))) ≡ 0 → (a : Accepted) × (judged_by e (understood w) ≡ Ok a)
  unfolding judged_by
  was_accepted u x w h = ruled_accepted u x w (ruling (ask_of w.what.message) (seen w.what.values) w.outcome) h

  is_unit_lem : (t : List ℕ) (c : Call) → number_of e t c ≡ 0 → (u : Unit) × (read_unit t ≡ is_unit u)
  unfolding call
  is_unit_lem t c = by (read_unit t) refl
    where
      by : (x : MaybeUnit) → read_unit t ≡ x → (numbered (on_unit e t c x).answer).number ≡ 0 → (u : Unit) × (read_unit t ≡ is_unit u)
      by (is_unit u) q h = (u, q)
      by no_unit q h = absurd (omega arith)

  same_read : {x y : Understood} → understood x ≡ understood y → x ≡ y
  same_read q = cc

  module _ (t : List ℕ) (c : Call) (v : Understood) (h : number_of e t c ≡ 0) (q : verdict e c.message ≡ understood v) where
    abbrev s : List ℕ
    s = c.message

    -- what is answered 0 is not answered 14
    judged_0 : (u : Unit) → number (decided_on e u c) ≡ 0 → number (decided e u c.offered (judged e s)) ≡ 0
    unfolding decided_on
    judged_0 u = by (setup_answer e s && not u.is_open)
      where
        by : (b : Bool) → number (pick b (keeps answer.NoneOpen silent) (decided e u c.offered (judged e s))) ≡ 0 → number (decided e u c.offered (judged e s)) ≡ 0
        by true h = absurd (omega arith)
        by false h = h

    accepted : (a : Accepted) × (judged e s ≡ Ok a)
    accepted =
        let k = is_unit_lem t c h in
        let n = judged_0 k.0 (done e t c k.0 k.1 h).answer in
        let a = was_accepted k.0 c.offered v (subst (λ (x : Verdict). number (decided e k.0 c.offered (judged_by e x)) ≡ 0) q n) in
        (a.0, ap (judged_by e) q ∙ a.1)

    abbrev what : Accepted
    what = accepted.0

    -- the request is what the values say
    wanted_is : request_of (ask_of v.what.message) (seen v.what.values) ≡ Some what.request
    wanted_is =
        let a = accepted_of e (verdict e s) what accepted.1 in
        let z : a.what ≡ v = same_read (sym a.read ∙ q) in
        subst (λ (x : Understood). request_of (ask_of x.what.message) (seen x.what.values) ≡ Some what.request) z a.request

    asks_for : (r : Request) → Some what.request ≡ Some r → Asks (judged e s) r
    asks_for r p = record { what = what; accepted = accepted.1; request = cc }

    named_is : {m : Message} → v.what.message ≡ m → request_of (ask_of m) (seen v.what.values) ≡ Some what.request
    named_is p = subst (λ (m : Message). request_of (ask_of m) (seen v.what.values) ≡ Some what.request) p wanted_is

    start_asks : (x : Option MmeId) (i : Option Tmgi) (w : Option ℕ) → start_of x i w ≡ Some what.request → (m : MmeId) × (g : Tmgi) × (y : Option ℕ) × Asks (judged e s) (request.Start m g y)
    start_asks (Some m) (Some g) w p = (m, g, w, asks_for (request.Start m g w) (sym p))
    start_asks (Some m) None w p = cc
    start_asks None i w p = cc

    stop_asks : (x : Option MmeId) (y : Option MceId) → stop_of x y ≡ Some what.request → (m : MmeId) × (z : MceId) × Asks (judged e s) (request.Stop m z)
    stop_asks (Some m) (Some z) p = (m, z, asks_for (request.Stop m z) (sym p))
    stop_asks (Some m) None p = cc
    stop_asks None y p = cc

    starts : v.what.message ≡ message.StartRequest → (m : MmeId) × (g : Tmgi) × (y : Option ℕ) × Asks (judged e s) (request.Start m g y)
    starts p = let x : Seen = seen v.what.values in start_asks x.mme x.tmgi x.session (named_is p)

    stops : v.what.message ≡ message.StopRequest → (m : MmeId) × (z : MceId) × Asks (judged e s) (request.Stop m z)
    stops p = let x : Seen = seen v.what.values in stop_asks x.mme x.mce (named_is p)

    partial : v.what.message ≡ message.Reset → (seen v.what.values).reset ≡ Some extent.Part → (items : List Item) × PartialReset (judged e s) items
    unfolding accepted asks_for
    partial p k = (what.items, record { asks = asks_for request.Part (sym (named_is p) ∙ ap reset_of k); items = refl })

  pub none_left_out : NoneLeftOut e
  none_left_out = record { starts = starts; stops = stops; partial = partial }
