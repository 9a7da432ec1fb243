-- What a call that is answered 0 leaves in the unit is what was decided, request by request.
-- Assumes nothing.
use Rattle.std.specs.Prelude.{Option}
use Prim.Native.Nat.{ℕ}
use mathlib.Core.Path.{◌≡◌, refl, ap, sym, ◌∙◌}
use mathlib.Core.Bool.{Bool, true, false}
use mathlib.Core.List.{List, [], ◌∷◌, ◌++◌}
use native.Mathlib.Omega.{arith}
use Rattle.identity.specs.declared.MmeId.{MmeId}
use Rattle.identity.specs.declared.MceId.{MceId}
use Rattle.identity.specs.declared.Tmgi.{Tmgi}
use Rattle.identity.specs.declared.Item.{Item}
use Rattle.editions.specs.declared.Edition.{Edition}
use Rattle.table.specs.declared.Association.{Association}
use Rattle.table.specs.Table.{State, full, starting, stopping, without}
use Rattle.units.specs.Unit.{Unit, is_unit, read_unit, unit_octets, with_held, with_open}
use Rattle.requests.specs.declared.Request.{Request}
use Rattle.requests.specs.declared.Request.TheVariants as request
use Rattle.replies.specs.declared.Reply.TheVariants as reply
use Rattle.replies.specs.Replies.{Replied, replied, silent, reply_octets}
use Rattle.carry.specs.declared.Answer.{Answer}
use Rattle.carry.specs.declared.Answer.TheVariants as answer
use Rattle.answers.specs.Answers.{numbered, wait_of}
use Rattle.calls.specs.Judged.{judged}
use Rattle.calls.specs.Decided.{keeps, changes, fails, decided}
use Rattle.calls.specs.Call.{Call, call, settled, settled_if, fits, answer_of, unit_after, decided_on}
use Rattle.demands.specs.Answered.{number_of}
use Rattle.demands.specs.Words.{Asks, PartialReset}
use Rattle.demands.specs.WhatIsDone.{WhatIsDone}
use Rattle.demands.proofs.UnitOut.{call_on}
use Rattle.demands.proofs.SetupAnswers.{of_setup, as_judged, open_judged, none_open}
use Rattle.demands.proofs.Waits.{call_waits}
use Rattle.demands.proofs.Done.{number, reply_to, done, start_decided, start_accepted, stop_decided, stop_accepted, reset_decided}

-- there is room, so a start appends
appended : (a : Association) (l : State) → full l ≡ false → starting a l ≡ l ++ (a ∷ [])
unfolding starting
appended a l h = rw h

module _ (e : Edition) (t : List ℕ) (c : Call) (u : Unit) (q : read_unit t ≡ is_unit u) where
  -- where the decision changes the unit, its octets are left
  left : {v : Unit} {r : Replied} → number_of e t c ≡ 0 → decided_on e u c ≡ changes v r → (call e t c).unit ≡ unit_octets v
  left h x = (done e t c u q h).unit ∙ ap (unit_after t) x

  start : (m : MmeId) (g : Tmgi) (s : Option ℕ) → Asks (judged e c.message) (request.Start m g s) → number_of e t c ≡ 0
      → (call e t c).unit ≡ unit_octets (with_held (λ (l : State). l ++ (record { mme = m; mce = c.offered; tmgi = g; session = s } ∷ [])) u)
  start m g s p h =
      let a : Association = record { mme = m; mce = c.offered; tmgi = g; session = s } in
      let x = start_decided e u c p in
      let w = start_accepted e u p.what a (ap number (sym x) ∙ (done e t c u q h).answer) in
      left h (x ∙ w.decision) ∙ ap (λ (l : State). unit_octets (with_held (λ (k : State). l) u)) (appended a u.held w.full)

  stop : (m : MmeId) (x : MceId) → Asks (judged e c.message) (request.Stop m x) → number_of e t c ≡ 0 → (call e t c).unit ≡ unit_octets (with_held (stopping m x) u)
  stop m x p h =
      let y = stop_decided e u c p in
      left h (y ∙ stop_accepted e u p.what m x (ap number (sym y) ∙ (done e t c u q h).answer))

  whole_decided : (p : Asks (judged e c.message) request.Whole) → decided_on e u c ≡ changes (with_held (λ (l : State). []) u) (reply_to e p.what reply.Acknowledge)
  unfolding decided
  whole_decided p = as_judged e u c request.Whole p refl ∙ rw (p.accepted, p.request)

  part : (items : List Item) → PartialReset (judged e c.message) items → number_of e t c ≡ 0 → (call e t c).unit ≡ unit_octets (with_held (without items) u)
  part items p h = left h (reset_decided e u c p)

  indicated : Asks (judged e c.message) request.Indication → decided_on e u c ≡ keeps answer.CarriedOut silent
  unfolding decided replied
  indicated p = as_judged e u c request.Indication p refl ∙ rw (p.accepted, p.request)

  -- whether or not no octets fit the room
  kept : (b : Bool) → ((settled_if e b t c.room (keeps answer.CarriedOut silent)).unit ≡ t) × ((settled_if e b t c.room (keeps answer.CarriedOut silent)).reply ≡ [])
  unfolding reply_octets
  kept true = (refl, refl)
  kept false = (refl, refl)

  indication : Asks (judged e c.message) request.Indication → ((call e t c).unit ≡ t) × ((call e t c).reply ≡ [])
  unfolding settled
  indication p = rw (call_on e t c u q, indicated p) (kept (fits e c.room (keeps answer.CarriedOut silent)))

  -- an answer to a setup request that is answered 0 found one open, and is decided as it is judged
  answered_open : (w : Request) → Asks (judged e c.message) w → of_setup w ≡ true → number_of e t c ≡ 0 → u.is_open ≡ true
  answered_open w p s h = by u.is_open refl
    where
      by : (b : Bool) → u.is_open ≡ b → u.is_open ≡ true
      by true z = z
      by false z = absurd (let n = ap number (sym (none_open e u c w p s z)) ∙ (done e t c u q h).answer in omega (arith, n))

  setup_decided : (p : Asks (judged e c.message) request.SetupResponse) → u.is_open ≡ true → decided_on e u c ≡ changes (with_open false (with_held (λ (l : State). []) u)) silent
  unfolding decided replied
  setup_decided p s = open_judged e u c s ∙ rw (p.accepted, p.request)

  failure_decided : (w : Option ℕ) (p : Asks (judged e c.message) (request.SetupFailure w)) → u.is_open ≡ true → decided_on e u c ≡ fails (with_open false u) w silent
  unfolding decided replied
  failure_decided w p s = open_judged e u c s ∙ rw (p.accepted, p.request)

  setup : Asks (judged e c.message) request.SetupResponse → number_of e t c ≡ 0 → (u.is_open ≡ true) × ((call e t c).unit ≡ unit_octets (with_open false (with_held (λ (l : State). []) u)))
  setup p h = let s = answered_open request.SetupResponse p refl h in (s, left h (setup_decided p s))

  failed : (w : Option ℕ) → Asks (judged e c.message) (request.SetupFailure w) → number_of e t c ≡ 0
      → (u.is_open ≡ true) × ((call e t c).unit ≡ unit_octets (with_open false u)) × ((numbered (call e t c).answer).wait ≡ wait_of w)
  failed w p h =
      let s = answered_open (request.SetupFailure w) p refl h in
      let x = failure_decided w p s in
      (s, (done e t c u q h).unit ∙ ap (unit_after t) x, ap (λ (a : Answer). (numbered a).wait) ((done e t c u q h).given ∙ ap answer_of x))

pub what_is_done : (e : Edition) → WhatIsDone e
unfolding stopping without
what_is_done e = record {
  start = λ m g s t c u q p h. start e t c u q m g s p h;
  stop = λ m x t c u q p h. stop e t c u q m x p h;
  whole = λ t c u q p h. left e t c u q h (whole_decided e t c u q p);
  part = λ t c u items q p h. part e t c u q items p h;
  setup = λ t c u q p h. setup e t c u q p h;
  failed = λ t c u w q p h. failed e t c u q w p h;
  waits = λ t c. call_waits e c t;
  indication = λ t c u q p. indication e t c u q p;
}
