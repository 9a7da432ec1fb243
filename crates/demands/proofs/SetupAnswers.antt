-- A message that is accepted answers a setup request exactly if its request does; so 14 comes of no other, and what asks for something else is decided as it is judged.
-- Assumes nothing.
use Rattle.std.specs.Prelude.{None, Option, Some}
use Rattle.identity.specs.declared.MceId.{MceId}
use Rattle.identity.specs.declared.Tmgi.{Tmgi}
use Rattle.identity.specs.declared.MmeId.{MmeId}
use Prim.Native.Nat.{ℕ}
use mathlib.Core.Path.{◌≡◌, refl, ap, sym, ◌∙◌}
use mathlib.Core.Bool.{Bool, true, false, not, ◌&&◌}
use mathlib.Core.List.{List}
use borrow.Author.Tests.{le-ltb}
use lib.ListN.{length}
use Rattle.lists.specs.Lists.{pick}
use Rattle.editions.specs.declared.Edition.{Edition}
use Rattle.verdicts.specs.Verdict.{Understood, understood}
use Rattle.units.specs.Unit.{Unit}
use Rattle.requests.specs.declared.Extent.{Extent}
use Rattle.requests.specs.declared.Extent.TheVariants as extent
use Rattle.requests.specs.declared.Ask.{Ask}
use Rattle.requests.specs.declared.Ask.TheVariants as ask
use Rattle.requests.specs.declared.Seen.{Seen}
use Rattle.requests.specs.declared.Request.{Request}
use Rattle.requests.specs.declared.Request.TheVariants as request
use Rattle.requests.specs.Requests.{ask_of, asks, answers_setup, start_of, stop_of, reset_of, request_of, seen}
use Rattle.replies.specs.Replies.{silent}
use Rattle.carry.specs.declared.Answer.TheVariants as answer
use Rattle.calls.specs.Judged.{judged, verdict, setup_answer, framed_answer, is_answer}
use Rattle.calls.specs.Decided.{keeps, decided}
use Rattle.calls.specs.Call.{Call, decided_on}
use Rattle.demands.specs.Words.{Asks}
use Rattle.round_trips.proofs.Accepted.{opened}
use Rattle.demands.proofs.JudgedSound.{accepted_of}

-- ---- what is understood, by its frame

answer_of_lem : (e : Edition) (s : List ℕ) (w : Understood) → verdict e s ≡ understood w → setup_answer e s ≡ answers_setup (ask_of w.what.message)
unfolding setup_answer
answer_of_lem e s w q =
    let o = opened e asks s w q in
    rw (le-ltb 8192 (length s) o.size) (ap (framed_answer e) (sym o.framed) ∙ ap (is_answer e) (sym o.named))

-- ---- what asks for something

abbrev pub of_setup : Request → Bool
of_setup (request.Start m t s) = false
of_setup (request.Stop m x) = false
of_setup request.Whole = false
of_setup request.Part = false
of_setup request.Indication = false
of_setup request.SetupResponse = true
of_setup (request.SetupFailure w) = true

-- the test of what is wanted, of which nothing lacks
abbrev wants_setup : Bool → Option Request → Bool
wants_setup b (Some q) = of_setup q
wants_setup b None = b

start_wants : (x : Option MmeId) (t : Option Tmgi) (s : Option ℕ) → wants_setup false (start_of x t s) ≡ false
start_wants (Some m) (Some t) s = refl
start_wants (Some m) None s = refl
start_wants None t s = refl

stop_wants : (x : Option MmeId) (y : Option MceId) → wants_setup false (stop_of x y) ≡ false
stop_wants (Some m) (Some c) = refl
stop_wants (Some m) None = refl
stop_wants None y = refl

reset_wants : (x : Option Extent) → wants_setup false (reset_of x) ≡ false
reset_wants (Some extent.Whole) = refl
reset_wants (Some extent.Part) = refl
reset_wants None = refl

asked_wants : (a : Ask) (x : Seen) → wants_setup (answers_setup a) (request_of a x) ≡ answers_setup a
asked_wants ask.Start x = start_wants x.mme x.tmgi x.session
asked_wants ask.Stop x = stop_wants x.mme x.mce
asked_wants ask.Reset x = reset_wants x.reset
asked_wants ask.Indication x = refl
asked_wants ask.SetupResponse x = refl
asked_wants ask.SetupFailure x = refl
asked_wants ask.Nothing x = refl

module _ (e : Edition) where
  pub accepted_answer : (s : List ℕ) (q : Request) → Asks (judged e s) q → setup_answer e s ≡ of_setup q
  accepted_answer s q p =
      let a = accepted_of e (verdict e s) p.what p.accepted in
      let m : Ask = ask_of a.what.what.message in
      answer_of_lem e s a.what a.read ∙ (sym (asked_wants m (seen a.what.what.values)) ∙ (ap (wants_setup (answers_setup m)) a.request ∙ ap of_setup p.request))

  -- what asks for something else is decided as it is judged
  pub as_judged : (u : Unit) (c : Call) (q : Request) → Asks (judged e c.message) q → of_setup q ≡ false → decided_on e u c ≡ decided e u c.offered (judged e c.message)
  unfolding decided_on
  as_judged u c q p h = rw (accepted_answer c.message q p ∙ h)

  -- and so is what answers a setup request that is open
  pub open_judged : (u : Unit) (c : Call) → u.is_open ≡ true → decided_on e u c ≡ decided e u c.offered (judged e c.message)
  unfolding decided_on
  open_judged u c h = by (setup_answer e c.message) u.is_open h
    where
      by : (a b : Bool) → b ≡ true → pick (a && not b) (keeps answer.NoneOpen silent) (decided e u c.offered (judged e c.message)) ≡ decided e u c.offered (judged e c.message)
      by true true h = refl
      by true false h = cc
      by false b h = refl

  pub none_open : (u : Unit) (c : Call) (q : Request) → Asks (judged e c.message) q → of_setup q ≡ true → u.is_open ≡ false → decided_on e u c ≡ keeps answer.NoneOpen silent
  unfolding decided_on
  none_open u c q p h n = rw (accepted_answer c.message q p ∙ h, n)
