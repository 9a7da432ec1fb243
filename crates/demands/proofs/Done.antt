-- What the table call does where its answer is 0; and the rules, where they accept.
-- Assumes nothing.
use Rattle.std.specs.Prelude.{Option, Some}
use Prim.Native.Nat.{ℕ, ◌<◌, ◌≤◌}
use mathlib.Core.Path.{◌≡◌, refl, ap, sym, subst, ◌∙◌}
use mathlib.Core.Bool.{Bool, true, false}
use mathlib.Core.List.{List}
use native.Mathlib.Omega.{arith}
use borrow.Author.Tests.{leb-false, le-leb}
use lib.ListN.{length}
use Rattle.lists.specs.Lists.{keep}
use Rattle.identity.specs.declared.MmeId.{MmeId}
use Rattle.identity.specs.declared.MceId.{MceId}
use Rattle.identity.specs.declared.Tmgi.{Tmgi}
use Rattle.identity.specs.declared.Item.{Item}
use Rattle.editions.specs.declared.Edition.{Edition}
use Rattle.table.specs.declared.Association.{Association}
use Rattle.table.specs.Table.{State, full, starting, stopping, holds_mme, holds_mce, holds_pair, standing}
use Rattle.units.specs.Unit.{Unit, is_unit, read_unit, with_held}
use Rattle.requests.specs.declared.Request.TheVariants as request
use Rattle.replies.specs.declared.Reply.{Reply}
use Rattle.replies.specs.declared.Reply.TheVariants as reply
use Rattle.replies.specs.Replies.{has_identity, Replied, replied}
use Rattle.carry.specs.declared.Decision.{Decision}
use Rattle.carry.specs.Carry.{started, stopped}
use Rattle.answers.specs.Answers.{numbered}
use Rattle.calls.specs.Judged.{Accepted, judged}
use Rattle.calls.specs.Decided.{Decided, changes, applied, decided}
use Rattle.calls.specs.Call.{Call, Back, call, settled, settled_if, fits, reply_of, answer_of, unit_after, decided_on}
use Rattle.demands.specs.Answered.{number_of}
use Rattle.demands.specs.Words.{reset_by, Asks, PartialReset}
use Rattle.demands.proofs.UnitOut.{call_on}
use Rattle.demands.proofs.SetupAnswers.{as_judged}

-- there is room for one more
few : (l : State) → full l ≡ false → length l < 256
unfolding full
few l q = leb-false 256 (length l) q

abbrev pub number : Decided → ℕ
number x = (numbered (answer_of x)).number

module _ (e : Edition) where
  -- ---- the call does what was decided

  pub record Does (t : List ℕ) (b : Back) (x : Decided) : Type 0 where
    pub answer : number x ≡ 0
    pub given : b.answer ≡ answer_of x
    pub unit : b.unit ≡ unit_after t x
    pub reply : b.reply ≡ reply_of e x

  settles : (t d : List ℕ) (x : Decided) (b : Bool) → (numbered (settled_if e b t d x).answer).number ≡ 0 → Does t (settled_if e b t d x) x
  settles t d x true h = record { answer = h; given = refl; unit = refl; reply = refl }
  settles t d x false h = absurd (omega arith)

  module _ (t : List ℕ) (c : Call) (u : Unit) (q : read_unit t ≡ is_unit u) where
    abbrev made : Decided
    made = decided_on e u c

    called : call e t c ≡ settled_if e (fits e c.room made) t c.room made
    unfolding settled
    called = call_on e t c u q

    pub done : number_of e t c ≡ 0 → Does t (call e t c) made
    done = subst (λ (b : Back). (numbered b.answer).number ≡ 0 → Does t b made) (sym called) (settles t c.room made (fits e c.room made))

    -- with room for its reply, the answer is the decision's
    pub fitting : length (reply_of e made) ≤ length c.room → number_of e t c ≡ number made
    fitting h = ap (λ (b : Back). (numbered b.answer).number) (called ∙ ap (λ (b : Bool). settled_if e b t c.room made) (le-leb _ _ h))

  -- ---- the rules, where they accept

  -- a reply to an accepted message, and what a decision about it means
  abbrev pub reply_to : Accepted → Reply → Replied
  reply_to w r = replied e w.frame (keep has_identity w.items) w.noted r

  abbrev pub meaning : Unit → Accepted → Decision → Decided
  meaning u w d = applied e u w.frame w.items w.noted d

  abbrev pub started_on : Unit → Accepted → MceId → MmeId → Tmgi → Option ℕ → Decided
  started_on u w x m t s = meaning u w (started (standing (record { mme = Some m; mce = Some x }) u.held) x m t s)

  abbrev pub stopped_on : Unit → Accepted → MmeId → MceId → Decided
  stopped_on u w m y = meaning u w (stopped (standing (record { mme = Some m; mce = Some y }) u.held) m y)

  module _ (u : Unit) (c : Call) where
    pub reset_decided : {items : List Item} (p : PartialReset (judged e c.message) items) → decided_on e u c ≡ changes (reset_by items u) (reply_to p.asks.what reply.AcknowledgeItems)
    unfolding decided
    reset_decided p = as_judged e u c request.Part p.asks refl ∙ rw (p.asks.accepted, p.asks.request, p.items)

    pub start_decided : {m : MmeId} {t : Tmgi} {s : Option ℕ} (p : Asks (judged e c.message) (request.Start m t s)) → decided_on e u c ≡ started_on u p.what c.offered m t s
    unfolding decided
    start_decided {m} {t} {s} p = as_judged e u c (request.Start m t s) p refl ∙ rw (p.accepted, p.request)

    pub stop_decided : {m : MmeId} {y : MceId} (p : Asks (judged e c.message) (request.Stop m y)) → decided_on e u c ≡ stopped_on u p.what m y
    unfolding decided
    stop_decided {m} {y} p = as_judged e u c (request.Stop m y) p refl ∙ rw (p.accepted, p.request)

  -- an accepted start: neither identity is held, and there is room
  pub record Started (u : Unit) (w : Accepted) (a : Association) : Type 0 where
    pub mme : holds_mme a.mme u.held ≡ false
    pub mce : holds_mce a.mce u.held ≡ false
    pub few : length u.held < 256
    pub full : full u.held ≡ false
    pub decision : started_on u w a.mce a.mme a.tmgi a.session ≡ changes (with_held (starting a) u) (reply_to w (reply.StartResponse a.mme a.mce))

  pub start_accepted : (u : Unit) (w : Accepted) (a : Association) → number (started_on u w a.mce a.mme a.tmgi a.session) ≡ 0 → Started u w a
  unfolding started
  start_accepted u w a = by (holds_mme a.mme u.held) (holds_mce a.mce u.held) (full u.held) refl refl refl
    where
      by : (p q r : Bool) → holds_mme a.mme u.held ≡ p → holds_mce a.mce u.held ≡ q → full u.held ≡ r → number (started_on u w a.mce a.mme a.tmgi a.session) ≡ 0 → Started u w a
      by true q r i f g h = absurd (omega (arith, rw i at h))
      by false true r i f g h = absurd (omega (arith, rw (i, f) at h))
      by false false true i f g h = absurd (omega (arith, rw (i, f, g) at h))
      by false false false i f g h = record { mme = i; mce = f; few = few u.held g; full = g; decision = rw (i, f, g) }

  pub stop_accepted : (u : Unit) (w : Accepted) (m : MmeId) (y : MceId) → number (stopped_on u w m y) ≡ 0 → stopped_on u w m y ≡ changes (with_held (stopping m y) u) (reply_to w (reply.StopResponse m y))
  unfolding stopped
  stop_accepted u w m y = by (holds_pair m y u.held) refl
    where
      by : (p : Bool) → holds_pair m y u.held ≡ p → number (stopped_on u w m y) ≡ 0 → stopped_on u w m y ≡ changes (with_held (stopping m y) u) (reply_to w (reply.StopResponse m y))
      by true i h = rw i
      by false i h = absurd (omega (arith, rw i at h))
