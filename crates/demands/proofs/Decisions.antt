-- A decision on what is in range, over what a unit can remember: it has no reply, or one that is written; and what is then remembered is again what a unit can remember.
-- Assumes nothing.
use Rattle.std.specs.Prelude.{None, Option, Some, Ok, Err, ℕ}
use Prim.Native.Nat.{◌<◌}
use mathlib.Core.Logic.{◌⊎◌, inl, inr}
use mathlib.Core.Path.{◌≡◌, refl}
use mathlib.Core.Bool.{Bool, true, false}
use mathlib.Core.List.Memᴰ
use mathlib.Core.List.{List, [], ◌∷◌, Memᴰ}
use native.Mathlib.Omega.{arith}
use Rattle.lists.specs.Lists.{pick, keep}
use Rattle.lists.proofs.Tests.{on-pick}
use Rattle.lists.proofs.Keep.{mem_keep}
use Rattle.identity.specs.declared.MmeId.{MmeId}
use Rattle.identity.specs.declared.MceId.{MceId}
use Rattle.identity.specs.declared.Tmgi.{Tmgi}
use Rattle.identity.specs.declared.Item.{Item}
use Rattle.values.specs.declared.Cause.{Cause}
use Rattle.values.specs.Written.{GoodCause}
use Rattle.editions.specs.declared.Edition.{Edition}
use Rattle.editions.specs.Editions.{of_m3ap}
use Rattle.verdicts.specs.declared.Outcome.{Outcome}
use Rattle.verdicts.specs.declared.Outcome.TheVariants as outcome
use Rattle.verdicts.specs.Verdict.{Verdict, refused, understood, Understood}
use Rattle.table.specs.declared.Association.{Association}
use Rattle.table.specs.declared.Standing.{Standing}
use Rattle.table.specs.Table.{State, without, full, starting, stopping, holds_mme, holds_mce, holds_pair, standing, distinct_held}
use Rattle.table.proofs.Rules.{always}
use Rattle.lent.specs.Lent.{IdentitiesInRange, Good}
use Rattle.replies.specs.Replies.{abstract_syntax, falsely_constructed, has_identity, Replied, replied}
use Rattle.units.specs.Unit as units
use Rattle.units.specs.Unit.{GoodUnit}
use Rattle.replies.specs.declared.Reply.{Reply}
use Rattle.requests.specs.declared.Extent.{Extent}
use Rattle.requests.specs.declared.Extent.TheVariants as extent
use Rattle.requests.specs.declared.Ask.{Ask}
use Rattle.requests.specs.declared.Ask.TheVariants as ask
use Rattle.requests.specs.declared.Seen.{Seen}
use Rattle.requests.specs.declared.Request.{Request}
use Rattle.requests.specs.declared.Request.TheVariants as request
use Rattle.requests.specs.Requests.{ask_of, start_of, stop_of, reset_of, request_of, seen, items_in}
use Rattle.carry.specs.declared.Change.{Change}
use Rattle.carry.specs.declared.Change.TheVariants as change
use Rattle.carry.specs.declared.Decision.{Decision}
use Rattle.carry.specs.Carry.{Ruling, start_rejected, rejection, ruled_by, ruling, started, stopped, carried_out, asked}
use Rattle.calls.specs.Judged.{ruled, judged_by}
use Rattle.calls.specs.Decided.{Decided, keeps, changes, fails, changed, decided}
use Rattle.demands.proofs.Written.{GoodMme, GoodMce, GoodReply, Spoken, spoken}
use Rattle.demands.proofs.Seen.{GoodSeen}
use Rattle.demands.proofs.Sound.{Sound}

-- ---- what a table can hold, after the rules

-- a case by a test, with the test
by_test : {A : Type 0} (P : A → Type 0) (b : Bool) {x y : A} → (b ≡ true → P x) → (b ≡ false → P y) → P (pick b x y)
by_test P true h k = h refl
by_test P false h k = k refl

pub none_good : Good []
unfolding distinct_held
none_good = record { few = omega arith; apart = refl; each = λ a m. absurd (Memᴰ.not-nil m) }

module _ (l : State) (g : Good l) where
  pub stopping_good : (m : MmeId) (c : MceId) → Good (stopping m c l)
  unfolding stopping
  stopping_good m c =
      let n = always.stop_size m c l in
      let f = g.few in
      record { few = omega arith; apart = always.stop_apart m c l g.apart; each = λ a k. g.each a ((mem_keep _ l).0 k).0 }

  pub without_good : (items : List Item) → Good (without items l)
  unfolding without
  without_good items =
      let n = always.reset_size items l in
      let f = g.few in
      record { few = omega arith; apart = always.reset_apart items l g.apart; each = λ a k. g.each a ((mem_keep _ l).0 k).0 }

  pub starting_good : (a : Association) → IdentitiesInRange a → holds_mme a.mme l ≡ false → holds_mce a.mce l ≡ false → Good (starting a l)
  unfolding starting
  starting_good a r h k = record {
    few = always.start_size a l g.few;
    apart = always.start_apart a l h k g.apart;
    each = λ x. on-pick (λ (z : State). Memᴰ x z → IdentitiesInRange x) (full l) (g.each x) (λ m. one x (Memᴰ.append_cases l m));
  }
    where
      one : (x : Association) → Memᴰ x l ⊎ Memᴰ x (a ∷ []) → IdentitiesInRange x
      one x (inl m) = g.each x m
      one x (inr m) = rw (Memᴰ.eq_of_singleton m) r

-- ---- the rules

started_rejected : (x : Option MmeId) (why : Cause) → GoodMme x → GoodCause why → GoodReply (start_rejected x why)
started_rejected (Some m) why g k = (g, k)
started_rejected None why g k = (tt, tt, k)

rejection_good : (a : Ask) (x : Seen) (why : Cause) → GoodSeen x → GoodCause why → GoodReply (rejection a x why)
unfolding rejection
rejection_good ask.Start x why g k = started_rejected x.mme why g.mme k
rejection_good ask.Stop x why g k = (g.mme, g.mce, k)
rejection_good ask.Reset x why g k = (tt, tt, k)
rejection_good ask.Indication x why g k = tt
rejection_good ask.SetupResponse x why g k = (tt, tt, k)
rejection_good ask.SetupFailure x why g k = (tt, tt, k)
rejection_good ask.Nothing x why g k = tt

-- the identities of a request
abbrev pub GoodRequest : Request → Type 0
GoodRequest (request.Start m t s) = m.0 < 65536
GoodRequest (request.Stop m c) = (m.0 < 65536) × (c.0 < 65536)
GoodRequest request.Whole = Unit
GoodRequest request.Part = Unit
GoodRequest request.Indication = Unit
GoodRequest request.SetupResponse = Unit
GoodRequest (request.SetupFailure w) = Unit

abbrev pub GoodRuling : Ruling → Type 0
GoodRuling (Ok q) = GoodRequest q
GoodRuling (Err r) = GoodReply r

start_good : (x : Option MmeId) (t : Option Tmgi) (s : Option ℕ) (r : Reply) → GoodMme x → GoodReply r → GoodRuling (ruled_by r (start_of x t s))
start_good (Some m) (Some t) s r g k = g
start_good (Some m) None s r g k = k
start_good None t s r g k = k

stop_good : (x : Option MmeId) (y : Option MceId) (r : Reply) → GoodMme x → GoodMce y → GoodReply r → GoodRuling (ruled_by r (stop_of x y))
stop_good (Some m) (Some c) r g h k = (g, h)
stop_good (Some m) None r g h k = k
stop_good None y r g h k = k

reset_good_lem : (x : Option Extent) (r : Reply) → GoodReply r → GoodRuling (ruled_by r (reset_of x))
reset_good_lem (Some extent.Whole) r k = tt
reset_good_lem (Some extent.Part) r k = tt
reset_good_lem None r k = k

pub asked_good : (a : Ask) (x : Seen) (r : Reply) → GoodSeen x → GoodReply r → GoodRuling (ruled_by r (request_of a x))
asked_good ask.Start x r g k = start_good x.mme x.tmgi x.session r g.mme k
asked_good ask.Stop x r g k = stop_good x.mme x.mce r g.mme g.mce k
asked_good ask.Reset x r g k = reset_good_lem x.reset r k
asked_good ask.Indication x r g k = tt
asked_good ask.SetupResponse x r g k = tt
asked_good ask.SetupFailure x r g k = tt
asked_good ask.Nothing x r g k = k

pub ruling_good : (a : Ask) (x : Seen) (o : Outcome) → GoodSeen x → GoodRuling (ruling a x o)
ruling_good a x outcome.Accepted g = asked_good a x (rejection a x abstract_syntax) g (rejection_good a x abstract_syntax g (omega arith))
ruling_good a x (outcome.Misplaced k) g = rejection_good a x falsely_constructed g (omega arith)
ruling_good a x outcome.Rejected g = rejection_good a x abstract_syntax g (omega arith)

-- what is decided: a reply, and what is then remembered
abbrev pub Sure : Edition → Decided → Type 0
Sure e (keeps a r) = Spoken e r
Sure e (changes u r) = Spoken e r × GoodUnit u
Sure e (fails u w r) = Spoken e r × GoodUnit u

module _ (u : units.Unit) (t : GoodUnit u) where
  -- only a start asks for something
  abbrev GoodChange : Change → Type 0
  GoodChange (change.Stays a) = Unit
  GoodChange (change.Starts a) = Good (starting a u.held)
  GoodChange (change.Stops m c) = Unit
  GoodChange change.Empties = Unit
  GoodChange change.Resets = Unit
  GoodChange change.SetsUp = Unit
  GoodChange (change.SetupFails w) = Unit

  abbrev GoodDecision : Decision → Type 0
  GoodDecision d = GoodReply d.reply × GoodChange d.change

  changed_sure : (e : Edition) (items : List Item) (r : Replied) → Spoken e r → (x : Change) → GoodChange x → Sure e (changed u items r x)
  changed_sure e items r s (change.Stays a) g = s
  changed_sure e items r s (change.Starts a) g = (s, record { held = g })
  changed_sure e items r s (change.Stops m c) g = (s, record { held = stopping_good u.held t.held m c })
  changed_sure e items r s change.Empties g = (s, record { held = none_good })
  changed_sure e items r s change.Resets g = (s, record { held = without_good u.held t.held items })
  changed_sure e items r s change.SetsUp g = (s, record { held = none_good })
  changed_sure e items r s (change.SetupFails w) g = (s, record { held = t.held })

  -- of a message that asks about two identities
  abbrev about : Option MmeId → Option MceId → Standing
  about x y = standing (record { mme = x; mce = y }) u.held

  module _ (c : MceId) (o : c.0 < 65536) where
    started_good : (m : MmeId) (i : Tmgi) (s : Option ℕ) → m.0 < 65536 → GoodDecision (started (about (Some m) (Some c)) c m i s)
    unfolding started
    started_good m i s g =
        by_test GoodDecision (holds_mme m u.held) (λ e. ((g, omega arith), tt))
        (λ h. by_test GoodDecision (holds_mce c u.held) (λ e. (tt, tt))
        (λ k. on-pick GoodDecision (full u.held) ((g, omega arith), tt) ((g, o), starting_good u.held t.held _ (record { mme = g; mce = o }) h k)))

    stopped_good : (m : MmeId) (x : MceId) → m.0 < 65536 → x.0 < 65536 → GoodDecision (stopped (about (Some m) (Some x)) m x)
    unfolding stopped
    stopped_good m x g h = on-pick GoodDecision (holds_pair m x u.held) ((g, h), tt) ((g, h), tt)

    carried_good : (q : Request) → GoodRequest q → GoodDecision (carried_out (standing (asked c q) u.held) c q)
    carried_good (request.Start m i s) g = started_good m i s g
    carried_good (request.Stop m x) g = stopped_good m x g.0 g.1
    carried_good request.Whole g = (tt, tt)
    carried_good request.Part g = (tt, tt)
    carried_good request.Indication g = (tt, tt)
    carried_good request.SetupResponse g = (tt, tt)
    carried_good (request.SetupFailure w) g = (tt, tt)

    ruled_sure : (e : Edition) → of_m3ap e ≡ true → (w : Understood) → Sound w → (r : Ruling) → GoodRuling r → Sure e (decided e u c (ruled e w r))
    unfolding decided
    ruled_sure e j w z (Ok q) g =
        let d : Decision = carried_out (standing (asked c q) u.held) c q in
        let k = carried_good q g in
        changed_sure e (items_in w.what) (replied e w.frame (keep has_identity (items_in w.what)) w.noted d.reply)
        (spoken w.frame z.frame (items_in w.what) z.items.list w.noted z.noted e j d.reply k.0) d.change k.1
    ruled_sure e j w z (Err r) g = spoken w.frame z.frame [] (record { few = omega arith; each = tt }) w.noted z.noted e j r g

pub decided_sure : (e : Edition) (u : units.Unit) (c : MceId) (v : Verdict) → GoodUnit u → c.0 < 65536 → ((w : Understood) → v ≡ understood w → Sound w × (of_m3ap e ≡ true)) → Sure e (decided e u c (judged_by e v))
unfolding decided judged_by
decided_sure e u c (refused x) t o s = tt
decided_sure e u c (understood w) t o s =
    let z = (s w refl).0 in
    let a : Ask = ask_of w.what.message in
    let x : Seen = seen w.what.values in
    ruled_sure u t c o e (s w refl).1 w z (ruling a x w.outcome) (ruling_good a x w.outcome z.seen)
