-- What the table call does with what is decided: the answer is of 01's list, refusals leave the unit, the reply stands in front of the room,
-- and an answer without a reply leaves the room.
-- Assumes nothing.
use Rattle.std.specs.Prelude.{Option, Ok, Err}
use Prim.Native.Nat.{ℕ, ◌≤◌}
use mathlib.Core.Path.{◌≡◌, refl, ap, ◌∙◌}
use mathlib.Core.Bool.{Bool, true, false, not, ◌&&◌}
use mathlib.Core.List.{List, [], ◌++◌}
use native.Mathlib.Omega.{arith}
use borrow.Author.Tests.{leb-true}
use lib.ListN.{length, drop}
use Rattle.lists.specs.Lists.{keep}
use Rattle.lists.proofs.Tests.{on-pick}
use Rattle.octets.specs.declared.Stop.TheVariants.{Fault, Extension}
use Rattle.identity.specs.declared.MmeId.{MmeId}
use Rattle.identity.specs.declared.MceId.{MceId}
use Rattle.identity.specs.declared.Tmgi.{Tmgi}
use Rattle.identity.specs.declared.Item.{Item}
use Rattle.entries.specs.declared.Entry.{Entry}
use Rattle.editions.specs.declared.Edition.{Edition}
use Rattle.frames.specs.declared.Frame.{Frame}
use Rattle.verdicts.specs.Verdict.{Verdict, refused, understood, Understood}
use Rattle.table.specs.declared.Standing.{Standing}
use Rattle.table.specs.Table.{standing}
use Rattle.units.specs.Unit.{Unit, MaybeUnit, is_unit, no_unit, read_unit}
use Rattle.replies.specs.declared.Reply.TheVariants as reply
use Rattle.replies.specs.Replies.{has_identity, silent, replied, reply_octets}
use Rattle.requests.specs.declared.Request.{Request}
use Rattle.requests.specs.declared.Request.TheVariants as request
use Rattle.requests.specs.Requests.{ask_of, seen, items_in}
use Rattle.carry.specs.declared.Answer.{Answer}
use Rattle.carry.specs.declared.Answer.TheVariants as answer
use Rattle.carry.specs.declared.Decision.{Decision}
use Rattle.carry.specs.Carry.{Ruling, started, stopped, carried_out, asked, ruling}
use Rattle.answers.specs.Answers.{numbered}
use Rattle.calls.specs.Decided.{Decided, keeps, changes, fails, applied, decided}
use Rattle.calls.specs.Judged.{ruled, judged_by, verdict, setup_answer}
use Rattle.calls.specs.Call.{Call, Back, reply_of, answer_of, settled_if, fits, settled, decided_on, on_unit, call}
use Rattle.demands.specs.Answered.{is_among, numbers, silent_numbers, Answered}

-- ---- answers

pub listed : (a : Answer) → is_among numbers (numbered a).number ≡ true
listed answer.CarriedOut = refl
listed answer.TooLong = refl
listed (answer.Stopped (Fault p)) = refl
listed (answer.Stopped (Extension p)) = refl
listed answer.NoRequest = refl
listed answer.Rejected = refl
listed answer.MmeHeld = refl
listed answer.OfferHeld = refl
listed answer.PairNotHeld = refl
listed answer.Full = refl
listed answer.NoRoom = refl
listed answer.NoneOpen = refl
listed (answer.SetupFailed w) = refl
listed answer.NoUnit = refl

pub no_place : (a : Answer) → ((numbered a).number ≡ 2 → ⊥) → ((numbered a).number ≡ 3 → ⊥) → (numbered a).place ≡ 0
no_place answer.CarriedOut h k = refl
no_place answer.TooLong h k = refl
no_place (answer.Stopped (Fault p)) h k = absurd (h refl)
no_place (answer.Stopped (Extension p)) h k = absurd (k refl)
no_place answer.NoRequest h k = refl
no_place answer.Rejected h k = refl
no_place answer.MmeHeld h k = refl
no_place answer.OfferHeld h k = refl
no_place answer.PairNotHeld h k = refl
no_place answer.Full h k = refl
no_place answer.NoRoom h k = refl
no_place answer.NoneOpen h k = refl
no_place (answer.SetupFailed w) h k = refl
no_place answer.NoUnit h k = refl

no_wait : (a : Answer) → ((numbered a).number ≡ 0 → ⊥) → (numbered a).wait ≡ 0
no_wait answer.CarriedOut h = refl
no_wait answer.TooLong h = refl
no_wait (answer.Stopped (Fault p)) h = refl
no_wait (answer.Stopped (Extension p)) h = refl
no_wait answer.NoRequest h = refl
no_wait answer.Rejected h = refl
no_wait answer.MmeHeld h = refl
no_wait answer.OfferHeld h = refl
no_wait answer.PairNotHeld h = refl
no_wait answer.Full h = refl
no_wait answer.NoRoom h = refl
no_wait answer.NoneOpen h = refl
no_wait (answer.SetupFailed w) h = absurd (h refl)
no_wait answer.NoUnit h = refl

-- ---- settling, for any decision

abbrev number : Back → ℕ
number b = (numbered b.answer).number

module _ (e : Edition) where
  module _ (t d : List ℕ) where
    refused_unit : (b : Bool) (x : Decided) → (number (settled_if e b t d x) ≡ 0 → ⊥) → (settled_if e b t d x).unit ≡ t
    refused_unit true (keeps a r) h = refl
    refused_unit true (changes u r) h = absurd (h refl)
    refused_unit true (fails u w r) h = absurd (h refl)
    refused_unit false x h = refl

    reply_fits : (b : Bool) (x : Decided) → fits e d x ≡ b → length (settled_if e b t d x).reply ≤ length d
    reply_fits true x q = leb-true (length (reply_of e x)) (length d) q
    reply_fits false x q = omega arith

    reply_front : (b : Bool) (x : Decided) → (settled_if e b t d x).room ≡ (settled_if e b t d x).reply ++ drop (length (settled_if e b t d x).reply) d
    reply_front true x = refl
    reply_front false x = refl

    no_reply : (b : Bool) (x : Decided) → (is_among silent_numbers (numbered (answer_of x)).number ≡ true → reply_of e x ≡ [])
        → is_among silent_numbers (number (settled_if e b t d x)) ≡ true → (settled_if e b t d x).reply ≡ []
    no_reply true x h q = h q
    no_reply false x h q = refl

  -- ---- decisions: an answer of those that never have a reply has none

  abbrev Silent : Decided → Type 0
  Silent x = is_among silent_numbers (numbered (answer_of x)).number ≡ true → reply_of e x ≡ []

  pub none_said : reply_octets e silent ≡ []
  unfolding reply_octets
  none_said = refl

  pub no_record_lem : (f : Frame) (kept : List Item) (noted : List Entry) → replied e f kept noted reply.None ≡ silent
  unfolding replied
  no_record_lem f kept noted = refl

  module _ (u : Unit) (f : Frame) (items : List Item) (noted : List Entry) where
    abbrev SilentBy : Decision → Type 0
    SilentBy d = Silent (applied e u f items noted d)

    -- no reply
    none : reply_octets e (replied e f (keep has_identity items) noted reply.None) ≡ []
    none = rw (no_record_lem f (keep has_identity items) noted) none_said

    module _ (k : Standing) (c : MceId) where
      started_silent : (m : MmeId) (t : Tmgi) (s : Option ℕ) → SilentBy (started k c m t s)
      unfolding started
      started_silent m t s = on-pick SilentBy k.mme (λ e. cc) (on-pick SilentBy k.mce (λ e. none) (on-pick SilentBy k.full (λ e. cc) (λ e. cc)))

      stopped_silent : (m : MmeId) (x : MceId) → SilentBy (stopped k m x)
      unfolding stopped
      stopped_silent m x = on-pick SilentBy k.pair (λ e. cc) (λ e. cc)

      carried_silent : (q : Request) → SilentBy (carried_out k c q)
      carried_silent (request.Start m t s) = started_silent m t s
      carried_silent (request.Stop m x) = stopped_silent m x
      carried_silent request.Whole = λ e. cc
      carried_silent request.Part = λ e. cc
      carried_silent request.Indication = λ e. none
      carried_silent request.SetupResponse = λ e. none
      carried_silent (request.SetupFailure w) = λ e. none

  ruled_silent : (u : Unit) (c : MceId) (w : Understood) (r : Ruling) → Silent (decided e u c (ruled e w r))
  unfolding decided
  ruled_silent u c w (Ok q) = carried_silent u w.frame (items_in w.what) w.noted (standing (asked c q) u.held) c q
  ruled_silent u c w (Err r) = λ q. cc

  pub decided_silent : (u : Unit) (c : MceId) (v : Verdict) → Silent (decided e u c (judged_by e v))
  unfolding judged_by decided
  decided_silent u c (refused x) = λ q. none_said
  decided_silent u c (understood w) = ruled_silent u c w (ruling (ask_of w.what.message) (seen w.what.values) w.outcome)

  decided_on_silent : (u : Unit) (c : Call) → Silent (decided_on e u c)
  unfolding decided_on
  decided_on_silent u c = on-pick Silent (setup_answer e c.message && not u.is_open) (λ q. none_said) (decided_silent u c.offered (verdict e c.message))

  -- ---- the call

  module _ (t : List ℕ) (c : Call) where
    record Left (b : Back) : Type 0 where
      refused : (number b ≡ 0 → ⊥) → b.unit ≡ t
      fits : length b.reply ≤ length c.room
      room : b.room ≡ b.reply ++ drop (length b.reply) c.room
      silent : is_among silent_numbers (number b) ≡ true → b.reply ≡ []

    left : (x : MaybeUnit) → Left (on_unit e t c x)
    unfolding settled
    left (is_unit u) =
        let x : Decided = decided_on e u c in
        let b : Bool = fits e c.room x in
        record {
          refused = refused_unit t c.room b x;
          fits = reply_fits t c.room b x refl;
          room = reply_front t c.room b x;
          silent = no_reply t c.room b x (decided_on_silent u c);
        }
    left no_unit = record { refused = λ h. refl; fits = omega arith; room = refl; silent = λ e. refl }

    pub answered : Answered e t c
    unfolding call
    answered =
        let x = left (read_unit t) in
        record {
          answer = listed (call e t c).answer;
          refused = x.refused;
          fits = x.fits;
          room = x.room;
          silent = λ q. (x.silent q, x.room ∙ ap (λ (r : List ℕ). r ++ drop (length r) c.room) (x.silent q));
          place = no_place (call e t c).answer;
          wait = no_wait (call e t c).answer;
        }
