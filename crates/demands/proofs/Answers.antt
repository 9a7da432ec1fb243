-- The table call answers and replies as 01's table of answers says: the first that is due, or 10 where the reply does not fit.
-- Assumes nothing.
use Rattle.identity.specs.declared.Tmgi.{Tmgi}
use Rattle.identity.specs.declared.MmeId.{MmeId}
use Prim.Native.Nat.{ℕ, ◌+◌}
use mathlib.Core.Path.{◌≡◌, ◌∙◌, refl, sym, ap, subst}
use mathlib.Core.Bool.{Bool, true, false, not, ◌&&◌, true≢false}
use mathlib.Core.List.{List, []}
use lib.Dec.{ltb}
use lib.ListN.{length}
use Rattle.lists.specs.Lists.{pick}
use Rattle.std.specs.Prelude.{IsSome, Ok, Err, None, Option, Some}
use Rattle.octets.specs.Read.{Read}
use Rattle.octets.specs.declared.Stop.TheVariants.{Fault, Extension}
use Rattle.identity.specs.declared.MceId.{MceId}
use Rattle.values.specs.declared.Cause.{Cause}
use Rattle.rows.specs.declared.Row.{Row}
use Rattle.octets.proofs.Chain.{past}
use Rattle.elements.specs.Judge.{judged_of}
use Rattle.envelopes.specs.declared.Head.{Head}
use Rattle.envelopes.specs.Envelope.{heads_at}
use Rattle.editions.specs.declared.Message.{Message}
use Rattle.editions.specs.declared.Edition.{Edition}
use Rattle.editions.specs.Editions.{table_of, container_of, named_by}
use Rattle.frames.specs.declared.Count.{Count}
use Rattle.frames.specs.declared.Frame.{Frame}
use Rattle.frames.specs.Frame.{frame_at}
use Rattle.meaning.specs.Value.{Said, said_by}
use Rattle.meaning.specs.Reading.{values_in}
use Rattle.verdicts.specs.declared.Outcome.{Outcome}
use Rattle.verdicts.specs.declared.Outcome.TheVariants as outcome
use Rattle.verdicts.specs.declared.Refusal.TheVariants as refusal
use Rattle.verdicts.specs.Verdict.{Opening, outcome_by, opened_at, Understood, Verdict, refused, understood_by, verdict_of, of_those, framed, read_of}
use Rattle.table.specs.Table.{full, holds_mme, holds_mce, holds_pair}
use Rattle.units.specs.Unit.{Unit, MaybeUnit, is_unit, no_unit, read_unit}
use Rattle.requests.specs.declared.Extent.{Extent}
use Rattle.requests.specs.declared.Extent.TheVariants as extent
use Rattle.requests.specs.declared.Ask.{Ask}
use Rattle.requests.specs.declared.Ask.TheVariants as ask
use Rattle.requests.specs.declared.Seen.{Seen}
use Rattle.requests.specs.Requests.{ask_of, asks, is_asked, answers_setup, request_of, seen}
use Rattle.replies.specs.Replies.{Replied, silent, says, replied, reply_octets}
use Rattle.carry.specs.declared.Answer.TheVariants as answer
use Rattle.carry.specs.Carry.{rejection, ruling, started, stopped}
use Rattle.answers.specs.Answers.{numbered}
use Rattle.calls.specs.Judged.{ruled, judged_by, judged, verdict, setup_answer, framed_answer, is_answer}
use Rattle.calls.specs.Decided.{Decided, keeps, decided}
use Rattle.calls.specs.Call.{Call, Back, answer_of, replied_in, settled_if, fits, settled, on_unit, call, decided_on}
use Rattle.demands.specs.Answered.{Handed}
use Rattle.demands.specs.Due.{Reply, Due, no_room, MaybeInside, judged_in, inside_of, inside_by, rejected_reply, counted_by, extensions_by, due_for, due, due_on, AnswersAs, ReplyIs, RepliesAs}
use Rattle.demands.proofs.Settle.{none_said}
use Rattle.demands.proofs.Verdicts.{judging}
use Rattle.demands.proofs.Accepted.{accepted_complete}
use Rattle.demands.proofs.UnitOut.{call_on}
use Rattle.demands.proofs.Demand.{demand_1}

-- the number of what is decided, and the message that is the reply
record Given : Type 0 where
  number : ℕ
  reply : Reply

abbrev reply_by : Replied → Reply
reply_by silent = None
reply_by (says w) = Some w.message

abbrev given : Decided → Given
given x = record { number = (numbered (answer_of x)).number; reply = reply_by (replied_in x) }

abbrev due_as : Due → Given
due_as d = record { number = d.number; reply = d.reply }

-- ---- what is inside, where it can be read to the end
module _ (e : Edition) (s : List ℕ) (f : Frame) (m : Message) (name : named_by e f.kind f.code ≡ Some m) where
  -- with these extensions
  abbrev inside_with : Count → List Head → MaybeInside
  inside_with k xs =
      let n = k.elements in
      let t : List Row = table_of e m in
      let x = judged_of t n (heads_at s n (f.from + 3)) xs in
      Some (record { ask = ask_of m; opened = opened_at t (container_of e m) s f.from; outcome = outcome_by n x; seen = seen (values_in t s x.spans) })

  pub inside_is : (o : Opening) → opened_at (table_of e m) (container_of e m) s f.from ≡ Ok o
      → inside_by e s (Ok f) ≡ Some (record { ask = ask_of m; opened = Ok o; outcome = o.outcome; seen = seen (values_in (table_of e m) s o.spans) })
  inside_is o q =
      let t : List Row = table_of e m in
      let b : Bool = container_of e m in
      let j = judging t b s f.from (sym q) in
      ap (inside_of e s f) name
      ∙ (ap (λ (r : Read Count). Some (judged_in t b s f.from (counted_by r) (ask_of m))) (sym j.counted)
      ∙ (ap (λ (r : Read (List Head)). inside_with j.opens (extensions_by r)) (sym (past _ j.end j.scan j.behind))
      ∙ (λ i. Some (record { ask = ask_of m; opened = q i; outcome = ap (λ (y : Opening). y.outcome) j.is i; seen = seen (values_in t s (ap (λ (y : Opening). y.spans) j.is i)) }))))

-- ---- the rules, on a unit u; of a message of at most 8,192 octets with a frame
module _ (e : Edition) (u : Unit) (c : MceId) (s : List ℕ) (f : Frame) where
  module _ (w : Understood) (o : Opening) where
    abbrev within : Ask → Outcome → Seen → MaybeInside
    within q x y = Some (record { ask = q; opened = Ok o; outcome = x; seen = y })

    abbrev first : Ask → Outcome → Seen → Given
    first q x y = due_as (due_for (is_unit u) s (Ok f) (within q x y) c)

    abbrev made : Ask → Outcome → Seen → Given
    made q x y = given (decided e u c (ruled e w (ruling q y x)))

    module _ (small : ltb 8192 (length s) ≡ false) where
      rejected_reply_lem : (q : Ask) (x : Option MmeId) (y : Option MceId) (g : Option Tmgi) (v : Option ℕ) (k : Option ℕ) (r : Option Extent) (why : Cause) → is_asked q ≡ true
          → let z : Seen = record { mme = x; mce = y; tmgi = g; session = v; wait = k; reset = r } in reply_by (replied e w.frame [] w.noted (rejection q z why)) ≡ rejected_reply q z
      unfolding replied rejection
      rejected_reply_lem ask.Start (Some m) y g v k r why i = refl
      rejected_reply_lem ask.Start None y g v k r why i = refl
      rejected_reply_lem ask.Stop x y g v k r why i = refl
      rejected_reply_lem ask.Reset x y g v k r why i = refl
      rejected_reply_lem ask.Indication x y g v k r why i = refl
      rejected_reply_lem ask.SetupResponse x y g v k r why i = refl
      rejected_reply_lem ask.SetupFailure x y g v k r why i = refl
      rejected_reply_lem ask.Nothing x y g v k r why i = refl

      -- an answer to a setup request found one open
      abbrev Heeded : Ask → Type 0
      Heeded q = (answers_setup q && not u.is_open) ≡ false

      accepted_due : (q : Ask) (x : Option MmeId) (y : Option MceId) (g : Option Tmgi) (v : Option ℕ) (w : Option ℕ) (r : Option Extent) → is_asked q ≡ true → Heeded q
          → let z : Seen = record { mme = x; mce = y; tmgi = g; session = v; wait = w; reset = r } in IsSome (request_of q z) → made q outcome.Accepted z ≡ first q outcome.Accepted z
      unfolding decided started stopped replied
      accepted_due ask.Start (Some m) y (Some g) v w r i o k = by (holds_mme m u.held) refl (holds_mce c u.held) refl (full u.held) refl
        where
          z : Seen
          z = record { mme = Some m; mce = y; tmgi = Some g; session = v; wait = w; reset = r }

          by : (p : Bool) → holds_mme m u.held ≡ p → (q : Bool) → holds_mce c u.held ≡ q → (n : Bool) → full u.held ≡ n → made ask.Start outcome.Accepted z ≡ first ask.Start outcome.Accepted z
          by true h q l n o = rw (small, h)
          by false h true l n o = rw (small, h, l)
          by false h false l true o = rw (small, h, l, o)
          by false h false l false o = rw (small, h, l, o)
      accepted_due ask.Start (Some m) y None v w r i o k = cc
      accepted_due ask.Start None y g v w r i o k = cc
      accepted_due ask.Stop (Some m) (Some x) g v w r i o k = by (holds_pair m x u.held) refl
        where
          z : Seen
          z = record { mme = Some m; mce = Some x; tmgi = g; session = v; wait = w; reset = r }

          by : (p : Bool) → holds_pair m x u.held ≡ p → made ask.Stop outcome.Accepted z ≡ first ask.Stop outcome.Accepted z
          by true h = rw (small, h)
          by false h = rw (small, h)
      accepted_due ask.Stop (Some m) None g v w r i o k = cc
      accepted_due ask.Stop None y g v w r i o k = cc
      accepted_due ask.Reset x y g v w (Some extent.Whole) i o k = rw small
      accepted_due ask.Reset x y g v w (Some extent.Part) i o k = rw small
      accepted_due ask.Reset x y g v w None i o k = cc
      accepted_due ask.Indication x y g v w r i o k = rw small
      accepted_due ask.SetupResponse x y g v w r i o k = rw (small, o)
      accepted_due ask.SetupFailure x y g v w r i o k = rw (small, o)
      accepted_due ask.Nothing x y g v w r i o k = cc

      rules_due : (q : Ask) (x : Outcome) (z : Seen) → is_asked q ≡ true → Heeded q → (x ≡ outcome.Accepted → IsSome (request_of q z)) → made q x z ≡ first q x z
      unfolding decided
      rules_due q outcome.Accepted z i o k = accepted_due q z.mme z.mce z.tmgi z.session z.wait z.reset i o (k refl)
      rules_due q (outcome.Misplaced p) z i o k = rw (small, i, o, rejected_reply_lem q z.mme z.mce z.tmgi z.session z.wait z.reset _ i)
      rules_due q outcome.Rejected z i o k = rw (small, i, o, rejected_reply_lem q z.mme z.mce z.tmgi z.session z.wait z.reset _ i)

  -- ---- what is judged, where 14 is not due

  abbrev due_of : MaybeInside → Given
  due_of i = due_as (due_for (is_unit u) s (Ok f) i c)

  abbrev given_by : Verdict → Given
  given_by v = given (decided e u c (judged_by e v))

  module _ (small : ltb 8192 (length s) ≡ false) where
    module _ (m : Message) (name : named_by e f.kind f.code ≡ Some m) (asking : asks m ≡ true) (heeded : (answers_setup (ask_of m) && not u.is_open) ≡ false) where
      abbrev rows : List Row
      rows = table_of e m

      opened_due : (o : Read Opening) → opened_at rows (container_of e m) s f.from ≡ o → verdict e s ≡ verdict_of rows m f s o → given_by (verdict_of rows m f s o) ≡ due_of (inside_by e s (Ok f))
      unfolding decided judged_by
      opened_due (Ok o) q v =
          let w : Understood = understood_by rows m f s o in
          rules_due w o small (ask_of m) o.outcome (seen (values_in rows s o.spans)) asking heeded (accepted_complete e s w v) ∙ sym (ap due_of (inside_is e s f m name o q))
      opened_due (Err (Fault p)) q v = rw (name, small, asking, heeded, q)
      opened_due (Err (Extension p)) q v = rw (name, small, asking, heeded, q)

    asking_due : (m : Message) → named_by e f.kind f.code ≡ Some m → (answers_setup (ask_of m) && not u.is_open) ≡ false → (b : Bool) → asks m ≡ b
        → verdict e s ≡ pick b (verdict_of (table_of e m) m f s (opened_at (table_of e m) (container_of e m) s f.from)) (refused refusal.NotAmong)
        → given_by (pick b (verdict_of (table_of e m) m f s (opened_at (table_of e m) (container_of e m) s f.from)) (refused refusal.NotAmong)) ≡ due_of (inside_by e s (Ok f))
    unfolding decided judged_by
    asking_due m name heeded true i q = opened_due m name i heeded (opened_at (table_of e m) (container_of e m) s f.from) refl q
    asking_due m name heeded false i q = rw (name, small, i)

    named_due : (n : Option Message) → named_by e f.kind f.code ≡ n → (is_answer e n && not u.is_open) ≡ false → verdict e s ≡ of_those e asks s f n → given_by (of_those e asks s f n) ≡ due_of (inside_by e s (Ok f))
    unfolding decided judged_by
    named_due (Some m) name heeded q = asking_due m name heeded (asks m) refl q
    named_due None name heeded q = rw (name, small)

-- ---- an answer to a setup request asks for something
answer_asks : (q : Ask) → answers_setup q ≡ true → is_asked q ≡ true
answer_asks ask.SetupResponse h = refl
answer_asks ask.SetupFailure h = refl
answer_asks ask.Start h = refl
answer_asks ask.Stop h = refl
answer_asks ask.Reset h = refl
answer_asks ask.Indication h = refl
answer_asks ask.Nothing h = h

module _ (e : Edition) (u : Unit) (c : MceId) (s : List ℕ) where
  abbrev given_of : Verdict → Given
  given_of v = given (decided e u c (judged_by e v))

  abbrev due_by_lem : Read Frame → Given
  due_by_lem r = due_as (due_for (is_unit u) s r (inside_by e s r) c)

  framed_due : ltb 8192 (length s) ≡ false → (r : Read Frame) → (framed_answer e r && not u.is_open) ≡ false → verdict e s ≡ framed e asks s r → given_of (framed e asks s r) ≡ due_by_lem r
  unfolding decided judged_by
  framed_due small (Ok f) heeded q = named_due e u c s f small (named_by e f.kind f.code) refl heeded q
  framed_due small (Err (Fault p)) heeded q = rw small
  framed_due small (Err (Extension p)) heeded q = rw small

  judged_due : (setup_answer e s && not u.is_open) ≡ false → given_of (verdict e s) ≡ due_by_lem (frame_at s)
  unfolding read_of decided judged_by setup_answer
  judged_due = by (ltb 8192 (length s)) refl refl
    where
      by : (b : Bool) → ltb 8192 (length s) ≡ b → verdict e s ≡ pick b (refused refusal.TooLong) (framed e asks s (frame_at s)) → ((not b && framed_answer e (frame_at s)) && not u.is_open) ≡ false
          → given_of (pick b (refused refusal.TooLong) (framed e asks s (frame_at s))) ≡ due_by_lem (frame_at s)
      by true z q heeded = rw z
      by false z q heeded = framed_due z (frame_at s) heeded q

  -- ---- 14

  abbrev fourteen : Given
  fourteen = record { number = 14; reply = None }

  named_answer : ltb 8192 (length s) ≡ false → (f : Frame) (n : Option Message) → named_by e f.kind f.code ≡ n → is_answer e n ≡ true → u.is_open ≡ false → fourteen ≡ due_by_lem (Ok f)
  named_answer small f (Some m) name a o = rw (name, small, answer_asks (ask_of m) a, a, o)
  named_answer small f None name a o = absurd (true≢false (sym a))

  framed_answer_lem : ltb 8192 (length s) ≡ false → (r : Read Frame) → framed_answer e r ≡ true → u.is_open ≡ false → fourteen ≡ due_by_lem r
  framed_answer_lem small (Ok f) a o = named_answer small f (named_by e f.kind f.code) refl a o
  framed_answer_lem small (Err x) a o = absurd (true≢false (sym a))

  answer_due : setup_answer e s ≡ true → u.is_open ≡ false → fourteen ≡ due_by_lem (frame_at s)
  unfolding setup_answer
  answer_due = by (ltb 8192 (length s)) refl
    where
      by : (b : Bool) → ltb 8192 (length s) ≡ b → (not b && framed_answer e (frame_at s)) ≡ true → u.is_open ≡ false → fourteen ≡ due_by_lem (frame_at s)
      by true z a o = absurd (true≢false (sym a))
      by false z a o = framed_answer_lem z (frame_at s) a o

-- ---- what is decided

decided_due : (e : Edition) (u : Unit) (c : Call) → given (decided_on e u c) ≡ due_as (due e (is_unit u) c)
unfolding decided_on due
decided_due e u c = by (setup_answer e c.message) refl u.is_open refl
  where
    by : (a : Bool) → setup_answer e c.message ≡ a → (b : Bool) → u.is_open ≡ b
        → given (pick (a && not b) (keeps answer.NoneOpen silent) (decided e u c.offered (judged e c.message))) ≡ due_by_lem e u c.offered c.message (frame_at c.message)
    by true p true q = judged_due e u c.offered c.message (rw (p, q))
    by true p false q = answer_due e u c.offered c.message p q
    by false p b q = judged_due e u c.offered c.message (rw p)

-- ---- the call

settled_due : (e : Edition) (t d : List ℕ) (b : Bool) (x : Decided) (y z : Due) → (numbered (answer_of x)).number ≡ y.number → z.number ≡ 10
    → (numbered (settled_if e b t d x).answer).number ≡ (pick b y z).number
settled_due e t d true x y z q r = q
settled_due e t d false x y z q r = sym r

pub answers_as : (e : Edition) → AnswersAs e
unfolding call settled due
answers_as e t c = by (read_unit t)
  where
    by : (x : MaybeUnit) → (numbered (on_unit e t c x).answer).number ≡ (due_on e x c).number
    by (is_unit u) =
        let x : Decided = decided_on e u c in
        settled_due e t c.room (fits e c.room x) x (due e (is_unit u) c) no_room (ap (λ (y : Given). y.number) (decided_due e u c)) refl
    by no_unit = refl

-- ---- the reply

module _ (e : Edition) (t : List ℕ) (c : Call) (h : Handed t c) where
  module _ (u : Unit) (q : read_unit t ≡ is_unit u) where
    abbrev made_on : Decided
    made_on = decided_on e u c

    called : (b : Bool) → fits e c.room made_on ≡ b → (call e t c).reply ≡ (settled_if e b t c.room made_on).reply
    unfolding settled
    called b f = ap (λ (x : Back). x.reply) (call_on e t c u q) ∙ ap (λ (y : Bool). (settled_if e y t c.room made_on).reply) f

    spoken_is : fits e c.room made_on ≡ true → (r : Replied) → replied_in made_on ≡ r → ReplyIs e (call e t c).reply (reply_by r)
    unfolding said_by
    spoken_is f silent k = called true f ∙ (ap (reply_octets e) k ∙ none_said e)
    spoken_is f (says w) k = let b = (demand_1 e).spoken t c u w h q f k in (b.what, b.read, ap (λ (x : Said). x.message) b.said)

    unit_replies : (b : Bool) → fits e c.room made_on ≡ b → (y z : Due) → reply_by (replied_in made_on) ≡ y.reply → z.reply ≡ None → ReplyIs e (call e t c).reply (pick b y z).reply
    unit_replies true f y z k n = subst (ReplyIs e (call e t c).reply) k (spoken_is f (replied_in made_on) refl)
    unit_replies false f y z k n = subst (ReplyIs e (call e t c).reply) (sym n) (called false f)

pub replies_as : (e : Edition) → RepliesAs e
unfolding call due
replies_as e t c h = by (read_unit t) refl
  where
    by : (x : MaybeUnit) → read_unit t ≡ x → ReplyIs e (call e t c).reply (due_on e x c).reply
    by (is_unit u) q = unit_replies e t c h u q (fits e c.room (decided_on e u c)) refl (due e (is_unit u) c) no_room (ap (λ (y : Given). y.reply) (decided_due e u c)) refl
    by no_unit q = ap (λ (x : MaybeUnit). (on_unit e t c x).reply) q
