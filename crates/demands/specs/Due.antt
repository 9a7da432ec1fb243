-- 01's table of answers once more, in 01's order, with 02's row 14 directly after 4: each number, when it is given, and which message is its reply. The first that is due is given;
-- 10 takes its place where the reply does not fit. Each row's test says what 01's row says, and nothing of the other rows.
use Rattle.identity.specs.declared.MmeId.{MmeId}
use Rattle.std.specs.Prelude.{ℕ, ◌+◌, ◌≡◌, Bool, true, false, not, ◌&&◌, List, [], ◌∷◌, ltb, length, Ok, Err, None, Option, Some}
use Rattle.lists.specs.Lists.{pick}
use Rattle.octets.specs.Read.{Read, or_none}
use Rattle.octets.specs.declared.Stop.TheVariants.{Fault, Extension}
use Rattle.identity.specs.declared.MceId.{MceId}
use Rattle.rows.specs.declared.Row.{Row}
use Rattle.envelopes.specs.declared.Head.{Head}
use Rattle.envelopes.specs.Envelope.{heads_at}
use Rattle.elements.specs.Judge.{Found, judged_of, extensions_behind}
use Rattle.editions.specs.declared.Edition.{Edition}
use Rattle.editions.specs.declared.Message.{Message}
use Rattle.editions.specs.declared.Message.TheVariants as message
use Rattle.editions.specs.Editions.{table_of, container_of, named_by}
use Rattle.frames.specs.declared.Count.{Count}
use Rattle.frames.specs.declared.Frame.{Frame}
use Rattle.frames.specs.Frame.{frame_at, count_at}
use Rattle.meaning.specs.Reading.{values_in}
use Rattle.verdicts.specs.declared.Outcome.{Outcome}
use Rattle.verdicts.specs.declared.Outcome.TheVariants as outcome
use Rattle.verdicts.specs.Verdict.{Opening, opened_at, outcome_by, Understood, understood, every, read_of}
use Rattle.table.specs.Table.{State, full, held_by, holds_mce}
use Rattle.units.specs.Unit.{MaybeUnit, is_unit, no_unit, read_unit}
use Rattle.requests.specs.declared.Ask.{Ask}
use Rattle.requests.specs.declared.Ask.TheVariants as ask
use Rattle.requests.specs.declared.Seen.{Seen}
use Rattle.requests.specs.Requests.{ask_of, is_asked, answers_setup, seen}
use Rattle.answers.specs.Answers.{numbered}
use Rattle.calls.specs.Call.{Call, fits, decided_on, call}
use Rattle.demands.specs.Answered.{Handed}

-- which message the reply is, if there is one
abbrev pub Reply : Type 0
Reply = Option Message

pub record Due : Type 0 where
  pub number : ℕ
  pub given : Bool
  pub reply : Reply

infix 80 ◌when◌reply◌
abbrev pub ◌when◌reply◌ : ℕ → Bool → Reply → Due
◌when◌reply◌ n b r = record { number = n; given = b; reply = r }

abbrev pub first_due : Due → List Due → Due
first_due last [] = last
first_due last (x ∷ xs) = pick x.given x (first_due last xs)

-- ---- what the tests look at

-- a fault, or an extension
abbrev pub faulty : {A : Type 0} → Read A → Bool
faulty (Ok a) = false
faulty (Err (Fault p)) = true
faulty (Err (Extension p)) = false

abbrev pub extension_met : {A : Type 0} → Read A → Bool
extension_met (Ok a) = false
extension_met (Err (Fault p)) = false
extension_met (Err (Extension p)) = true

-- inside the frame: which request the message is; the first fault or extension; and of the elements, as far as they can be read,
-- what the judging comes to and which values are there
pub record Inside : Type 0 where
  pub ask : Ask
  pub opened : Read Opening
  pub outcome : Outcome
  pub seen : Seen

abbrev pub counted_by : Read Count → Count
counted_by (Ok n) = n
counted_by (Err x) = record { elements = 0; container = false }

abbrev pub extensions_by : Read (List Head) → List Head
extensions_by = or_none

abbrev pub judged_in : List Row → Bool → List ℕ → ℕ → Count → Ask → Inside
judged_in t c s from k q =
    let n = k.elements in
    let x : Found = judged_of t n (heads_at s n (from + 3)) (extensions_by (extensions_behind t k.container s n (from + 3))) in
    record { ask = q; opened = opened_at t c s from; outcome = outcome_by n x; seen = seen (values_in t s x.spans) }

abbrev pub MaybeInside : Type 0
MaybeInside = Option Inside

module _ (e : Edition) (s : List ℕ) where
  -- of one of the messages, whether or not it asks
  abbrev pub inside_of : Frame → Option Message → MaybeInside
  inside_of f (Some m) = Some (judged_in (table_of e m) (container_of e m) s f.from (counted_by (count_at (container_of e m) s f.from)) (ask_of m))
  inside_of f None = None

  abbrev pub inside_by : Read Frame → MaybeInside
  inside_by (Ok f) = inside_of f (named_by e f.kind f.code)
  inside_by (Err x) = None

abbrev pub of : (Inside → Bool) → MaybeInside → Bool
of p (Some x) = p x
of p None = false

abbrev pub is_lent : MaybeUnit → Bool
is_lent (is_unit u) = true
is_lent no_unit = false

abbrev of_held : (State → Bool) → MaybeUnit → Bool
of_held p (is_unit u) = p u.held
of_held p no_unit = false

abbrev pub is_open_in : MaybeUnit → Bool
is_open_in (is_unit u) = u.is_open
is_open_in no_unit = false

abbrev pub not_accepted : Outcome → Bool
not_accepted outcome.Accepted = false
not_accepted (outcome.Misplaced k) = true
not_accepted outcome.Rejected = true

abbrev is_start : Ask → Bool
is_start ask.Start = true
is_start ask.Stop = false
is_start ask.Reset = false
is_start ask.Indication = false
is_start ask.SetupResponse = false
is_start ask.SetupFailure = false
is_start ask.Nothing = false

abbrev is_stop : Ask → Bool
is_stop ask.Start = false
is_stop ask.Stop = true
is_stop ask.Reset = false
is_stop ask.Indication = false
is_stop ask.SetupResponse = false
is_stop ask.SetupFailure = false
is_stop ask.Nothing = false

-- ---- the replies of 0 and of 5

abbrev carried_reply : Ask → Reply
carried_reply ask.Start = Some message.StartResponse
carried_reply ask.Stop = Some message.StopResponse
carried_reply ask.Reset = Some message.ResetAcknowledge
carried_reply ask.Indication = None
carried_reply ask.SetupResponse = None
carried_reply ask.SetupFailure = None
carried_reply ask.Nothing = None

-- START FAILURE if a start's MME identity was read
abbrev start_reply : Option MmeId → Reply
start_reply (Some m) = Some message.StartFailure
start_reply None = Some message.ErrorIndication

-- none for an ERROR INDICATION; else ERROR INDICATION
abbrev pub rejected_reply : Ask → Seen → Reply
rejected_reply ask.Start x = start_reply x.mme
rejected_reply ask.Stop x = Some message.ErrorIndication
rejected_reply ask.Reset x = Some message.ErrorIndication
rejected_reply ask.Indication x = None
rejected_reply ask.SetupResponse x = Some message.ErrorIndication
rejected_reply ask.SetupFailure x = Some message.ErrorIndication
rejected_reply ask.Nothing x = None

abbrev to : (Inside → Reply) → MaybeInside → Reply
to r (Some x) = r x
to r None = None

-- ---- the table: a lent unit, a message, its frame, what is inside it, and the offered identity

abbrev pub refusals : MaybeUnit → List ℕ → Read Frame → MaybeInside → MceId → List Due
refusals u s f i c =
    21 when not (is_lent u) reply None
    ∷ 1 when ltb 8192 (length s) reply None
    ∷ 2 when faulty f reply None
    ∷ 3 when extension_met f reply None
    ∷ 4 when not (of (λ x. is_asked x.ask) i) reply None
    ∷ 14 when of (λ x. answers_setup x.ask) i && not (is_open_in u) reply None
    ∷ 2 when of (λ x. faulty x.opened) i reply None
    ∷ 3 when of (λ x. extension_met x.opened) i reply None
    ∷ 5 when of (λ x. not_accepted x.outcome) i reply to (λ x. rejected_reply x.ask x.seen) i
    ∷ 6 when of (λ x. is_start x.ask && of_held (held_by x.seen.mme None) u) i reply Some message.StartFailure
    ∷ 7 when of (λ x. is_start x.ask && of_held (holds_mce c) u) i reply None
    ∷ 8 when of (λ x. is_stop x.ask && of_held (λ l. not (held_by x.seen.mme x.seen.mce l)) u) i reply Some message.ErrorIndication
    ∷ 9 when of (λ x. is_start x.ask && of_held full u) i reply Some message.StartFailure ∷ []

-- where none is due: carried out
abbrev pub due_for : MaybeUnit → List ℕ → Read Frame → MaybeInside → MceId → Due
due_for u s f i c = first_due (0 when true reply to (λ x. carried_reply x.ask) i) (refusals u s f i c)

abbrev pub no_room : Due
no_room = 10 when true reply None

module _ (e : Edition) where
  unfoldable pub due : MaybeUnit → Call → Due
  due u c = due_for u c.message (frame_at c.message) (inside_by e c.message (frame_at c.message)) c.offered

  abbrev pub fits_in : MaybeUnit → Call → Bool
  fits_in (is_unit u) c = fits e c.room (decided_on e u c)
  fits_in no_unit c = true

  -- the first that is due, or 10 where its reply does not fit
  abbrev pub due_on : MaybeUnit → Call → Due
  due_on u c = pick (fits_in u c) (due u c) no_room

  abbrev pub due_in : List ℕ → Call → Due
  due_in t c = due_on (read_unit t) c

  -- the call's answer is that,
  abbrev pub AnswersAs : Type 0
  AnswersAs = (t : List ℕ) (c : Call) → (numbered (call e t c).answer).number ≡ (due_in t c).number

  -- and so is its reply, as it is read back
  abbrev pub ReplyIs : List ℕ → Reply → Type 0
  ReplyIs os None = os ≡ []
  ReplyIs os (Some m) = (v : Understood) × (read_of e every os ≡ understood v) × (v.what.message ≡ m)

  abbrev pub RepliesAs : Type 0
  RepliesAs = (t : List ℕ) (c : Call) → Handed t c → ReplyIs (call e t c).reply (due_in t c).reply
