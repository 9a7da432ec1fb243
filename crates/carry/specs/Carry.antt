-- 01's rules: the judging ends in a refusal or in a request, and a request is carried out by what is held of its identities.
use Rattle.std.specs.Prelude.{None, Option, Some, Result, Ok, Err, ℕ}
use Rattle.lists.specs.Lists.{pick}
use Rattle.identity.specs.declared.MmeId.{MmeId}
use Rattle.identity.specs.declared.MceId.{MceId}
use Rattle.identity.specs.declared.Tmgi.{Tmgi}
use Rattle.identity.specs.declared.Item.{Item}
use Rattle.identity.specs.Items.{empty_item}
use Rattle.values.specs.declared.Cause.{Cause}
use Rattle.verdicts.specs.declared.Outcome.{Outcome}
use Rattle.verdicts.specs.declared.Outcome.TheVariants as outcome
use Rattle.verdicts.specs.declared.Refusal.{Refusal}
use Rattle.verdicts.specs.declared.Refusal.TheVariants as refused
use Rattle.table.specs.declared.Standing.{Standing}
use Rattle.replies.specs.declared.Reply.{Reply}
use Rattle.replies.specs.declared.Reply.TheVariants as reply
use Rattle.replies.specs.Replies.{mme_taken, no_resources, abstract_syntax, falsely_constructed}
use Rattle.requests.specs.declared.Ask.{Ask}
use Rattle.requests.specs.declared.Ask.TheVariants as ask
use Rattle.requests.specs.declared.Seen.{Seen}
use Rattle.requests.specs.declared.Request.{Request}
use Rattle.requests.specs.declared.Request.TheVariants as request
use Rattle.requests.specs.Requests.{request_of}
use Rattle.carry.specs.declared.Answer.{Answer}
use Rattle.carry.specs.declared.Answer.TheVariants as answer
use Rattle.carry.specs.declared.Change.{Change}
use Rattle.carry.specs.declared.Change.TheVariants as change
use Rattle.carry.specs.declared.Decision.{Decision}

-- ---- the judging ends in a refusal with its reply, or in a request

abbrev pub Ruling : Type 0
Ruling = Result Request Reply

-- answer 5: START FAILURE if a start's MME identity was read; none for an ERROR INDICATION; else ERROR INDICATION, with the identities read for a stop
abbrev pub start_rejected : Option MmeId → Cause → Reply
start_rejected (Some m) why = reply.StartFailure m why
start_rejected None why = reply.Rejection None None why

unfoldable pub rejection : Ask → Seen → Cause → Reply
rejection ask.Start x why = start_rejected x.mme why
rejection ask.Stop x why = reply.Rejection x.mme x.mce why
rejection ask.Reset x why = reply.Rejection None None why
rejection ask.Indication x why = reply.None
rejection ask.SetupResponse x why = reply.Rejection None None why
rejection ask.SetupFailure x why = reply.Rejection None None why
rejection ask.Nothing x why = reply.None

-- a mandatory element that is missing is rejected
abbrev pub ruled_by : Reply → Option Request → Ruling
ruled_by r (Some q) = Ok q
ruled_by r None = Err r

abbrev pub ruling : Ask → Seen → Outcome → Ruling
ruling a x outcome.Accepted = ruled_by (rejection a x abstract_syntax) (request_of a x)
ruling a x (outcome.Misplaced p) = Err (rejection a x falsely_constructed)
ruling a x outcome.Rejected = Err (rejection a x abstract_syntax)

-- answers 1 to 4
abbrev pub refusal : Refusal → Answer
refusal refused.TooLong = answer.TooLong
refusal (refused.Stopped x) = answer.Stopped x
refusal refused.NotAmong = answer.NoRequest

-- ---- a request is carried out

abbrev deciding : Change → Reply → Decision
deciding x r = record { change = x; reply = r }

-- what is held stays
abbrev pub stays : Answer → Reply → Decision
stays a r = deciding (change.Stays a) r

-- a start asks about its MME identity and the offered one, a stop about its two; nothing else asks
abbrev pub asked : MceId → Request → Item
asked c (request.Start m t s) = record { mme = Some m; mce = Some c }
asked c (request.Stop m x) = record { mme = Some m; mce = Some x }
asked c request.Whole = empty_item
asked c request.Part = empty_item
asked c request.Indication = empty_item
asked c request.SetupResponse = empty_item
asked c (request.SetupFailure w) = empty_item

-- k is what is held of the identities that the request asks about
module _ (k : Standing) where
  -- start: 6, 7, 9, or the new association stands behind the others
  unfoldable pub started : MceId → MmeId → Tmgi → Option ℕ → Decision
  started c m t s =
      pick k.mme (stays answer.MmeHeld (reply.StartFailure m mme_taken))
      (pick k.mce (stays answer.OfferHeld reply.None)
      (pick k.full (stays answer.Full (reply.StartFailure m no_resources))
      (deciding (change.Starts (record { mme = m; mce = c; tmgi = t; session = s })) (reply.StartResponse m c))))

  -- stop: 8, or the association that has both identities is gone
  unfoldable pub stopped : MmeId → MceId → Decision
  stopped m c = pick k.pair (deciding (change.Stops m c) (reply.StopResponse m c)) (stays answer.PairNotHeld (reply.PairNotHeld m c))

  -- whole reset empties the table; partial reset removes what the items name; ERROR INDICATION changes nothing and gets no reply;
  -- an accepted setup empties the table, a failure keeps it and hands back Time to Wait, and both close the request without a reply
  abbrev pub carried_out : MceId → Request → Decision
  carried_out c (request.Start m t s) = started c m t s
  carried_out c (request.Stop m x) = stopped m x
  carried_out c request.Whole = deciding change.Empties reply.Acknowledge
  carried_out c request.Part = deciding change.Resets reply.AcknowledgeItems
  carried_out c request.Indication = stays answer.CarriedOut reply.None
  carried_out c request.SetupResponse = deciding change.SetsUp reply.None
  carried_out c (request.SetupFailure w) = deciding (change.SetupFails w) reply.None

-- ---- both in turn, as the code has them: of a refusal nothing is asked, and nothing changes

abbrev pub asked_by : MceId → Ruling → Item
asked_by c (Ok q) = asked c q
asked_by c (Err r) = empty_item

abbrev pub decision : Standing → MceId → Ruling → Decision
decision k c (Ok q) = carried_out k c q
decision k c (Err r) = stays answer.Rejected r
