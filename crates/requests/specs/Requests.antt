-- What a message asks for: which request it is, by its name; and from its values the request, of which nothing is absent.
use Rattle.requests.specs.declared.Request.{Request}
use Rattle.identity.specs.declared.MceId.{MceId}
use Rattle.identity.specs.declared.Tmgi.{Tmgi}
use Rattle.identity.specs.declared.MmeId.{MmeId}
use Rattle.std.specs.Prelude.{Bool, true, false, List, [], ◌∷◌, Ok, Err, None, Option, Some, ℕ}
use Rattle.identity.specs.declared.Item.{Item}
use Rattle.items.specs.Items.{ResetType, whole, part}
use Rattle.editions.specs.declared.Message.{Message}
use Rattle.editions.specs.declared.Message.TheVariants as message
use Rattle.requests.specs.declared.Extent.{Extent}
use Rattle.requests.specs.declared.Extent.TheVariants as extent
use Rattle.requests.specs.declared.Seen.{Seen}
use Rattle.requests.specs.declared.Ask.{Ask}
use Rattle.requests.specs.declared.Ask.TheVariants as ask
use Rattle.requests.specs.declared.Request.TheVariants as request
use Rattle.octets.specs.declared.Span.{Span}
use Rattle.octets.specs.Read.{Read}
use Rattle.layout.specs.Record.{lists_of}
use Rattle.meaning.specs.Value as value
use Rattle.meaning.specs.Value.{Value, Given, given, absent, Record}

abbrev pub nothing : Seen
nothing = record { mme = None; mce = None; tmgi = None; session = None; wait = None; reset = None }

-- with one value more; a number of one octet is a Session Identity
abbrev pub seeing : {C : Type 0} → Value C → Seen → Seen
seeing (value.mme v) x = record { mme = Some v; mce = x.mce; tmgi = x.tmgi; session = x.session; wait = x.wait; reset = x.reset }
seeing (value.mce v) x = record { mme = x.mme; mce = Some v; tmgi = x.tmgi; session = x.session; wait = x.wait; reset = x.reset }
seeing (value.tmgi v) x = record { mme = x.mme; mce = x.mce; tmgi = Some v; session = x.session; wait = x.wait; reset = x.reset }
seeing (value.one v) x = record { mme = x.mme; mce = x.mce; tmgi = x.tmgi; session = Some v; wait = x.wait; reset = x.reset }
seeing (value.wait v) x = record { mme = x.mme; mce = x.mce; tmgi = x.tmgi; session = x.session; wait = Some v; reset = x.reset }
seeing (value.reset whole) x = record { mme = x.mme; mce = x.mce; tmgi = x.tmgi; session = x.session; wait = x.wait; reset = (Some extent.Whole) }
seeing (value.reset (part is)) x = record { mme = x.mme; mce = x.mce; tmgi = x.tmgi; session = x.session; wait = x.wait; reset = (Some extent.Part) }
seeing (value.carried v) x = x
seeing (value.two v) x = x
seeing (value.cause v) x = x
seeing (value.name v) x = x
seeing (value.list v) x = x
seeing (value.diagnostics t v) x = x

-- with what a row gives
abbrev pub also : {C : Type 0} → Given C → Seen → Seen
also (given v) x = seeing v x
also absent x = x

unfoldable pub seen : {C : Type 0} → List (Given C) → Seen
seen [] = nothing
seen (g ∷ gs) = also g (seen gs)

-- which request it is; the answer to a setup asks to be taken over, and any other response, failure or acknowledgement for nothing, as does a setup request
abbrev pub ask_of : Message → Ask
ask_of message.StartRequest = ask.Start
ask_of message.StopRequest = ask.Stop
ask_of message.Reset = ask.Reset
ask_of message.ErrorIndication = ask.Indication
ask_of message.StartResponse = ask.Nothing
ask_of message.StartFailure = ask.Nothing
ask_of message.StopResponse = ask.Nothing
ask_of message.ResetAcknowledge = ask.Nothing
ask_of message.SetupRequest = ask.Nothing
ask_of message.SetupResponse = ask.SetupResponse
ask_of message.SetupFailure = ask.SetupFailure
ask_of message.StopWarningRequest = ask.Nothing
ask_of message.StopWarningResponse = ask.Nothing
ask_of message.WarningErrorIndication = ask.Nothing

abbrev pub is_asked : Ask → Bool
is_asked ask.Start = true
is_asked ask.Stop = true
is_asked ask.Reset = true
is_asked ask.Indication = true
is_asked ask.SetupResponse = true
is_asked ask.SetupFailure = true
is_asked ask.Nothing = false

abbrev pub asks : Message → Bool
asks m = is_asked (ask_of m)

-- it answers a setup request
abbrev pub answers_setup : Ask → Bool
answers_setup ask.SetupResponse = true
answers_setup ask.SetupFailure = true
answers_setup ask.Start = false
answers_setup ask.Stop = false
answers_setup ask.Reset = false
answers_setup ask.Indication = false
answers_setup ask.Nothing = false

-- a request of which nothing is absent
abbrev pub start_of : Option MmeId → Option Tmgi → Option ℕ → Option Request
start_of (Some m) (Some t) s = Some (request.Start m t s)
start_of (Some m) None s = None
start_of None t s = None

abbrev pub stop_of : Option MmeId → Option MceId → Option Request
stop_of (Some m) (Some c) = Some (request.Stop m c)
stop_of (Some m) None = None
stop_of None y = None

abbrev pub reset_of : Option Extent → Option Request
reset_of (Some extent.Whole) = Some request.Whole
reset_of (Some extent.Part) = Some request.Part
reset_of None = None

abbrev pub request_of : Ask → Seen → Option Request
request_of ask.Start x = start_of x.mme x.tmgi x.session
request_of ask.Stop x = stop_of x.mme x.mce
request_of ask.Reset x = reset_of x.reset
request_of ask.Indication x = Some request.Indication
request_of ask.SetupResponse x = Some request.SetupResponse
request_of ask.SetupFailure x = Some (request.SetupFailure x.wait)
request_of ask.Nothing x = None

-- the items beside a request
abbrev pub items_in : Record → List Item
items_in r = (lists_of r.values).items

-- with a value that is read; where it cannot be read, nothing more is seen
abbrev pub also_read : {A : Type 0} → (A → Value Span) → Read A → Seen → Seen
also_read kind (Ok v) x = seeing (kind v) x
also_read kind (Err y) x = x

-- a Reset Type that is read
abbrev pub reset_seen : Read ResetType → Option Extent
reset_seen (Ok whole) = Some extent.Whole
reset_seen (Ok (part is)) = Some extent.Part
reset_seen (Err y) = None
