-- The words in which demands on resets are stated: what a message asks for, what a reply acknowledges, units, runs of calls.
use Rattle.std.specs.Prelude.{ℕ, ◌≡◌, Bool, List, [], ◌∷◌, ◌++◌, Ok}
use Rattle.lists.specs.Lists.{some}
use Rattle.octets.specs.Stands.{Octets}
use Rattle.identity.specs.declared.MceId.{MceId}
use Rattle.identity.specs.declared.Item.{Item}
use Rattle.values.specs.declared.Cause.{Cause}
use Rattle.items.specs.Items.{part}
use Rattle.editions.specs.declared.Edition.{Edition}
use Rattle.editions.specs.declared.Message.TheVariants as message
use Rattle.editions.specs.Ids.{id_cause, id_reset_type}
use Rattle.meaning.specs.Value as value
use Rattle.meaning.specs.Written.{message_octets}
use Rattle.verdicts.specs.declared.Outcome.TheVariants as outcome
use Rattle.verdicts.specs.Verdict.{Understood, Verdict, understood, every, read_of}
use Rattle.requests.specs.declared.Request.{Request}
use Rattle.requests.specs.declared.Request.TheVariants as request
use Rattle.requests.specs.Requests.{items_in}
use Rattle.replies.specs.Replies.{saying, ◌is◌}
use Rattle.table.specs.Table.{State, named, without}
use Rattle.units.specs.Unit as units
use Rattle.units.specs.Unit.{is_unit, read_unit, with_held}
use Rattle.calls.specs.Judged.{Accepted, Judged, judged}
use Rattle.calls.specs.Call.{Call, call}
use Rattle.demands.specs.Answered.{number_of}

-- ---- units

-- the octets are this unit
pub record Lends (t : List ℕ) (u : units.Unit) : Type 0 where
  pub octets : Octets t
  pub read : read_unit t ≡ is_unit u

-- a reset leaves the unit without what its items name, and changes nothing else
abbrev pub reset_by : List Item → units.Unit → units.Unit
reset_by items u = with_held (without items) u

-- some item names one of these associations
abbrev pub some_named : List Item → State → Bool
some_named items l = some (named items) l

-- ---- what a message asks for, as it is judged

-- it is accepted, with this request
pub record Asks (j : Judged) (q : Request) : Type 0 where
  pub what : Accepted
  pub accepted : j ≡ Ok what
  pub request : what.request ≡ q

-- a partial reset with these items
pub record PartialReset (j : Judged) (l : List Item) : Type 0 where
  pub asks : Asks j request.Part
  pub items : asks.what.items ≡ l

-- a session's start, or its stop
abbrev pub OfSession : Request → Type 0
OfSession (request.Start m t s) = Unit
OfSession (request.Stop m x) = Unit
OfSession request.Whole = ⊥
OfSession request.Part = ⊥
OfSession request.Indication = ⊥
OfSession request.SetupResponse = ⊥
OfSession (request.SetupFailure w) = ⊥

-- what a reply acknowledges, as it is read: these items; a reply without a list, none
pub record Acknowledgement (v : Verdict) (l : List Item) : Type 0 where
  pub what : Understood
  pub read : v ≡ understood what
  pub accepted : what.outcome ≡ outcome.Accepted
  pub named : what.what.message ≡ message.ResetAcknowledge
  pub items : items_in what.what ≡ l

-- the MCE identity that a start is given in a unit
abbrev pub given_mce : units.Unit → Call → MceId
given_mce u c = c.offered

-- the same message handed over once more, with whatever room
abbrev pub Again : Call → Call → Type 0
Again c' c = c'.message ≡ c.message

-- lists of items, joined
unfoldable pub joined : List (List Item) → List Item
joined [] = []
joined (l ∷ ls) = l ++ joined ls

module _ (e : Edition) where
  -- a call resets these items; a reply acknowledges these items
  abbrev pub Resets : Call → List Item → Type 0
  Resets c items = PartialReset (judged e c.message) items

  -- the octets of a RESET with this cause and these items, as the writer has them
  abbrev pub reset_message : Cause → List Item → List ℕ
  reset_message k items = message_octets e (saying e message.Reset (id_cause is value.cause k ∷ id_reset_type is value.reset (part items) ∷ []))

  abbrev pub Acknowledges : List ℕ → List Item → Type 0
  Acknowledges r items = Acknowledgement (read_of e every r) items

  -- ---- runs: calls one after the other, nothing between: the unit at the end, the replies on the way, and that each is answered 0
  unfoldable pub run : List ℕ → List Call → List ℕ
  run t [] = t
  run t (c ∷ cs) = run (call e t c).unit cs

  unfoldable pub replies : List ℕ → List Call → List (List ℕ)
  replies t [] = []
  replies t (c ∷ cs) = (call e t c).reply ∷ replies (call e t c).unit cs

  abbrev pub AllAccepted : List ℕ → List Call → Type 0
  AllAccepted t [] = Unit
  AllAccepted t (c ∷ cs) = (number_of e t c ≡ 0) × AllAccepted (call e t c).unit cs

  -- a run of partial resets, and their items joined
  pub data PartialResets : List Call → List Item → Type 0 where
    none : PartialResets [] []
    more : {c : Call} {cs : List Call} {ks js : List Item} → Octets c.message → Resets c ks → PartialResets cs js → PartialResets (c ∷ cs) (ks ++ js)

  -- replies that are acknowledgements, and the items that they list, joined
  pub data Acknowledged : List (List ℕ) → List Item → Type 0 where
    none : Acknowledged [] []
    more : {r : List ℕ} {rs : List (List ℕ)} {ks js : List Item} → Acknowledges r ks → Acknowledged rs js → Acknowledged (r ∷ rs) (ks ++ js)
