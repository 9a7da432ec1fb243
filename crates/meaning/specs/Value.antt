-- The value of an element, by its kind. C is what stands for a carried value: its octets, or in a record for C their place.
-- A message's meaning is which message it is, and for each row of its table a value or none.
use Rattle.std.specs.Prelude.{ℕ, ◌-◌, List, [], map, leb, length}
use Rattle.std.proofs.Math.Seq.{slice}
use Rattle.lists.specs.Lists.{pick}
use Rattle.octets.specs.declared.Span.{Span}
use Rattle.identity.specs.declared.MmeId.{MmeId}
use Rattle.identity.specs.declared.MceId.{MceId}
use Rattle.identity.specs.declared.Tmgi.{Tmgi}
use Rattle.identity.specs.declared.Item.{Item}
use Rattle.values.specs.declared.Cause.{Cause}
use Rattle.items.specs.Items.{ResetType}
use Rattle.diagnostics.specs.Diagnostics.{Diagnostics}
use Rattle.rows.specs.declared.Triggers.{Triggers}
use Rattle.editions.specs.declared.Message.{Message}

pub data Value (C : Type 0) : Type 0 where
  carried : C → Value C
  mme : MmeId → Value C
  mce : MceId → Value C
  tmgi : Tmgi → Value C
  -- a number of one octet; one of two
  one : ℕ → Value C
  two : ℕ → Value C
  cause : Cause → Value C
  -- Time to Wait, by its number; a name's characters, which are octets of the message as what is carried is
  wait : ℕ → Value C
  name : C → Value C
  reset : ResetType → Value C
  list : List Item → Value C
  -- with how many meanings the triggering message has
  diagnostics : Triggers → Diagnostics → Value C

pub data Given (C : Type 0) : Type 0 where
  given : Value C → Given C
  absent : Given C

-- what reading and writing share
pub record Said : Type 0 where
  pub message : Message
  pub values : List (Given (List ℕ))

-- what C has: carried values as places in octets that are lent beside it, and the frame's criticality
pub record Record : Type 0 where
  pub message : Message
  pub crit : ℕ
  pub values : List (Given Span)

-- the octets at a place in s, if they lie in s
abbrev pub octets_in : List ℕ → Span → List ℕ
octets_in s v = pick (leb v.to (length s)) (slice v.from v.to s) []

-- the same value, with something else for what is carried
unfoldable pub on_carried : {C D : Type 0} → (C → D) → Value C → Value D
on_carried f (carried c) = carried (f c)
on_carried f (mme v) = mme v
on_carried f (mce v) = mce v
on_carried f (tmgi v) = tmgi v
on_carried f (one v) = one v
on_carried f (two v) = two v
on_carried f (cause v) = cause v
on_carried f (wait v) = wait v
on_carried f (name c) = name (f c)
on_carried f (reset v) = reset v
on_carried f (list v) = list v
on_carried f (diagnostics t v) = diagnostics t v

abbrev pub on_given : {C D : Type 0} → (C → D) → Given C → Given D
on_given f (given v) = given (on_carried f v)
on_given f absent = absent

-- a record says, with the octets s lent beside it, the octets that stand at its places
unfoldable pub said_by : List ℕ → Record → Said
said_by s r = record { message = r.message; values = map (on_given (octets_in s)) r.values }

-- a record without its criticality and its places: how long what is carried is stays
unfoldable pub bare : Record → Record
bare r = record { message = r.message; crit = 0; values = map (on_given (λ (v : Span). record { from = 0; to = v.to - v.from })) r.values }
