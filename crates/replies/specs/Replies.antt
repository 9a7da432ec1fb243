-- A reply as elements, by id and value; the table of its message lays them out. f and noted are of the message that is answered, kept are its items that have an identity.
-- What a reply says of its own stands in Reply; the diagnostics and the items stand beside it.
use Rattle.identity.specs.declared.MceId.{MceId}
use Rattle.identity.specs.declared.MmeId.{MmeId}
use Rattle.std.specs.Prelude.{ℕ, Bool, true, false, List, [], ◌∷◌, ◌++◌, map, eqb, ltb, length, None, Option, Some}
use Rattle.lists.specs.Lists.{pick}
use Rattle.identity.specs.declared.Item.{Item}
use Rattle.values.specs.declared.Cause.{Cause}
use Rattle.diagnostics.specs.declared.Head.{Head}
use Rattle.entries.specs.declared.Entry.{Entry}
use Rattle.rows.specs.declared.Row.{Row}
use Rattle.rows.specs.declared.Triggers.TheVariants.{Three}
use Rattle.editions.specs.declared.Message.{Message}
use Rattle.editions.specs.declared.Message.TheVariants as message
use Rattle.frames.specs.declared.Frame.{Frame}
use Rattle.editions.specs.declared.Edition.{Edition}
use Rattle.replies.specs.declared.Reply.{Reply}
use Rattle.replies.specs.declared.Reply.TheVariants as reply
use Rattle.editions.specs.Ids.{id_mme_mbms_m3ap_id, id_mce_mbms_m3ap_id, id_criticality_diagnostics, id_cause, id_mbms_service_associated_logical_m3_connection_list_res_ack}
use Rattle.editions.specs.Editions.{table_of}
use Rattle.meaning.specs.Value as value
use Rattle.meaning.specs.Value.{Value, Given, given, absent, Said}
use Rattle.meaning.specs.Written.{Encoded, octets, none, encoded}

-- ---- elements, and the rows of a table

pub record Element : Type 0 where
  pub id : ℕ
  pub value : Value (List ℕ)

infix 80 ◌is◌
abbrev pub ◌is◌ : ℕ → Value (List ℕ) → Element
◌is◌ id v = record { id = id; value = v }

-- the first value of an id
unfoldable pub value_of : List Element → ℕ → Given (List ℕ)
value_of [] id = absent
value_of (x ∷ xs) id = pick (eqb x.id id) (given x.value) (value_of xs id)

-- a message of these elements
abbrev pub saying : Edition → Message → List Element → Said
saying e m xs = record { message = m; values = map (λ (r : Row). value_of xs r.id) (table_of e m) }

-- ---- causes, by group and number of 9.3.5

abbrev radio : ℕ → Cause
radio n = record { group = 0; value = n }

abbrev protocol : ℕ → Cause
protocol n = record { group = 3; value = n }

-- unknown or already allocated MME MBMS M3AP ID
abbrev pub mme_taken : Cause
mme_taken = radio 0

-- unknown or inconsistent pair of MBMS M3AP IDs
abbrev pub unknown_pair : Cause
unknown_pair = radio 2

-- radio resources not available
abbrev pub no_resources : Cause
no_resources = radio 3

-- abstract syntax error (reject)
abbrev pub abstract_syntax : Cause
abstract_syntax = protocol 1

-- abstract syntax error (falsely constructed message)
abbrev pub falsely_constructed : Cause
falsely_constructed = protocol 5

-- ---- elements that may be there

abbrev pub mme_if : Option MmeId → List Element
mme_if (Some m) = id_mme_mbms_m3ap_id is value.mme m ∷ []
mme_if None = []

abbrev pub mce_if : Option MceId → List Element
mce_if (Some c) = id_mce_mbms_m3ap_id is value.mce c ∷ []
mce_if None = []

abbrev pub some_of : {A : Type 0} → List A → Bool
some_of l = ltb 0 (length l)

abbrev diagnosing : Head → List Entry → List Element
diagnosing h es = id_criticality_diagnostics is value.diagnostics Three (record { head = h; entries = es }) ∷ []

-- the list alone; without one, none
unfoldable pub list_only : List Entry → List Element
list_only es = pick (some_of es) (diagnosing (record { code = None; trigger = None; crit = None; listed = true }) es) []

-- procedure code, triggering message and procedure criticality as received in the frame; the list, if it is not empty
unfoldable pub of_frame : Frame → List Entry → List Element
of_frame f es = diagnosing (record { code = Some f.code; trigger = Some f.kind; crit = Some f.crit; listed = some_of es }) es

-- whether an item has an identity
abbrev carries : Option MmeId → Option MceId → Bool
carries (Some m) c = true
carries None (Some c) = true
carries None None = false

abbrev pub has_identity : Item → Bool
has_identity i = carries i.mme i.mce

-- of no item there is no list
abbrev pub listing : List Item → List Element
listing kept = pick (some_of kept) (id_mbms_service_associated_logical_m3_connection_list_res_ack is value.list kept ∷ []) []

-- ---- the replies

-- none, or a message
pub data Replied : Type 0 where
  silent : Replied
  says : Said → Replied

module _ (e : Edition) (f : Frame) (kept : List Item) (noted : List Entry) where
  abbrev with : Message → List Element → Replied
  with m xs = says (saying e m xs)

  -- answer 8 has diagnostics only with a list
  unfoldable pub replied : Reply → Replied
  replied reply.None = silent
  replied (reply.StartResponse m c) = with message.StartResponse (id_mme_mbms_m3ap_id is value.mme m ∷ id_mce_mbms_m3ap_id is value.mce c ∷ list_only noted)
  replied (reply.StartFailure m why) = with message.StartFailure (id_mme_mbms_m3ap_id is value.mme m ∷ id_cause is value.cause why ∷ list_only noted)
  replied (reply.StopResponse m c) = with message.StopResponse (id_mme_mbms_m3ap_id is value.mme m ∷ id_mce_mbms_m3ap_id is value.mce c ∷ list_only noted)
  replied reply.Acknowledge = with message.ResetAcknowledge (list_only noted)
  replied reply.AcknowledgeItems = with message.ResetAcknowledge (listing kept ++ list_only noted)
  replied (reply.Rejection x y why) = with message.ErrorIndication (mme_if x ++ (mce_if y ++ (id_cause is value.cause why ∷ of_frame f noted)))
  replied (reply.PairNotHeld m c) = with message.ErrorIndication (id_mme_mbms_m3ap_id is value.mme m ∷ id_mce_mbms_m3ap_id is value.mce c ∷ id_cause is value.cause unknown_pair ∷ pick (some_of noted) (of_frame f noted) [])

-- ---- the octets of a reply, as the writer has them; a reply that is not sent has none

abbrev sent : Encoded → List ℕ
sent (octets os) = os
sent none = []

unfoldable pub reply_octets : Edition → Replied → List ℕ
reply_octets e silent = []
reply_octets e (says w) = sent (encoded e w)
