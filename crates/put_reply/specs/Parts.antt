-- Scaffolding: no demand speaks of it. What a reply gives for each row of its message's table, by the row's kind; and what sending it leaves.
use Rattle.plan.specs.declared.Unwritten.TheVariants.{NoRoom, NotWritten}
use Rattle.plan.specs.Written.{Written}
use Rattle.identity.specs.declared.MceId.{MceId}
use Rattle.editions.specs.declared.Message.{Message}
use Rattle.identity.specs.declared.MmeId.{MmeId}
use Rattle.std.specs.Prelude.{ℕ, ◌<◌, ◌≤◌, ◌≡◌, Bool, true, false, List, [], ◌++◌, map, leb, ltb, length, drop, get_or, None, Option, Some, Err, Ok}
use Rattle.lists.specs.Lists.{pick}
use Rattle.rows.specs.declared.Kind.{Kind}
use Rattle.rows.specs.declared.Kind.TheVariants as kind
use Rattle.rows.specs.declared.Row.{Row}
use Rattle.rows.specs.declared.Triggers.TheVariants.{Three}
use Rattle.rows.specs.Table.{no_row}
use Rattle.identity.specs.declared.Item.{Item}
use Rattle.entries.specs.declared.Entry.{Entry}
use Rattle.editions.specs.declared.Message.TheVariants as message
use Rattle.frames.specs.declared.Frame.{Frame}
use Rattle.meaning.specs.Value as value
use Rattle.meaning.specs.Value.{Value, Given, given, absent}
use Rattle.plan.specs.Plan.{size_given}
use Rattle.replies.specs.declared.Reply.{Reply}
use Rattle.replies.specs.declared.Reply.TheVariants as reply
use Rattle.replies.specs.Replies.{unknown_pair}
use Rattle.values.specs.declared.Cause.{Cause}
use Rattle.diagnostics.specs.declared.Head.{Head}
use Rattle.put_reply.specs.declared.Part.{Part}
use Rattle.put_reply.specs.declared.Part.TheVariants as part
use Rattle.put_reply.specs.declared.Parts.{Parts}

abbrev pub mapped : {A : Type 0} → (A → Part) → Option A → Option Part
mapped f (Some x) = Some (f x)
mapped f None = None

abbrev pub part_of : Parts → Kind → Option Part
part_of p kind.Mme = mapped part.Mme p.mme
part_of p kind.Mce = mapped part.Mce p.mce
part_of p kind.Cause = mapped part.Cause p.cause
part_of p kind.Acknowledged = pick p.list (Some part.List) None
part_of p (kind.Diagnostics t) = mapped part.Diagnostics p.diagnostics
part_of p kind.Carried = None
part_of p kind.Wait = None
part_of p kind.Name = None
part_of p kind.Tmgi = None
part_of p kind.OneOctet = None
part_of p kind.TwoOctets = None
part_of p kind.ResetType = None

abbrev pub only_list : ℕ → Option Head
only_list n = pick (ltb 0 n) (Some (record { code = None; trigger = None; crit = None; listed = true })) None

abbrev pub frame_part : Frame → ℕ → Head
frame_part f n = record { code = Some f.code; trigger = Some f.kind; crit = Some f.crit; listed = ltb 0 n }

-- the same, only with a list
abbrev pub frame_if_noted : Frame → ℕ → Option Head
frame_if_noted f n = pick (ltb 0 n) (Some (frame_part f n)) None

abbrev parts : Option MmeId → Option MceId → Option Cause → Bool → Option Head → Parts
parts m c why l d = record { mme = m; mce = c; cause = why; list = l; diagnostics = d }

-- f is the frame of the message that is answered, kept how many items have an identity, n how many diagnostics are noted
unfoldable pub parts_of : Frame → ℕ → ℕ → Reply → Parts
parts_of f kept n reply.None = parts None None None false None
parts_of f kept n (reply.StartResponse m c) = parts (Some m) (Some c) None false (only_list n)
parts_of f kept n (reply.StartFailure m why) = parts (Some m) None (Some why) false (only_list n)
parts_of f kept n (reply.StopResponse m c) = parts (Some m) (Some c) None false (only_list n)
parts_of f kept n reply.Acknowledge = parts None None None false (only_list n)
parts_of f kept n reply.AcknowledgeItems = parts None None None (ltb 0 kept) (only_list n)
parts_of f kept n (reply.Rejection x y why) = parts x y (Some why) false (Some (frame_part f n))
parts_of f kept n (reply.PairNotHeld m c) = parts (Some m) (Some c) (Some unknown_pair) false (frame_if_noted f n)

-- which message a reply is
abbrev pub replied_by : Reply → Option Message
replied_by reply.None = None
replied_by (reply.StartResponse m c) = Some message.StartResponse
replied_by (reply.StartFailure m why) = Some message.StartFailure
replied_by (reply.StopResponse m c) = Some message.StopResponse
replied_by reply.Acknowledge = Some message.ResetAcknowledge
replied_by reply.AcknowledgeItems = Some message.ResetAcknowledge
replied_by (reply.Rejection x y why) = Some message.ErrorIndication
replied_by (reply.PairNotHeld m c) = Some message.ErrorIndication

module _ (kept : List Item) (noted : List Entry) where
  -- what a part says
  unfoldable pub value_by : Part → Value (List ℕ)
  value_by (part.Mme m) = value.mme m
  value_by (part.Mce c) = value.mce c
  value_by (part.Cause why) = value.cause why
  value_by part.List = value.list kept
  value_by (part.Diagnostics h) = value.diagnostics Three (record { head = h; entries = pick h.listed noted [] })

  abbrev pub given_by : Option Part → Given (List ℕ)
  given_by (Some p) = given (value_by p)
  given_by None = absent

  abbrev pub given_rows : Parts → List Row → List (Given (List ℕ))
  given_rows p t = map (λ (r : Row). given_by (part_of p r.kind)) t

  -- the size of a row's value is known, and it is written
  pub record Ready (p : Parts) (t : List Row) (ns : List ℕ) (i : ℕ) : Type 0 where
    pub crit : (get_or t i no_row).crit < 4
    pub size : get_or ns i 0 ≡ size_given (given_by (part_of p (get_or t i no_row).kind))
    pub fits : get_or ns i 0 ≤ 8192

-- ---- what sending leaves

pub record Sending : Type 0 where
  pub answer : Option ℕ
  pub room : List ℕ

abbrev pub sending : Option ℕ → List ℕ → Sending
sending x d = record { answer = x; room = d }

-- octets that fit stand in front, and the rest is kept; else all of the room is kept
unfoldable pub sent_in : List ℕ → List ℕ → Sending
sent_in d os = pick (leb (length os) (length d)) (sending (Some (length os)) (os ++ drop (length os) d)) (sending None d)

-- a message that is not written has no octets
abbrev pub sent_as : Written → Option ℕ
sent_as (Ok n) = Some n
sent_as (Err NoRoom) = None
sent_as (Err NotWritten) = Some 0

pub record Sends (w : Sending) (r : Option ℕ) (d : List ℕ) : Type 0 where
  pub answer : r ≡ w.answer
  pub room : d ≡ w.room
