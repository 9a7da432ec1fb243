-- The frame around a message, and how a message opens.
use Rattle.std.specs.Prelude.{ℕ, ◌+◌, Bool, true, false, List, Ok}
use Rattle.lists.specs.Lists.{pick}
use Rattle.octets.specs.Read.{Read, ◌>>=◌, ◌>>◌}
use Rattle.octets.specs.Field.{flag_at, plain_at, choice_at, pad_at, number_at, open_at, ends_at}
use Rattle.envelopes.specs.Envelope.{criticality_at}
use Rattle.frames.specs.declared.Frame.{Frame}
use Rattle.frames.specs.declared.Count.{Count}

-- the first bit is the extension bit, the next two the kind (0 initiating, 1 successful, 2 unsuccessful); pad
unfoldable pub kind_at : List ℕ → Read ℕ
kind_at s = do
  plain_at s 0 0
  kind ← choice_at 3 2 s 0 1
  pad_at s 0 3
  Ok kind

-- kind; procedure code; criticality; a length and the message. Octets behind the message are the frame's fault
unfoldable pub frame_at : List ℕ → Read Frame
frame_at s = do
  kind ← kind_at s
  code ← number_at 1 s 1
  crit ← criticality_at s 2
  v ← open_at s 3
  ends_at s v.to
  Ok (record { kind = kind; code = code; crit = crit; from = v.from })

-- whether a container stands beside the elements: a bit says so where the message can have one
unfoldable pub container_at : Bool → List ℕ → ℕ → Read Bool
container_at false s from = Ok false
container_at true s from = flag_at s from 1

-- a message: an extension bit, the container's bit where it can have one, pad, a two-octet count of elements
unfoldable pub count_at : Bool → List ℕ → ℕ → Read Count
count_at c s from = do
  plain_at s from 0
  x ← container_at c s from
  pad_at s from (pick c 2 1)
  n ← number_at 2 s (from + 1)
  Ok (record { elements = n; container = x })
