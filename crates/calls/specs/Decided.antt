-- A request carried out on a unit, and the associations that its rule names.
use Rattle.std.specs.Prelude.{false, List, [], ◌∷◌, ◌++◌, Option, ℕ, Ok, Err}
use Rattle.lists.specs.Lists.{keep}
use Rattle.identity.specs.declared.MceId.{MceId}
use Rattle.identity.specs.declared.Item.{Item}
use Rattle.entries.specs.declared.Entry.{Entry}
use Rattle.frames.specs.declared.Frame.{Frame}
use Rattle.editions.specs.declared.Edition.{Edition}
use Rattle.table.specs.Table.{State, has_pair, named, without, starting, stopping, standing}
use Rattle.units.specs.Unit.{Unit, with_held, with_open}
use Rattle.requests.specs.declared.Request.{Request}
use Rattle.requests.specs.declared.Request.TheVariants as request
use Rattle.replies.specs.Replies.{Replied, replied, has_identity}
use Rattle.carry.specs.declared.Answer.{Answer}
use Rattle.carry.specs.declared.Change.{Change}
use Rattle.carry.specs.declared.Change.TheVariants as change
use Rattle.carry.specs.declared.Decision.{Decision}
use Rattle.carry.specs.Carry.{asked, carried_out}
use Rattle.calls.specs.Judged.{Accepted, Judged}

-- the unit stays: the answer, and the reply; or it changes: the unit then, and the reply; or a setup has failed: the unit then, and how long to wait
pub data Decided : Type 0 where
  keeps : Answer → Replied → Decided
  changes : Unit → Replied → Decided
  fails : Unit → Option ℕ → Replied → Decided

-- with the items received
abbrev pub changed : Unit → List Item → Replied → Change → Decided
changed u items r (change.Stays a) = keeps a r
changed u items r (change.Starts a) = changes (with_held (starting a) u) r
changed u items r (change.Stops m c) = changes (with_held (stopping m c) u) r
changed u items r change.Empties = changes (with_held (λ l. []) u) r
changed u items r change.Resets = changes (with_held (without items) u) r
changed u items r change.SetsUp = changes (with_open false (with_held (λ l. []) u)) r
changed u items r (change.SetupFails w) = fails (with_open false u) w r

module _ (e : Edition) (u : Unit) where
  -- with the frame and what is noted; every item that has an identity, known or not, is acknowledged in received order
  abbrev pub applied : Frame → List Item → List Entry → Decision → Decided
  applied f items noted d = changed u items (replied e f (keep has_identity items) noted d.reply) d.change

  -- a request, with the offered identity
  abbrev pub carried : MceId → Accepted → Decided
  carried c a = applied a.frame a.items a.noted (carried_out (standing (asked c a.request) u.held) c a.request)

  -- judge, then do
  unfoldable pub decided : MceId → Judged → Decided
  decided c (Ok a) = carried c a
  decided c (Err x) = keeps x.answer x.reply

-- ---- what a request is about, in the unit before it

-- the association that a start adds
abbrev pub adds : MceId → Request → State
adds c (request.Start m t s) = record { mme = m; mce = c; tmgi = t; session = s } ∷ []
adds c (request.Stop m x) = []
adds c request.Whole = []
adds c request.Part = []
adds c request.Indication = []
adds c request.SetupResponse = []
adds c (request.SetupFailure w) = []

-- those held that a stop, a reset or a setup names
abbrev pub names_held : Request → List Item → State → State
names_held (request.Start m t s) items l = []
names_held (request.Stop m x) items l = keep (has_pair m x) l
names_held request.Whole items l = l
names_held request.Part items l = keep (named items) l
names_held request.Indication items l = []
names_held request.SetupResponse items l = l
names_held (request.SetupFailure w) items l = []

abbrev pub about : Unit → MceId → Accepted → State
about u c a = adds c a.request ++ names_held a.request a.items u.held
