-- Scaffolding: no demand speaks of it. The call, as the code hands it back.
use Rattle.std.specs.Prelude.{ℕ, ◌≡◌, Bool, true, false, List, length, take, Ok, Err}
use Rattle.editions.specs.declared.Edition.{Edition}
use Rattle.lent.specs.Lent.{first_rows}
use Rattle.units.specs.Unit as units
use Rattle.units.specs.Unit.{with_held, MaybeUnit, is_unit, no_unit, said_unit, read_unit}
use Rattle.verdicts.specs.Verdict.{Verdict}
use Rattle.replies.specs.declared.Reply.{Reply}
use Rattle.replies.specs.declared.Reply.TheVariants as reply
use Rattle.carry.specs.declared.Answer.{Answer}
use Rattle.carry.specs.declared.Answer.TheVariants as answer
use Rattle.carry.specs.Carry.{Ruling}
use Rattle.carry.specs.declared.Change.{Change}
use Rattle.carry.specs.declared.Change.TheVariants as change
use Rattle.calls.specs.Decided.{Decided, decided}
use Rattle.calls.specs.Judged.{judged_by}
use Rattle.calls.specs.Call.{Call, Back, answer_of, unit_after, without_reply, settled}
use Rattle.unit.specs.declared.Back as own

-- an answer without a reply, if there is a unit
abbrev pub bare_on : MaybeUnit → Answer → own.Back
bare_on (is_unit u) a = record { answer = a; octets = 0 }
bare_on no_unit a = record { answer = answer.NoUnit; octets = 0 }

-- what octets say, of n rows
abbrev pub unit_in : ℕ → List ℕ → units.Unit
unit_in n t = with_held (λ l. first_rows n (take 3074 t)) (said_unit t)

-- octets of a unit of n rows
abbrev pub HasRows : ℕ → List ℕ → Type 0
HasRows n t = (read_unit t ≡ is_unit (unit_in n t)) × (n ≡ length (unit_in n t).held)

-- the items are needed for one reply, and for one change
abbrev pub lists_items : Reply → Bool
lists_items reply.None = false
lists_items (reply.StartResponse m c) = false
lists_items (reply.StartFailure m why) = false
lists_items (reply.StopResponse m c) = false
lists_items reply.Acknowledge = false
lists_items reply.AcknowledgeItems = true
lists_items (reply.Rejection x y why) = false
lists_items (reply.PairNotHeld m c) = false

-- a refusal lists none
abbrev pub NoneListed : Ruling → Type 0
NoneListed (Ok q) = Unit
NoneListed (Err r) = lists_items r ≡ false

abbrev pub resets : Change → Bool
resets (change.Stays a) = false
resets (change.Starts a) = false
resets (change.Stops m c) = false
resets change.Empties = false
resets change.Resets = true
resets change.SetsUp = false
resets (change.SetupFails w) = false

-- what comes back, by what the unit's octets say and what is decided on it
abbrev pub carried_on : Edition → List ℕ → List ℕ → (units.Unit → Decided) → MaybeUnit → Back
carried_on e t d decide (is_unit u) = settled e t d (decide u)
carried_on e t d decide no_unit = without_reply answer.NoUnit t d

-- of a verdict on the message
abbrev pub settled_on : Edition → List ℕ → Call → Verdict → MaybeUnit → Back
settled_on e t c v lent = carried_on e t c.room (λ u. decided e u c.offered (judged_by e v)) lent

-- what is decided, as the code leaves it with a reply of n octets: what it hands back, and the unit t
pub record Finished (x : Decided) (t : List ℕ) (n : ℕ) (r : own.Back) (t' : List ℕ) : Type 0 where
  pub back : r ≡ record { answer = answer_of x; octets = n }
  pub unit : t' ≡ unit_after t x

-- the answer, the reply's length, and what is left in the unit and the room
pub record Called (b : Back) (r : own.Back) (t d : List ℕ) : Type 0 where
  pub answer : r.answer ≡ b.answer
  pub octets : r.octets ≡ length b.reply
  pub unit : t ≡ b.unit
  pub room : d ≡ b.room
