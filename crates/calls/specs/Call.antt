-- The table call: the unit is read, the message judged and decided on, and settled what is decided: the reply stands in front of the room and the unit is the new one;
-- or the reply does not fit, which is 10, and everything is as it was.
use Rattle.std.specs.Prelude.{ℕ, Bool, true, false, not, ◌&&◌, List, [], ◌++◌, leb, length, drop}
use Rattle.lists.specs.Lists.{pick}
use Rattle.identity.specs.declared.MceId.{MceId}
use Rattle.editions.specs.declared.Edition.{Edition}
use Rattle.units.specs.Unit.{Unit, MaybeUnit, is_unit, no_unit, read_unit, unit_octets}
use Rattle.replies.specs.Replies.{Replied, silent, reply_octets}
use Rattle.carry.specs.declared.Answer.{Answer}
use Rattle.carry.specs.declared.Answer.TheVariants as answer
use Rattle.calls.specs.Judged.{judged, setup_answer}
use Rattle.calls.specs.Decided.{Decided, keeps, changes, fails, decided}

-- what is handed over with the unit
pub record Call : Type 0 where
  pub message : List ℕ
  pub offered : MceId
  pub room : List ℕ

-- what comes back: the answer, the reply's octets, the unit's and the room's
pub record Back : Type 0 where
  pub answer : Answer
  pub reply : List ℕ
  pub unit : List ℕ
  pub room : List ℕ

abbrev pub replied_in : Decided → Replied
replied_in (keeps a r) = r
replied_in (changes l r) = r
replied_in (fails u w r) = r

abbrev pub answer_of : Decided → Answer
answer_of (keeps a r) = a
answer_of (changes l r) = answer.CarriedOut
answer_of (fails u w r) = answer.SetupFailed w

abbrev pub unit_after : List ℕ → Decided → List ℕ
unit_after t (keeps a r) = t
unit_after t (changes u r) = unit_octets u
unit_after t (fails u w r) = unit_octets u

abbrev pub without_reply : Answer → List ℕ → List ℕ → Back
without_reply a t d = record { answer = a; reply = []; unit = t; room = d }

module _ (e : Edition) where
  abbrev pub reply_of : Decided → List ℕ
  reply_of x = reply_octets e (replied_in x)

  -- the reply fits the room, or not
  abbrev pub settled_if : Bool → List ℕ → List ℕ → Decided → Back
  settled_if true t d x = record { answer = answer_of x; reply = reply_of x; unit = unit_after t x; room = reply_of x ++ drop (length (reply_of x)) d }
  settled_if false t d x = without_reply answer.NoRoom t d

  abbrev pub fits : List ℕ → Decided → Bool
  fits d x = leb (length (reply_of x)) (length d)

  unfoldable pub settled : List ℕ → List ℕ → Decided → Back
  settled t d x = settled_if (fits d x) t d x

  -- judge, then do; but 14 comes before what is inside: the answer to a setup request, where none is open
  unfoldable pub decided_on : Unit → Call → Decided
  decided_on u c = pick (setup_answer e c.message && not u.is_open) (keeps answer.NoneOpen silent) (decided e u c.offered (judged e c.message))

  abbrev pub on_unit : List ℕ → Call → MaybeUnit → Back
  on_unit t c (is_unit u) = settled t c.room (decided_on u c)
  on_unit t c no_unit = without_reply answer.NoUnit t c.room

  unfoldable pub call : List ℕ → Call → Back
  call t c = on_unit t c (read_unit t)
