-- The setup call: the request that a lent record says is written, and marked open in the unit; or it is refused, 21, 12, 13, 11 or 10, in this order,
-- and everything is as it was.
use Rattle.std.specs.Prelude.{ℕ, ◌≡◌, Bool, true, List, [], ◌++◌, leb, eqb, length, get_or, drop}
use Rattle.lists.specs.Lists.{pick}
use Rattle.editions.specs.declared.Edition.{Edition}
use Rattle.editions.specs.declared.Message.TheVariants as message
use Rattle.editions.specs.Editions.{number_of}
use Rattle.meaning.specs.Written.{Encoded, octets, none}
use Rattle.layout.specs.Record.{written, name_refused}
use Rattle.units.specs.Unit.{Unit, with_open, unit_octets, MaybeUnit, is_unit, no_unit, read_unit}
use Rattle.setup.specs.declared.SetupAnswer.{SetupAnswer}
use Rattle.setup.specs.declared.SetupAnswer.TheVariants.{Opened, NameNotAllowed, AlreadyOpen, NotWritten, NoRoom, NoUnit}
use Rattle.setup.specs.declared.SetupBack as own

-- 02's number of each answer
abbrev pub setup_number : SetupAnswer → ℕ
setup_number Opened = 0
setup_number NoRoom = 10
setup_number NotWritten = 11
setup_number NameNotAllowed = 12
setup_number AlreadyOpen = 13
setup_number NoUnit = 21

-- what is handed over with the unit: a record's octets, the octets in which its name and its carried values lie, and room
pub record Setup : Type 0 where
  pub said : List ℕ
  pub values : List ℕ
  pub room : List ℕ

-- what comes back: the answer, the request's octets, the unit's and the room's
pub record SetupDone : Type 0 where
  pub answer : SetupAnswer
  pub request : List ℕ
  pub unit : List ℕ
  pub room : List ℕ

abbrev pub refusing : SetupAnswer → List ℕ → List ℕ → SetupDone
refusing a t d = record { answer = a; request = []; unit = t; room = d }

module _ (e : Edition) where
  -- of a record of another message no request is written
  abbrev pub is_request : List ℕ → Bool
  is_request s = eqb (get_or s 0 0) (number_of e message.SetupRequest)

  abbrev pub request_of : Setup → Encoded
  request_of c = pick (is_request c.said) (written e c.said c.values) none

  -- the request stands in front of the room and is open; or it does not fit
  abbrev pub opening : Unit → List ℕ → List ℕ → Encoded → SetupDone
  opening u t d none = refusing NotWritten t d
  opening u t d (octets os) =
      pick (leb (length os) (length d))
      (record { answer = Opened; request = os; unit = unit_octets (with_open true u); room = os ++ drop (length os) d })
      (refusing NoRoom t d)

  abbrev pub setup_on : List ℕ → Setup → MaybeUnit → SetupDone
  setup_on t c (is_unit u) =
      pick (name_refused e c.said c.values) (refusing NameNotAllowed t c.room)
      (pick u.is_open (refusing AlreadyOpen t c.room)
      (opening u t c.room (request_of c)))
  setup_on t c no_unit = refusing NoUnit t c.room

  unfoldable pub setup : List ℕ → Setup → SetupDone
  setup t c = setup_on t c (read_unit t)

-- as the code hands it back: the answer, how many octets the request has, and what is left in the unit and the room
pub record SetupCalled (b : SetupDone) (r : own.SetupBack) (t d : List ℕ) : Type 0 where
  pub answer : r.answer ≡ b.answer
  pub octets : r.octets ≡ length b.request
  pub unit : t ≡ b.unit
  pub room : d ≡ b.room
