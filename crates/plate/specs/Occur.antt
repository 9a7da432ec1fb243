-- Each answer of the setup call occurs; and a request octet for octet.
use Rattle.std.specs.Prelude.{ℕ, ◌+◌, ◌≤◌, ◌<◌, ◌≡◌, true, List, [], ◌∷◌, ◌++◌, length, drop, replicate}
use Rattle.octets.specs.declared.Span.{Span}
use Rattle.editions.specs.declared.Edition.TheVariants.{Release18}
use Rattle.editions.specs.declared.Message.TheVariants as message
use Rattle.meaning.specs.Value.{given, carried, name, Record}
use Rattle.layout.specs.Record.{record_octets}
use Rattle.units.specs.Unit.{Unit, fresh, with_open, unit_octets, no_unit, read_unit}
use Rattle.setup.specs.declared.SetupAnswer.{SetupAnswer}
use Rattle.setup.specs.declared.SetupAnswer.TheVariants.{Opened, NameNotAllowed, AlreadyOpen, NotWritten, NoRoom, NoUnit}
use Rattle.setup.specs.Setup.{Setup, setup}

abbrev pub global_id : List ℕ
global_id = 0x00 ∷ 0x01 ∷ 0x02 ∷ 0x03 ∷ 0xAA ∷ 0xBB ∷ []

abbrev pub areas : List ℕ
areas = 0x01 ∷ 0x00 ∷ 0x01 ∷ []

-- n octets from a place on
abbrev pub lying : ℕ → ℕ → Span
lying from n = record { from = from; to = from + n }

-- a request with a name of n characters, its values one behind another
abbrev pub request_record : ℕ → Record
request_record n = record { message = message.SetupRequest; crit = 0; values = given (carried (lying 0 6)) ∷ given (name (lying 6 n)) ∷ given (carried (lying (6 + n) 3)) ∷ [] }

abbrev pub asking : List ℕ → List ℕ → Setup
asking os d = record { said = record_octets Release18 (request_record (length os)); values = global_id ++ (os ++ areas); room = d }

-- the request with the name "A"
abbrev pub request : List ℕ
request =
    0x00 ∷ 0x07 ∷ 0x00 ∷ 0x1B ∷ 0x00 ∷ 0x00 ∷ 0x03
    ∷ 0x00 ∷ 0x12 ∷ 0x00 ∷ 0x06 ∷ 0x00 ∷ 0x01 ∷ 0x02 ∷ 0x03 ∷ 0xAA ∷ 0xBB
    ∷ 0x00 ∷ 0x13 ∷ 0x40 ∷ 0x03 ∷ 0x00 ∷ 0x00 ∷ 0x41
    ∷ 0x00 ∷ 0x14 ∷ 0x00 ∷ 0x03 ∷ 0x01 ∷ 0x00 ∷ 0x01 ∷ []

abbrev pub answered : Unit → Setup → SetupAnswer
answered u c = (setup Release18 (unit_octets u) c).answer

-- whatever the room
pub record EverySetup : Type 0 where
  -- 0, on a fresh unit, with that request; and with the longest name
  pub opened : (d : List ℕ) → 31 ≤ length d
      → setup Release18 (unit_octets fresh) (asking (0x41 ∷ []) d) ≡ record { answer = Opened; request = request; unit = unit_octets (with_open true fresh); room = request ++ drop 31 d }
  pub longest : (d : List ℕ) → 8192 ≤ length d → answered fresh (asking (replicate 150 0x41) d) ≡ Opened
  -- 10
  pub no_room : (d : List ℕ) → length d < 31 → answered fresh (asking (0x41 ∷ []) d) ≡ NoRoom
  -- 11: no octets are no record
  pub not_written : (values d : List ℕ) → answered fresh (record { said = []; values = values; room = d }) ≡ NotWritten
  -- 12: a name of no characters, one that is not printable, one too many
  pub no_characters : (d : List ℕ) → answered fresh (asking [] d) ≡ NameNotAllowed
  pub at_sign : (d : List ℕ) → answered fresh (asking (0x40 ∷ []) d) ≡ NameNotAllowed
  pub too_many : (d : List ℕ) → answered fresh (asking (replicate 151 0x41) d) ≡ NameNotAllowed
  -- 13
  pub already_open : (d : List ℕ) → answered (with_open true fresh) (asking (0x41 ∷ []) d) ≡ AlreadyOpen
  -- 21
  pub has_no_unit : (t : List ℕ) (c : Setup) → read_unit t ≡ no_unit → (setup Release18 t c).answer ≡ NoUnit
