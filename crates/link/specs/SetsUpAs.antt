-- 02's table of answers for a setup: each number, and when it is given, in this order. The first that is due is given, and 0, which alone opens, where none is.
-- Each row's test says what 02's row says, and nothing of the other rows.
use Rattle.std.specs.Prelude.{None, ℕ, ◌≡◌, Bool, true, false, not, List, [], ◌∷◌, ◌++◌, leb, length, drop}
use Rattle.meaning.specs.Written.{Encoded, octets, none}
use Rattle.layout.specs.Record.{name_refused}
use Rattle.units.specs.Unit.{Unit, MaybeUnit, is_unit, read_unit, with_open, unit_octets}
use Rattle.editions.specs.declared.Edition.TheVariants.{Release18}
use Rattle.setup.specs.Setup.{setup_number, Setup, request_of, setup}
use Rattle.demands.specs.Due.{Due, ◌when◌reply◌, first_due, is_lent, is_open_in}

-- the record has a request; and it fits the room
abbrev pub has_request : Encoded → Bool
has_request (octets os) = true
has_request none = false

abbrev pub fits_room : List ℕ → Encoded → Bool
fits_room d (octets os) = leb (length os) (length d)
fits_room d none = false

abbrev pub setup_due : MaybeUnit → Setup → Due
setup_due u c =
    first_due (0 when true reply None)
    (21 when not (is_lent u) reply None
    ∷ 12 when name_refused Release18 c.said c.values reply None
    ∷ 13 when is_open_in u reply None
    ∷ 11 when not (has_request (request_of Release18 c)) reply None
    ∷ 10 when not (fits_room c.room (request_of Release18 c)) reply None ∷ [])

pub record SetsUpAs : Type 0 where
  pub answers : (t : List ℕ) (c : Setup) → setup_number (setup Release18 t c).answer ≡ (setup_due (read_unit t) c).number
  -- only 0 opens, and changes nothing else
  pub opens : (t : List ℕ) (c : Setup) (u : Unit) → read_unit t ≡ is_unit u → setup_number (setup Release18 t c).answer ≡ 0 → (setup Release18 t c).unit ≡ unit_octets (with_open true u)
  -- the request stands in the front of the room, and what is behind it keeps its octets
  pub room : (t : List ℕ) (c : Setup) → (setup Release18 t c).room ≡ (setup Release18 t c).request ++ drop (length (setup Release18 t c).request) c.room
  -- a refusal leaves unit and room
  pub refused : (t : List ℕ) (c : Setup) → (setup_number (setup Release18 t c).answer ≡ 0 → ⊥) → ((setup Release18 t c).unit ≡ t) × ((setup Release18 t c).room ≡ c.room)
