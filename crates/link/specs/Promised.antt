-- Demand 1 in a link process's own words: what it lends, what it is answered, and what it finds afterwards.
use Rattle.std.specs.Prelude.{ℕ, ◌≤◌, ◌<◌, ◌≡◌, true, List, length, take, drop}
use Rattle.octets.specs.Stands.{Octets}
use Rattle.octets.specs.Field.{value_at}
use Rattle.units.specs.Unit.{Unit, is_unit, read_unit}
use Rattle.editions.specs.declared.Edition.TheVariants.{Release18}
use Rattle.calls.specs.Call.{Call, call}
use Rattle.demands.specs.Answered.{is_among, silent_numbers, ReadsBack}
use Rattle.demands.specs.Due.{due_in, ReplyIs}
use Rattle.link.specs.declared.Answer.{Answer}

-- octets that are a unit, whose first two say how many associations are held
pub record IsUnit (t : List ℕ) : Type 0 where
  pub unit : Unit
  pub read : read_unit t ≡ is_unit unit
  pub count : value_at 2 t 0 ≡ length unit.held

-- a unit t, a message m, an offered identity o and a room d were lent; r is the answer; t' and d' are what is left of the unit and the room
module _ (t m : List ℕ) (o : ℕ) (d : List ℕ) where
  abbrev pub lent : Call
  lent = record { message = m; offered = record { 0 = o }; room = d }

  pub record Promised (r : Answer) (t' d' : List ℕ) : Type 0 where
    -- the answer that 01's table says, with the reply that it says
    pub answer : r.answer ≡ (due_in Release18 t lent).number
    pub replies : Octets t → Octets m → o < 65536 → ReplyIs Release18 (take r.octets d') (due_in Release18 t lent).reply
    -- the unit and the reply are those of the rules
    pub ruled : (t' ≡ (call Release18 t lent).unit) × (take r.octets d' ≡ (call Release18 t lent).reply)
    -- answers other than 0 leave the unit as it was
    pub refused : (r.answer ≡ 0 → ⊥) → t' ≡ t
    -- the reply fits the room, and what is behind it keeps its octets
    pub fits : r.octets ≤ length d
    pub rest : drop r.octets d' ≡ drop r.octets d
    -- without a reply all of the room keeps its octets
    pub silent : is_among silent_numbers r.answer ≡ true → (r.octets ≡ 0) × (d' ≡ d)
    -- places stand beside 2 and 3 only, and never behind the message
    pub nowhere : (r.answer ≡ 2 → ⊥) → (r.answer ≡ 3 → ⊥) → r.place ≡ 0
    pub place : r.place ≤ length m
    -- and a time to wait beside 0 only
    pub wait : (r.answer ≡ 0 → ⊥) → r.wait ≡ 0
    -- a unit in is a unit out; and a reply reads back. Both where each number is an octet's, as in C it is
    pub unit : Octets t → Octets m → o < 65536 → (u : Unit) → read_unit t ≡ is_unit u → IsUnit t'
    pub reply : Octets t → Octets m → o < 65536 → (r.octets ≡ 0 → ⊥) → ReadsBack Release18 (take r.octets d')
