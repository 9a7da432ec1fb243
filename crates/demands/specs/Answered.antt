-- Demand 1: any octets, any unit, any room, any offer get exactly one answer of 01's list, and what is lent is left as 01 says.
use Rattle.std.specs.Prelude.{ℕ, ◌≤◌, ◌<◌, ◌≡◌, Bool, true, List, [], ◌∷◌, ◌++◌, eqb, length, drop}
use Rattle.lists.specs.Lists.{some}
use Rattle.octets.specs.Stands.{Octets}
use Rattle.octets.specs.Field.{value_at}
use Rattle.units.specs.Unit.{Unit, is_unit, read_unit}
use Rattle.editions.specs.declared.Edition.{Edition}
use Rattle.meaning.specs.Value.{Said}
use Rattle.verdicts.specs.declared.Outcome.TheVariants as outcome
use Rattle.verdicts.specs.Verdict.{Understood, understood, every, read_of}
use Rattle.round_trips.specs.Ties.{ReadAs}
use Rattle.replies.specs.Replies.{says}
use Rattle.answers.specs.Answers.{numbered}
use Rattle.calls.specs.Call.{Call, fits, decided_on, call, replied_in}

abbrev pub is_among : List ℕ → ℕ → Bool
is_among ns n = some (eqb n) ns

-- the numbers of 01's and 02's lists that the table call can give, and those that never have a reply
abbrev pub numbers : List ℕ
numbers = 0 ∷ 1 ∷ 2 ∷ 3 ∷ 4 ∷ 5 ∷ 6 ∷ 7 ∷ 8 ∷ 9 ∷ 10 ∷ 14 ∷ 21 ∷ []

abbrev pub silent_numbers : List ℕ
silent_numbers = 1 ∷ 2 ∷ 3 ∷ 4 ∷ 7 ∷ 10 ∷ 14 ∷ 21 ∷ []

-- what the types let anyone hand over
pub record Handed (t : List ℕ) (c : Call) : Type 0 where
  pub unit : Octets t
  pub message : Octets c.message
  pub offered : c.offered.0 < 65536

module _ (e : Edition) where
  module _ (t : List ℕ) (c : Call) where
    abbrev pub number_of : ℕ
    number_of = (numbered (call e t c).answer).number

    pub record Answered : Type 0 where
      -- one answer of the list
      pub answer : is_among numbers number_of ≡ true
      -- answers other than 0 leave the unit as it was
      pub refused : (number_of ≡ 0 → ⊥) → (call e t c).unit ≡ t
      -- the reply fills the front of the room, and the rest keeps its octets
      pub fits : length (call e t c).reply ≤ length c.room
      pub room : (call e t c).room ≡ (call e t c).reply ++ drop (length (call e t c).reply) c.room
      -- without a reply all of it does
      pub silent : is_among silent_numbers number_of ≡ true → ((call e t c).reply ≡ []) × ((call e t c).room ≡ c.room)
      -- places stand beside 2 and 3 only
      pub place : (number_of ≡ 2 → ⊥) → (number_of ≡ 3 → ⊥) → (numbered (call e t c).answer).place ≡ 0
      -- and a time to wait beside 0 only
      pub wait : (number_of ≡ 0 → ⊥) → (numbered (call e t c).answer).wait ≡ 0

  -- a unit in is a unit out: never 21 after an accepted call; and its first two octets say how many are held
  pub record UnitOut (t : List ℕ) (c : Call) : Type 0 where
    pub unit : Unit
    pub read : read_unit (call e t c).unit ≡ is_unit unit
    pub count : value_at 2 (call e t c).unit 0 ≡ length unit.held

  -- a reply reads back, with answer 0 and nothing to note
  pub record ReadsBack (os : List ℕ) : Type 0 where
    pub what : Understood
    pub read : read_of e every os ≡ understood what
    pub accepted : what.outcome ≡ outcome.Accepted
    pub noted : what.noted ≡ []

  pub record Demand1 : Type 0 where
    pub answered : (t : List ℕ) (c : Call) → Answered t c
    pub unit : (t : List ℕ) (c : Call) (u : Unit) → Handed t c → read_unit t ≡ is_unit u → UnitOut t c
    pub reply : (t : List ℕ) (c : Call) → Handed t c → ((call e t c).reply ≡ [] → ⊥) → ReadsBack (call e t c).reply
    -- a reply that the rules give is sent where it fits, and reads back as what they say
    pub spoken : (t : List ℕ) (c : Call) (u : Unit) (w : Said) → Handed t c → read_unit t ≡ is_unit u → fits e c.room (decided_on e u c) ≡ true → replied_in (decided_on e u c) ≡ says w
        → ReadAs e (call e t c).reply w
