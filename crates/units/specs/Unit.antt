-- The unit: all that is remembered between calls, and the octets that the host lends for it. The table stands in front, the marks behind it.
-- Octets are a unit exactly if they are the octets of what they say. The fresh unit is all zero octets.
use Rattle.std.specs.Prelude.{ℕ, Bool, None, Option, Some, false, ◌&&◌, List, [], ◌∷◌, ◌++◌, leb, eqb, length, take, drop, get_or, set, replicate}
use Rattle.lists.specs.Lists.{pick}
use Rattle.identity.specs.declared.Item.{Item}
use Rattle.table.specs.Table.{State, standing, distinct_held}
use Rattle.lent.specs.Lent.{table_octets, said, same, Good}
use Rattle.lent.specs.declared.Looked.{Looked}

pub record Unit : Type 0 where
  -- the associations, in order of starting
  pub held : State
  -- whether a setup request is open
  pub is_open : Bool

abbrev pub fresh : Unit
fresh = record { held = []; is_open = false }

-- something else is held, and nothing else changes
abbrev pub with_held : (State → State) → Unit → Unit
with_held f u = record { held = f u.held; is_open = u.is_open }

-- a setup request is open, or none is
abbrev pub with_open : Bool → Unit → Unit
with_open b u = record { held = u.held; is_open = b }

-- ---- octets

-- 1 if a setup request is open, else 0; the other marks may not be set yet
abbrev pub open_octet : Bool → ℕ
open_octet b = pick b 1 0

abbrev pub mark_octets : Unit → List ℕ
mark_octets u = 0 ∷ 0 ∷ open_octet u.is_open ∷ replicate 11 0

unfoldable pub unit_octets : Unit → List ℕ
unit_octets u = table_octets u.held ++ mark_octets u

-- what octets say
abbrev pub open_in : List ℕ → Bool
open_in s = eqb (get_or s 3076 0) 1

abbrev pub said_unit : List ℕ → Unit
said_unit s = record { held = said (take 3074 s); is_open = open_in s }

-- at most 256 associations, no two of which share an identity of one series
abbrev pub good_unit : Unit → Bool
good_unit u = leb (length u.held) 256 && distinct_held u.held

pub data MaybeUnit : Type 0 where
  is_unit : Unit → MaybeUnit
  no_unit : MaybeUnit

unfoldable pub read_unit : List ℕ → MaybeUnit
read_unit s = pick (good_unit (said_unit s) && same (unit_octets (said_unit s)) s) (is_unit (said_unit s)) no_unit

-- what a unit can remember, in numbers that octets hold
pub record GoodUnit (u : Unit) : Type 0 where
  pub held : Good u.held

-- ---- as values of the code

-- what is held of an item's identities, and how many are held
abbrev pub looked_in : Item → MaybeUnit → Option Looked
looked_in i (is_unit u) = Some (record { standing = standing i u.held; count = length u.held })
looked_in i no_unit = None

-- something done to the table in front
abbrev pub on_front : (List ℕ → List ℕ) → List ℕ → List ℕ
on_front f s = f (take 3074 s) ++ drop 3074 s

-- the mark of a setup request put, where there is an octet for it
abbrev pub open_out : Bool → List ℕ → List ℕ
open_out b s = set s 3076 (open_octet b)
