-- Each answer of the table call occurs: messages and units that get it. And 01's bench examples of calls.
use Rattle.std.specs.Prelude.{ℕ, zero, suc, ◌+◌, ◌<◌, ◌≤◌, ◌≡◌, true, false, List, [], ◌∷◌, ◌++◌, map, length, drop, replicate, None, Some}
use Rattle.identity.specs.declared.MceId.{MceId}
use Rattle.table.specs.declared.Association.{Association}
use Rattle.table.specs.Table.{State, holds_mme, holds_mce}
use Rattle.lent.specs.Lent.{Good}
use Rattle.units.specs.Unit.{Unit, unit_octets, is_unit, no_unit, read_unit}
use Rattle.editions.specs.declared.Edition.{Edition}
use Rattle.editions.specs.declared.Edition.TheVariants.{Release18}
use Rattle.round_trips.specs.Examples.{partial_reset, acknowledgement}
use Rattle.round_trips.specs.Ties.{ReadBack, Rewritten}
use Rattle.carry.specs.declared.Answer.TheVariants as answer
use Rattle.answers.specs.Answers.{numbered}
use Rattle.calls.specs.Call.{call}
use Rattle.demands.specs.Due.{AnswersAs, RepliesAs}
use Rattle.demands.specs.WhatIsDone.{WhatIsDone}

-- ---- on a unit that holds these, with the MCE identity 9 offered

abbrev pub unit_holding : State → List ℕ
unit_holding l = unit_octets (record { held = l; is_open = false })

abbrev pub offer : MceId
offer = record { 0 = 9 }

-- whatever the room, if it is large enough
abbrev pub Gives : State → List ℕ → ℕ → Type 0
Gives l s n = (d : List ℕ) → 3200 ≤ length d → (numbered (call Release18 (unit_holding l) (record { message = s; offered = offer; room = d })).answer).number ≡ n

-- MME and MCE identity, and a TMGI of zeros
abbrev pub pair : ℕ → ℕ → Association
pair m c = record {
  mme = record { 0 = m };
  mce = record { 0 = c };
  tmgi = record { plmn = record { 0 = 0; 1 = 0; 2 = 0 }; service = record { 0 = 0; 1 = 0; 2 = 0 } };
  session = None;
}

-- n associations, of the identities from 100 on
unfoldable pub many_held : ℕ → State
many_held zero = []
many_held (suc n) = pair (n + 100) (n + 100) ∷ many_held n

-- START REQUEST of MME identity 5, with what is mandatory; STOP REQUEST of the pair 5 and 9; RESET of the whole
abbrev pub start : List ℕ
start =
    0x00 ∷ 0x00 ∷ 0x00 ∷ 0x2d ∷ 0x00 ∷ 0x00 ∷ 0x07
    ∷ 0x00 ∷ 0x00 ∷ 0x00 ∷ 0x02 ∷ 0x00 ∷ 0x05
    ∷ 0x00 ∷ 0x02 ∷ 0x00 ∷ 0x07 ∷ 0x00 ∷ 0x00 ∷ 0x00 ∷ 0x00 ∷ 0x00 ∷ 0x00 ∷ 0x00
    ∷ 0x00 ∷ 0x04 ∷ 0x00 ∷ 0x01 ∷ 0x00
    ∷ 0x00 ∷ 0x05 ∷ 0x00 ∷ 0x01 ∷ 0x00
    ∷ 0x00 ∷ 0x06 ∷ 0x00 ∷ 0x01 ∷ 0x00
    ∷ 0x00 ∷ 0x10 ∷ 0x00 ∷ 0x01 ∷ 0x00
    ∷ 0x00 ∷ 0x07 ∷ 0x00 ∷ 0x01 ∷ 0x00 ∷ []

abbrev pub stop : List ℕ
stop = 0x00 ∷ 0x01 ∷ 0x00 ∷ 0x0f ∷ 0x00 ∷ 0x00 ∷ 0x02 ∷ 0x00 ∷ 0x00 ∷ 0x00 ∷ 0x02 ∷ 0x00 ∷ 0x05 ∷ 0x00 ∷ 0x01 ∷ 0x00 ∷ 0x02 ∷ 0x00 ∷ 0x09 ∷ []

abbrev pub whole_reset : List ℕ
whole_reset = 0x00 ∷ 0x04 ∷ 0x00 ∷ 0x08 ∷ 0x00 ∷ 0x00 ∷ 0x01 ∷ 0x00 ∷ 0x0d ∷ 0x00 ∷ 0x01 ∷ 0x00 ∷ []

abbrev pub error : List ℕ
error = 0x00 ∷ 0x02 ∷ 0x40 ∷ 0x08 ∷ 0x00 ∷ 0x00 ∷ 0x01 ∷ 0x00 ∷ 0x62 ∷ 0x00 ∷ 0x01 ∷ 0xff ∷ []

-- M3 SETUP RESPONSE of no elements, and what is inside it cut short; M3 SETUP FAILURE with a Time to Wait of 60 seconds
abbrev pub response : List ℕ
response = 0x20 ∷ 0x07 ∷ 0x00 ∷ 0x03 ∷ 0x00 ∷ 0x00 ∷ 0x00 ∷ []

abbrev pub cut_response : List ℕ
cut_response = 0x20 ∷ 0x07 ∷ 0x00 ∷ 0x03 ∷ 0x00 ∷ 0x00 ∷ 0x01 ∷ []

abbrev pub failure : List ℕ
failure = 0x40 ∷ 0x07 ∷ 0x00 ∷ 0x08 ∷ 0x00 ∷ 0x00 ∷ 0x01 ∷ 0x00 ∷ 0x0C ∷ 0x40 ∷ 0x01 ∷ 0x50 ∷ []

-- ---- every answer

abbrev pub number_given : List ℕ → List ℕ → List ℕ → ℕ
number_given t s d = (numbered (call Release18 t (record { message = s; offered = offer; room = d })).answer).number

pub record EveryAnswer : Type 0 where
  -- a start, on a fresh unit
  pub is_carried_out : Gives [] start 0
  -- any message of over 8,192 octets, on any unit
  pub too_long : (t s d : List ℕ) (u : Unit) → read_unit t ≡ is_unit u → 8192 < length s → number_given t s d ≡ 1
  -- no octets; an octet with the extension bit
  pub fault : Gives [] [] 2
  pub extension : Gives [] (0x80 ∷ []) 3
  -- a procedure code that none of the messages has
  pub no_request : Gives [] (0x00 ∷ 0x03 ∷ 0x00 ∷ 0x01 ∷ 0x00 ∷ []) 4
  -- the answer to a setup request, where none is open: also if it is cut short
  pub none_open : Gives [] response 14
  pub none_open_cut : Gives [] cut_response 14
  -- ERROR INDICATION with an unknown element of reject
  pub rejected : Gives [] error 5
  -- the start, where its MME identity is held, or only the offered one is
  pub mme_held : Gives (pair 5 1 ∷ []) start 6
  pub offer_held : Gives (pair 1 9 ∷ []) start 7
  -- the stop, where its identities are held, but by no one association
  pub pair_not_held : Gives (pair 5 1 ∷ []) stop 8
  -- the start, where 256 are held, and neither identity
  pub all_held : (l : State) → Good l → length l ≡ 256 → holds_mme (record { 0 = 5 }) l ≡ false → holds_mce offer l ≡ false → Gives l start 9
  pub so_many : Gives (many_held 256) start 9
  -- the whole reset, whose reply has seven octets
  pub no_room : (d : List ℕ) → length d < 7 → number_given (unit_holding []) whole_reset d ≡ 10
  -- any call on octets that are no unit; no octets are none, nor is a table without its marks
  pub has_no_unit : (t s d : List ℕ) → read_unit t ≡ no_unit → number_given t s d ≡ 21
  pub not_a_unit : (read_unit [] ≡ no_unit) × (read_unit (replicate 3074 0) ≡ no_unit)

-- ---- 01's bench examples of calls

-- a RESET of one item, which has no identity; the acknowledgement without a list
abbrev pub empty_reset : List ℕ
empty_reset =
    0x00 ∷ 0x04 ∷ 0x00 ∷ 0x13
    ∷ 0x00 ∷ 0x00 ∷ 0x02
    ∷ 0x00 ∷ 0x09 ∷ 0x40 ∷ 0x01 ∷ 0x42
    ∷ 0x00 ∷ 0x0D ∷ 0x00 ∷ 0x07 ∷ 0x40 ∷ 0x00 ∷ 0x00 ∷ 0x0E ∷ 0x00 ∷ 0x01 ∷ 0x00 ∷ []

abbrev pub no_list : List ℕ
no_list = 0x20 ∷ 0x04 ∷ 0x00 ∷ 0x03 ∷ 0x00 ∷ 0x00 ∷ 0x00 ∷ []

-- a unit that holds these, with a setup request open
abbrev pub opened : State → Unit
opened l = record { held = l; is_open = true }

-- whatever the room, if the reply fits: carried out, with that reply, and that is held
abbrev pub Does : State → List ℕ → List ℕ → State → Type 0
Does l s os l' =
    (d : List ℕ) → length os ≤ length d
    → call Release18 (unit_holding l) (record { message = s; offered = offer; room = d })
    ≡ record { answer = answer.CarriedOut; reply = os; unit = unit_holding l'; room = os ++ drop (length os) d }

pub record BenchCalls : Type 0 where
  -- the RESET of the item 1 and 2: what it names is removed; where nothing is named, it is acknowledged all the same
  pub named : Does (pair 1 2 ∷ []) partial_reset acknowledgement []
  pub unknown : Does [] partial_reset acknowledgement []
  -- held (1, 3): the item (1, 2) removes nothing and is acknowledged
  pub kept : Does (pair 1 3 ∷ []) partial_reset acknowledgement (pair 1 3 ∷ [])
  -- the acknowledgement of a whole reset, or of empty items only
  pub whole : Does (pair 1 3 ∷ []) whole_reset no_list []
  pub empty : Does (pair 1 3 ∷ []) empty_reset no_list (pair 1 3 ∷ [])
  -- with a setup request open, its response empties the table, and its failure keeps it and hands back a Time to Wait; both close it, whatever the room
  pub set_up : (d : List ℕ) → call Release18 (unit_octets (opened (pair 1 3 ∷ []))) (record { message = response; offered = offer; room = d })
      ≡ record { answer = answer.CarriedOut; reply = []; unit = unit_holding []; room = d }
  pub set_up_failed : (d : List ℕ) → call Release18 (unit_octets (opened (pair 1 3 ∷ []))) (record { message = failure; offered = offer; room = d })
      ≡ record { answer = answer.SetupFailed (Some 5); reply = []; unit = unit_holding (pair 1 3 ∷ []); room = d }
  -- each Time to Wait in seconds, as its name in 9.3.5 says
  pub in_seconds : map (λ (v : ℕ). (numbered (answer.SetupFailed (Some v))).wait) (0 ∷ 1 ∷ 2 ∷ 3 ∷ 4 ∷ 5 ∷ []) ≡ 1 ∷ 2 ∷ 5 ∷ 10 ∷ 20 ∷ 60 ∷ []
  -- a reply room of 20 for the 21 octets
  pub no_room : (d : List ℕ) → length d ≡ 20 → number_given (unit_holding []) partial_reset d ≡ 10

-- Demand 2: each answer is given exactly when 01's table says, with the reply that it says, and each is given; what is done to the unit;
-- and both round trips.
pub record Demand2 : Type 0 where
  -- "given exactly when", "reply"
  pub exactly : (e : Edition) → AnswersAs e
  pub replies : (e : Edition) → RepliesAs e
  pub each : EveryAnswer
  -- "What is done"
  pub done : (e : Edition) → WhatIsDone e
  -- "Reading what the writer wrote gives the record."
  pub back : (e : Edition) → ReadBack e
  -- "Rewriting what was read gives the same octets if the message holds only elements of its table, with the criticalities the tables give (the items' and
  -- the frame's included), lacks no mandatory one, and was read with answer 0."
  pub again : (e : Edition) → Rewritten e
  pub bench : BenchCalls
