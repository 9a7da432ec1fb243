-- A capture: entries one after another, each an offered identity (two octets, high first), a length (likewise), and a message of that length.
-- A message of any length is handed to the call, which gives one over 8,192 octets its answer 1.
use Rattle.std.specs.Prelude.{ℕ, zero, suc, ◌+◌, ◌≡◌, Bool, List, [], ◌∷◌, ◌++◌, leb, ltb, length, drop, replicate}
use Rattle.std.proofs.Math.Seq.{slice}
use Rattle.lists.specs.Lists.{pick}
use Rattle.octets.specs.Field.{value_at}
use Rattle.units.specs.Unit.{fresh, unit_octets}
use Rattle.answers.specs.Answers.{numbered}
use Rattle.editions.specs.declared.Edition.TheVariants.{Release18}
use Rattle.calls.specs.Call.{Call, Back, call}
use Rattle.evening.specs.declared.Turn.{Turn}
use Rattle.evening.specs.declared.Played as own

-- the octets of the entry at the front, as its length says
unfoldable pub size_in : List ℕ → ℕ
size_in s = 4 + value_at 2 s 2

-- the entry at the front is whole
unfoldable pub is_whole : List ℕ → Bool
is_whole s = leb (size_in s) (length s)

-- what it hands to the call, with room for a reply
unfoldable pub call_in : List ℕ → List ℕ → Call
call_in s d = record { message = slice 4 (size_in s) s; offered = record { 0 = value_at 2 s 0 }; room = d }

-- the associations held, as the unit's first two octets say; 0 where there are none
unfoldable pub held_in : List ℕ → ℕ
held_in t = pick (ltb (length t) 2) 0 (value_at 2 t 0)

-- what an entry gives: 01's number of the answer, the reply's octets, and how many are held afterwards
unfoldable pub turn_of : Back → Turn
turn_of b = record { answer = (numbered b.answer).number; reply = length b.reply; held = held_in b.unit }

-- what was played: what each entry gave, the unit and the room at the end, and the octets of the entries
pub record Played : Type 0 where
  pub turns : List Turn
  pub unit : List ℕ
  pub room : List ℕ
  pub octets : ℕ

-- some entries of n octets, and then the rest
abbrev pub played_after : List Turn → ℕ → Played → Played
played_after l n p = record { turns = l ++ p.turns; unit = p.unit; room = p.room; octets = n + p.octets }

abbrev pub no_turns : List ℕ → List ℕ → Played
no_turns t d = record { turns = []; unit = t; room = d; octets = 0 }

-- at most k entries at the front of s are played, from the unit t, each with the room as the last one left it
unfoldable pub played_in : ℕ → List ℕ → List ℕ → List ℕ → Played
played_in zero s t d = no_turns t d
played_in (suc k) s t d =
    let b : Back = call Release18 t (call_in s d) in
    pick (is_whole s) (played_after (turn_of b ∷ []) (size_in s) (played_in k (drop (size_in s) s) b.unit b.room)) (no_turns t d)

-- a capture whole, from the fresh unit: all entries that are whole, for each has four octets and more;
-- it is cut exactly if octets are left over behind the last of them
abbrev pub captured : List ℕ → Played
captured s = played_in (length s) s (unit_octets fresh) (replicate 8192 0)

abbrev pub cut : List ℕ → Bool
cut s = ltb (captured s).octets (length s)

-- one call, as the code hands it back
pub record Turned (b : Back) (x : Turn) (t d : List ℕ) : Type 0 where
  pub turn : x ≡ turn_of b
  pub unit : t ≡ b.unit
  pub room : d ≡ b.room

-- as the code hands it back: what each entry gave stands in the front of the turns o, and what is behind is kept
pub record Plays (p : Played) (o : List Turn) (r : own.Played) (t d : List ℕ) (e : List Turn) : Type 0 where
  pub entries : r.entries ≡ length p.turns
  pub octets : r.octets ≡ p.octets
  pub unit : t ≡ p.unit
  pub room : d ≡ p.room
  pub turns : e ≡ p.turns ++ drop (length p.turns) o
