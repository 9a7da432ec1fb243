-- Scaffolding: no demand speaks of it. The steps of a writer: the sizes of the values, the plan, and what stands before the elements and before a value.
use Rattle.std.specs.Prelude.{ℕ, zero, suc, ◌+◌, ◌%◌, ◌≤◌, Bool, false, List, [], ◌∷◌, ◌++◌, map, ltb, eqb, length, get_or, Option, None, Some}
use Rattle.lists.specs.Lists.{pick, fill}
use Rattle.packed.specs.Packed.{◌bits◌, bit, packed}
use Rattle.octets.specs.Write.{number_octets, length_octets}
use Rattle.rows.specs.declared.Row.{Row}
use Rattle.rows.specs.Table.{no_row}
use Rattle.editions.specs.declared.Code.{Code}
use Rattle.meaning.specs.Value.{Value, Given, given, absent}
use Rattle.meaning.specs.Written.{octets_of, has_octets, element_octets}

-- ---- sizes

-- 0 for a value that has no octets
unfoldable pub size_of : Value (List ℕ) → ℕ
size_of v = pick (has_octets v) (length (octets_of v)) 0

-- 8,193 for no octets, and for too many
unfoldable pub fitted : ℕ → ℕ
fitted n = pick (eqb n 0) 8193 (pick (ltb 8192 n) 8193 n)

unfoldable pub size_given : Given (List ℕ) → ℕ
size_given (given v) = fitted (size_of v)
size_given absent = 0

abbrev pub sizes_of : List (Given (List ℕ)) → List ℕ
sizes_of vs = fill 0 12 (map size_given vs)

-- ---- the plan

-- how many elements there are, and their octets; or the message is not written
abbrev pub Plan : Type 0
Plan = Option (ℕ × ℕ)

abbrev pub Small : ℕ → Plan → Type 0
Small i (Some (c, q)) = (c ≤ i) × (q ≤ 8192)
Small i None = Unit

-- an element with a value of n octets
abbrev pub element_size : ℕ → ℕ
element_size n = 3 + length (length_octets n) + n

unfoldable pub step_of : Plan → Bool → ℕ → Plan
step_of (Some (c, q)) mandatory n =
    pick (eqb n 0) (pick mandatory None (Some (c, q)))
    (pick (ltb 8192 n) None (pick (ltb 8192 (q + element_size n)) None (Some (c + 1, q + element_size n))))
step_of None mandatory n = None

-- of the first i rows
unfoldable pub plan_to : Plan → List Row → List ℕ → ℕ → Plan
plan_to p t ns zero = p
plan_to p t ns (suc i) = step_of (plan_to p t ns i) (get_or t i no_row).mandatory (get_or ns i 0)

-- a message whose elements have q octets: the frame, and the extension bit and count inside
abbrev pub message_size : ℕ → ℕ
message_size q = 3 + length (length_octets (q + 3)) + (q + 3)

-- ---- octets

-- the frame of a message that has n octets inside it, and what stands there before the elements
unfoldable pub opening_octets : Code → ℕ → ℕ → List ℕ
opening_octets c n count =
    packed (bit false ∷ 2 bits (c.kind % 4) ∷ [])
    ∷ c.code
    ∷ packed (2 bits (c.crit % 4) ∷ [])
    ∷ (length_octets n ++ (packed (bit false ∷ []) ∷ number_octets 2 count))

-- an element before its value of n octets
unfoldable pub front_octets : ℕ → ℕ → ℕ → List ℕ
front_octets id crit n = number_octets 2 id ++ (packed (2 bits (crit % 4) ∷ []) ∷ length_octets n)

-- the octets of the first i rows, one after another
unfoldable pub elements_to : List Row → List (Given (List ℕ)) → ℕ → List ℕ
elements_to t vs zero = []
elements_to t vs (suc i) = elements_to t vs i ++ element_octets (get_or t i no_row) (get_or vs i absent)
