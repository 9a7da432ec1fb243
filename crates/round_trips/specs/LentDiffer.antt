-- Two things which differ stay different, over the octets as C lends them: two records, each with the octets in which its carried values lie,
-- that differ have messages that differ.
-- Two parts of a record say nothing of its message, and are taken as 0: the frame's criticality, since the message has the table's,
-- and the place of a carried value, since the message has the octets that lie there.
use Rattle.editions.specs.declared.Message.{Message}
use Rattle.std.specs.Prelude.{ℕ, ◌+◌, ◌≡◌, Bool, true, false, List, [], ◌∷◌, ◌++◌, get_or, set, take, drop, None, Option, Some}
use Rattle.lists.specs.Lists.{pick}
use Rattle.octets.specs.Field.{value_at}
use Rattle.octets.specs.Stands.{Octets}
use Rattle.rows.specs.declared.Kind.{Kind}
use Rattle.rows.specs.declared.Kind.TheVariants as kind
use Rattle.rows.specs.declared.Row.{Row}
use Rattle.editions.specs.declared.Edition.{Edition}
use Rattle.editions.specs.Editions.{table_of, numbered_by}
use Rattle.meaning.specs.Value.{octets_in}
use Rattle.meaning.specs.Written.{octets}
use Rattle.layout.specs.Rows.{unless0}
use Rattle.layout.specs.Record.{written}

-- a value of this kind lies in the octets beside the record
abbrev pub is_carried : Kind → Bool
is_carried kind.Carried = true
is_carried kind.Mme = false
is_carried kind.Mce = false
is_carried kind.Tmgi = false
is_carried kind.OneOctet = false
is_carried kind.TwoOctets = false
is_carried kind.Cause = false
is_carried kind.Wait = false
is_carried kind.Name = true
is_carried kind.ResetType = false
is_carried kind.Acknowledged = false
is_carried (kind.Diagnostics t) = false

-- the rows of the message that the record's first octet numbers
abbrev pub table_by : Edition → Option Message → List Row
table_by e (Some m) = table_of e m
table_by e None = []

abbrev pub table_in : Edition → List ℕ → List Row
table_in e s = table_by e (numbered_by e (get_or s 0 0))

-- a slot of 8 octets whose place, octets 1 and 2, is taken as 0
abbrev pub placeless : List ℕ → List ℕ
placeless p = set (set p 1 0) 2 0

-- slots, row by row, and what is behind them; the slot of a value that is absent has zeros
unfoldable pub slots_shown : List Row → List ℕ → List ℕ
slots_shown [] p = p
slots_shown (r ∷ t) p = pick (is_carried r.kind) (placeless (take 8 p)) (take 8 p) ++ slots_shown t (drop 8 p)

-- the octets of a record, the frame's criticality and the places of carried values taken as 0
unfoldable pub shown : Edition → List ℕ → List ℕ
shown e s = get_or s 0 0 ∷ 0 ∷ slots_shown (table_in e s) (drop 2 s)

-- the octets of a carried value: octets 1 and 2 of its slot say where they lie in values, octets 3 and 4 how many they are
abbrev pub carried_at : List ℕ → List ℕ → List ℕ
carried_at p values = octets_in values (record { from = value_at 2 p 1; to = value_at 2 p 1 + value_at 2 p 3 })

-- of each carried row that is there
unfoldable pub slots_carry : List Row → List ℕ → List ℕ → List (List ℕ)
slots_carry [] p values = []
slots_carry (r ∷ t) p values = pick (is_carried r.kind) (unless0 p [] (carried_at p values ∷ [])) [] ++ slots_carry t (drop 8 p) values

unfoldable pub carried_in : Edition → List ℕ → List ℕ → List (List ℕ)
carried_in e s values = slots_carry (table_in e s) (drop 2 s) values

-- Records that are written as the same octets are the same but for the criticality and the places, and carry the same octets.
abbrev pub LentDiffer : Edition → Type 0
LentDiffer e =
    (s z values others os : List ℕ) → Octets s → Octets z → Octets values → Octets others
    → written e s values ≡ octets os → written e z others ≡ octets os
    → (shown e s ≡ shown e z) × (carried_in e s values ≡ carried_in e z others)
