-- Scaffolding: no demand speaks of it. What the reader looks at.
use Rattle.std.specs.Prelude.{Bool, None, Option, Some, true, false, ◌&&◌, ◌||◌, List, [], ◌∷◌, ℕ, zero, suc, ◌<◌, eqb, get_or, drop}
use Rattle.octets.specs.Field.{value_at}
use Rattle.identity.specs.declared.Item.{Item}
use Rattle.identity.specs.declared.MceId.{MceId}
use Rattle.identity.specs.declared.MmeId.{MmeId}
use Rattle.distinct.specs.Bits.{told, in_set}
use Rattle.distinct.specs.Series.{alike}
use Rattle.table.specs.declared.Association.{Association}
use Rattle.table.specs.Table.{distinct_held}
use Rattle.lists.specs.Lists.{pick, some, apart}
use Rattle.lent.specs.Lent.{rows_of}

-- 1 and any octet, or 0 and 0
abbrev pub session_good : ℕ → ℕ → Bool
session_good flag v = eqb flag 1 || (eqb flag 0 && eqb v 0)

-- n rows have good octets for the Session Identity
unfoldable pub rows_good : ℕ → List ℕ → Bool
rows_good zero s = true
rows_good (suc n) s = session_good (get_or s 10 0) (get_or s 11 0) && rows_good n (drop 12 s)

-- n rows have good octets, and their identities are apart
abbrev pub rows_right : ℕ → List ℕ → Bool
rows_right n s = rows_good n s && distinct_held (rows_of n s)

unfoldable pub zeros : List ℕ → Bool
zeros [] = true
zeros (x ∷ l) = eqb x 0 && zeros l

-- ---- by what sets of w words tell apart of an identity
abbrev pub low_mme : ℕ → Association → ℕ
low_mme w a = told w a.mme.0

abbrev pub low_mce : ℕ → Association → ℕ
low_mce w a = told w a.mce.0

-- one of all is alike with the identity that there is
abbrev pub low_held : {I A : Type 0} → (I → ℕ) → (A → ℕ) → ℕ → Option I → List A → Bool
low_held {I} {A} number f w (Some x) l = some (λ (a : A). eqb (f a) (told w (number x))) l
low_held number f w None l = false

-- there is an identity, and the set has it
abbrev pub is_met : {I : Type 0} → (I → ℕ) → ℕ → List ℕ → Option I → Bool
is_met number w words (Some x) = in_set w words (told w (number x))
is_met number w words None = false

-- its number is of two octets, by its type
abbrev pub Fits : {I : Type 0} → (I → ℕ) → Option I → Type 0
Fits number (Some x) = number x < 65536
Fits number None = Unit {0}

-- the numbers of two octets at a place of n rows
unfoldable pub numbers_at : ℕ → ℕ → List ℕ → List ℕ
numbers_at from zero s = []
numbers_at from (suc n) s = value_at 2 s from ∷ numbers_at from n (drop 12 s)

-- of one series: where they are told apart, whether one is the identity that there is
unfoldable pub series_held : {I A : Type 0} → (I → ℕ) → (A → ℕ) → ℕ → Option I → List A → Option Bool
series_held number f w x l = pick (apart (alike f) l) (Some (low_held number f w x l)) None

-- n rows have good octets, and their identities are told apart
unfoldable pub right_by : ℕ → ℕ → List ℕ → Bool
right_by w n s = rows_good n s && (apart (alike (low_mme w)) (rows_of n s) && apart (alike (low_mce w)) (rows_of n s))

-- where they are, whether some row's is the item's, by what is told of it
unfoldable pub held_apart : ℕ → Item → ℕ → List ℕ → Option (Bool × Bool)
held_apart w i n s = pick (right_by w n s) (Some (low_held (λ (m : MmeId). m.0) (low_mme w) w i.mme (rows_of n s), low_held (λ (c : MceId). c.0) (low_mce w) w i.mce (rows_of n s))) None
