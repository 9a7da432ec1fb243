-- What a table holds, and the rules on it, over lists of any length.
use Rattle.std.specs.Prelude.{Bool, false, not, ◌&&◌, List, [], ◌∷◌, ◌++◌, eqb, leb, length, take, drop, replicate, None, Option, Some}
use Rattle.lists.specs.Lists.{pick, keep, some, apart, fill}
use Rattle.identity.specs.declared.MmeId.{MmeId}
use Rattle.identity.specs.declared.MceId.{MceId}
use Rattle.identity.specs.declared.Item.{Item}
use Rattle.table.specs.declared.Association.{Association}
use Rattle.table.specs.declared.Table.{Table}
use Rattle.table.specs.declared.Standing.{Standing}

-- associations in order of starting
abbrev pub State : Type 0
State = List Association

-- what is said of a row that holds none
abbrev pub empty_association : Association
empty_association = record {
  mme = record { 0 = 0 };
  mce = record { 0 = 0 };
  tmgi = record { plmn = record { 0 = 0; 1 = 0; 2 = 0 }; service = record { 0 = 0; 1 = 0; 2 = 0 } };
  session = None;
}

-- what stands in a row that holds none, which is never looked at
abbrev pub unheld : Association
unheld = empty_association

-- the first count rows; all 256 where the count is more
abbrev pub held : Table → State
held t = take t.count t.rows

-- the table of a state of at most 256: none stands in the rows behind it
abbrev pub table_holding : State → Table
table_holding l = record { rows = fill unheld 256 l; count = length l }

-- the rows of a table with those emptied that are held
abbrev pub vacated : Table → State
vacated t = replicate (length (held t)) unheld ++ drop t.count t.rows

-- the table holds others instead: they stand in front of what is left when those held are gone
unfoldable pub holding : State → Table → Table
holding l t = record { rows = l ++ drop (length l) (vacated t); count = length l }

-- the association has the identity; a figure of one series is never compared with one of the other
abbrev pub has_mme : MmeId → Association → Bool
has_mme m a = eqb a.mme.0 m.0

abbrev pub has_mce : MceId → Association → Bool
has_mce c a = eqb a.mce.0 c.0

abbrev pub has_pair : MmeId → MceId → Association → Bool
has_pair m c a = has_mme m a && has_mce c a

abbrev names_by : Option MmeId → Option MceId → Association → Bool
names_by (Some m) (Some c) a = has_pair m c a
names_by (Some m) None a = has_mme m a
names_by None (Some c) a = has_mce c a
names_by None None a = false

-- one identity: the association holding it; both: only one holding both; none: nothing
abbrev pub names : Item → Association → Bool
names i a = names_by i.mme i.mce a

-- some item names the association
unfoldable pub named : List Item → Association → Bool
named is a = some (λ (i : Item). names i a) is

-- partial reset: all that are named are removed, the others keep their order
unfoldable pub without : List Item → State → State
without is l = keep (λ (a : Association). not (named is a)) l

-- there is no room for one more
unfoldable pub full : State → Bool
full l = leb 256 (length l)

-- start: the new one is appended, where there is room
unfoldable pub starting : Association → State → State
starting a l = pick (full l) l (l ++ (a ∷ []))

-- stop: the association that has both identities is removed
unfoldable pub stopping : MmeId → MceId → State → State
stopping m c l = keep (λ (a : Association). not (has_pair m c a)) l

-- the identity, or the pair, is held
abbrev pub holds_mme : MmeId → State → Bool
holds_mme m l = some (has_mme m) l

abbrev pub holds_mce : MceId → State → Bool
holds_mce c l = some (has_mce c) l

abbrev pub holds_pair : MmeId → MceId → State → Bool
holds_pair m c l = some (has_pair m c) l

-- some association held has the identities that are there
abbrev pub held_by : Option MmeId → Option MceId → State → Bool
held_by (Some m) (Some c) l = holds_pair m c l
held_by (Some m) None l = holds_mme m l
held_by None (Some c) l = holds_mce c l
held_by None None l = false

-- what is held of an item's identities: the first, the second, both in one association; and whether there is room
abbrev pub standing : Item → State → Standing
standing i l = record { mme = held_by i.mme None l; mce = held_by None i.mce l; pair = held_by i.mme i.mce l; full = full l }

-- two associations have one identity in common
abbrev pub share_mme : Association → Association → Bool
share_mme a b = has_mme b.mme a

abbrev pub share_mce : Association → Association → Bool
share_mce a b = has_mce b.mce a

-- no two share an MME identity; no two share an MCE identity
unfoldable pub distinct_held : State → Bool
distinct_held l = apart share_mme l && apart share_mce l
