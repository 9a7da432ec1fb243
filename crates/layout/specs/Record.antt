-- The record for C, 2,662 octets: which message, the frame's criticality, a slot of 8 for each of up to twelve rows, items, entries.
-- Octets are a record if they are those of what they say; so items and entries stand there only where a slot announces them.
use Rattle.std.specs.Prelude.{ℕ, min, ◌+◌, ◌-◌, Bool, true, false, not, List, [], ◌∷◌, ◌++◌, ltb, leb, eqb, length, get_or, drop, None, Option, Some}
use Rattle.lists.specs.Lists.{pick, fill, some}
use Rattle.octets.specs.Field.{value_at}
use Rattle.octets.specs.Write.{number_octets}
use Rattle.octets.specs.Many.{each_octets}
use Rattle.octets.specs.declared.Span.{Span}
use Rattle.identity.specs.declared.Item.{Item}
use Rattle.names.specs.Names.{name_allowed}
use Rattle.items.specs.Items.{whole, part}
use Rattle.entries.specs.declared.Entry.{Entry}
use Rattle.diagnostics.specs.declared.Head.{Head}
use Rattle.layout.specs.Rows.{unless0, item_row, row_item, entry_row, row_entry, each_row, list_octets}
use Rattle.lent.specs.Lent.{same}
use Rattle.rows.specs.declared.Kind.{Kind}
use Rattle.rows.specs.declared.Kind.TheVariants as kind
use Rattle.rows.specs.declared.Row.{Row}
use Rattle.editions.specs.declared.Message.{Message}
use Rattle.editions.specs.declared.Edition.{Edition}
use Rattle.editions.specs.Editions.{table_of, number_of, numbered_by}
use Rattle.meaning.specs.Value.{Value, Given, given, absent, carried, mme, mce, tmgi, one, two, cause, wait, name, reset, list, diagnostics, Record, said_by}
use Rattle.meaning.specs.Written.{Encoded, none, encoded}

-- ---- the lists that values announce; no table has two rows that announce items, or two that announce entries

pub record Lists : Type 0 where
  pub items : List Item
  pub entries : List Entry

abbrev pub no_lists : Lists
no_lists = record { items = []; entries = [] }

abbrev pub announced : {C : Type 0} → Value C → Lists → Lists
announced (carried v) l = l
announced (mme v) l = l
announced (mce v) l = l
announced (tmgi v) l = l
announced (one v) l = l
announced (two v) l = l
announced (cause v) l = l
announced (wait v) l = l
announced (name v) l = l
announced (reset whole) l = l
announced (reset (part is)) l = record { items = is; entries = l.entries }
announced (list is) l = record { items = is; entries = l.entries }
announced (diagnostics t d) l = record { items = l.items; entries = pick d.head.listed d.entries l.entries }

unfoldable pub lists_of : {C : Type 0} → List (Given C) → Lists
lists_of [] = no_lists
lists_of (given v ∷ vs) = announced v (lists_of vs)
lists_of (absent ∷ vs) = lists_of vs

-- ---- a slot: zeros for a value that is absent; else 1, or 2 for part of the interface, and the value

abbrev pub yes : Bool → ℕ
yes true = 1
yes false = 0

-- 1 and the number, or 0 and 0
abbrev pub number_slot_octets : Option ℕ → List ℕ
number_slot_octets (Some v) = 1 ∷ v ∷ []
number_slot_octets None = 0 ∷ 0 ∷ []

-- procedure code, triggering message, criticality, and whether there is a list
abbrev pub head_slot_octets : Head → List ℕ
head_slot_octets h = number_slot_octets h.code ++ number_slot_octets h.trigger ++ number_slot_octets h.crit ++ (yes h.listed ∷ [])

-- a carried value, and a name: its place, and how many octets it has
abbrev pub place_octets : Span → List ℕ
place_octets v = number_octets 2 v.from ++ number_octets 2 (v.to - v.from)

unfoldable pub slot_of : Value Span → List ℕ
slot_of (carried v) = 1 ∷ place_octets v
slot_of (name v) = 1 ∷ place_octets v
slot_of (mme v) = 1 ∷ number_octets 2 v.0
slot_of (mce v) = 1 ∷ number_octets 2 v.0
slot_of (tmgi v) = 1 ∷ v.plmn.0 ∷ v.plmn.1 ∷ v.plmn.2 ∷ v.service.0 ∷ v.service.1 ∷ v.service.2 ∷ []
slot_of (one v) = 1 ∷ v ∷ []
slot_of (two v) = 1 ∷ number_octets 2 v
slot_of (cause v) = 1 ∷ v.group ∷ v.value ∷ []
slot_of (wait v) = 1 ∷ v ∷ []
slot_of (reset whole) = 1 ∷ []
slot_of (reset (part is)) = 2 ∷ []
slot_of (list is) = 1 ∷ []
slot_of (diagnostics t d) = 1 ∷ head_slot_octets d.head

abbrev pub slot_octets : Given Span → List ℕ
slot_octets (given v) = fill 0 8 (slot_of v)
slot_octets absent = fill 0 8 []

unfoldable pub record_octets : Edition → Record → List ℕ
record_octets e r =
    let l = lists_of r.values in
    number_of e r.message ∷ r.crit
    ∷ (fill 0 96 (each_octets slot_octets r.values) ++ (list_octets 1536 item_row l.items ++ list_octets 1024 entry_row l.entries))

-- ---- what octets say, by the kinds of the table's rows; l are the items and entries that stand there

abbrev number_in : List ℕ → Option ℕ
number_in p = unless0 p None (Some (get_or p 1 0))

abbrev pub head_in : List ℕ → Head
head_in p = record { code = number_in (drop 1 p); trigger = number_in (drop 3 p); crit = number_in (drop 5 p); listed = not (eqb (get_or p 7 0) 0) }

abbrev pub place_in : List ℕ → Span
place_in p = record { from = value_at 2 p 1; to = value_at 2 p 1 + value_at 2 p 3 }

unfoldable pub slot_says : Lists → Kind → List ℕ → Value Span
slot_says l kind.Carried p = carried (place_in p)
slot_says l kind.Name p = name (place_in p)
slot_says l kind.Mme p = mme (record { 0 = value_at 2 p 1 })
slot_says l kind.Mce p = mce (record { 0 = value_at 2 p 1 })
slot_says l kind.Tmgi p = tmgi (record {
  plmn = record { 0 = get_or p 1 0; 1 = get_or p 2 0; 2 = get_or p 3 0 };
  service = record { 0 = get_or p 4 0; 1 = get_or p 5 0; 2 = get_or p 6 0 };
})
slot_says l kind.OneOctet p = one (get_or p 1 0)
slot_says l kind.TwoOctets p = two (value_at 2 p 1)
slot_says l kind.Cause p = cause (record { group = get_or p 1 0; value = get_or p 2 0 })
slot_says l kind.Wait p = wait (get_or p 1 0)
slot_says l kind.ResetType p = reset (pick (eqb (get_or p 0 0) 2) (part l.items) whole)
slot_says l kind.Acknowledged p = list l.items
slot_says l (kind.Diagnostics t) p = diagnostics t (record { head = head_in p; entries = pick (head_in p).listed l.entries [] })

unfoldable pub slots_say : Lists → List Row → List ℕ → List (Given Span)
slots_say l [] p = []
slots_say l (r ∷ t) p = unless0 p absent (given (slot_says l r.kind p)) ∷ slots_say l t (drop 8 p)

-- at most 256 of each: a count over 256 is not said, so it is no record's
abbrev pub lists_in : List ℕ → Lists
lists_in s = record {
  items = each_row row_item 6 (min (value_at 2 s 98) 256) (drop 100 s);
  entries = each_row row_entry 4 (min (value_at 2 s 1636) 256) (drop 1638 s);
}

unfoldable pub said_record : Edition → Message → List ℕ → Record
said_record e m s = record { message = m; crit = get_or s 1 0; values = slots_say (lists_in s) (table_of e m) (drop 2 s) }

-- ---- a record has one form

pub data LentRecord : Type 0 where
  is_record : Record → LentRecord
  no_record : LentRecord

abbrev pub lent_as : Edition → List ℕ → Option Message → LentRecord
lent_as e s (Some m) = pick (same (record_octets e (said_record e m s)) s) (is_record (said_record e m s)) no_record
lent_as e s None = no_record

unfoldable pub read_record : Edition → List ℕ → LentRecord
read_record e s = lent_as e s (numbered_by e (get_or s 0 0))

-- ---- put and taken

-- into the front of a room, if it is large enough
abbrev pub record_out : Edition → Record → List ℕ → List ℕ
record_out e r d = pick (leb 2662 (length d)) (record_octets e r ++ drop 2662 d) d

-- what a lent record says with the octets lent beside it; a criticality over 2 is outside its root
abbrev pub written_by : Edition → List ℕ → LentRecord → Encoded
written_by e values (is_record r) = pick (ltb r.crit 3) (encoded e (said_by values r)) none
written_by e values no_record = none

unfoldable pub written : Edition → List ℕ → List ℕ → Encoded
written e s values = written_by e values (read_record e s)

-- ---- names

abbrev pub bad_name : Given (List ℕ) → Bool
bad_name (given (name os)) = not (name_allowed os)
bad_name (given (carried os)) = false
bad_name (given (mme v)) = false
bad_name (given (mce v)) = false
bad_name (given (tmgi v)) = false
bad_name (given (one v)) = false
bad_name (given (two v)) = false
bad_name (given (cause v)) = false
bad_name (given (wait v)) = false
bad_name (given (reset v)) = false
bad_name (given (list v)) = false
bad_name (given (diagnostics t v)) = false
bad_name absent = false

abbrev pub name_refused_by : List ℕ → LentRecord → Bool
name_refused_by values (is_record r) = some bad_name (said_by values r).values
name_refused_by values no_record = false

-- octets that are a record one of whose values is a name that is not allowed; a place outside values holds no octets
unfoldable pub name_refused : Edition → List ℕ → List ℕ → Bool
name_refused e s values = name_refused_by values (read_record e s)
