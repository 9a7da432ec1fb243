-- Scaffolding: no demand speaks of it. Whether octets are a record's, slot by slot, and what the slots announce.
use Rattle.std.specs.Prelude.{ℕ, ◌+◌, ◌*◌, ◌-◌, Bool, true, false, not, ◌&&◌, ◌||◌, List, [], ◌∷◌, ◌++◌, ltb, eqb, get_or, take, drop, replicate, None, Option, Some}
use Rattle.std.proofs.Math.Seq.{slice}
use Rattle.lists.specs.Lists.{pick, fill}
use Rattle.octets.specs.Many.{each_octets}
use Rattle.lent.specs.Lent.{same}
use Rattle.rows.specs.declared.Kind.{Kind}
use Rattle.rows.specs.declared.Kind.TheVariants as kind
use Rattle.rows.specs.declared.Row.{Row}
use Rattle.meaning.specs.Value.{given, absent}
use Rattle.layout.specs.Rows.{unless0, item_row, entry_row, list_octets}
use Rattle.layout.specs.Record.{lists_of, slot_octets, slot_says, slots_say, lists_in}
use Rattle.record_form.specs.declared.Announced.{Announced}

-- ---- a slot

-- the first octet of a value that is there, by what stands in its place
abbrev pub mark_of : Kind → ℕ → ℕ
mark_of kind.Carried x = 1
mark_of kind.Mme x = 1
mark_of kind.Mce x = 1
mark_of kind.Tmgi x = 1
mark_of kind.OneOctet x = 1
mark_of kind.TwoOctets x = 1
mark_of kind.Cause x = 1
mark_of kind.Wait x = 1
mark_of kind.Name x = 1
mark_of kind.ResetType x = pick (eqb x 2) 2 1
mark_of kind.Acknowledged x = 1
mark_of (kind.Diagnostics t) x = 1

-- how many octets of a slot its value uses, with the first
abbrev pub used_by : Kind → ℕ
used_by kind.Carried = 5
used_by kind.Mme = 3
used_by kind.Mce = 3
used_by kind.Tmgi = 7
used_by kind.OneOctet = 2
used_by kind.TwoOctets = 3
used_by kind.Cause = 3
used_by kind.Wait = 2
used_by kind.Name = 5
used_by kind.ResetType = 1
used_by kind.Acknowledged = 1
used_by (kind.Diagnostics t) = 8

abbrev pub maybe_good : ℕ → ℕ → Bool
maybe_good there v = pick (eqb there 0) (eqb v 0) (eqb there 1)

-- the head of diagnostics, in the slot that p begins with
unfoldable pub head_good : List ℕ → Bool
head_good p =
    maybe_good (get_or p 1 0) (get_or p 2 0) && (maybe_good (get_or p 3 0) (get_or p 4 0) && (maybe_good (get_or p 5 0) (get_or p 6 0) && ltb (get_or p 7 0) 2))

abbrev pub head_of : Kind → List ℕ → Bool
head_of kind.Carried p = true
head_of kind.Mme p = true
head_of kind.Mce p = true
head_of kind.Tmgi p = true
head_of kind.OneOctet p = true
head_of kind.TwoOctets p = true
head_of kind.Cause p = true
head_of kind.Wait p = true
head_of kind.Name p = true
head_of kind.ResetType p = true
head_of kind.Acknowledged p = true
head_of (kind.Diagnostics t) p = head_good p

-- what stands behind the first octet of a value that is there
unfoldable pub rest_good : Kind → List ℕ → Bool
rest_good k p = same (replicate (8 - used_by k) 0) (take (8 - used_by k) (drop (used_by k) p)) && head_of k p

-- the slot that p begins with is that of what it says; the lists do not stand in it
unfoldable pub slot_good : Kind → List ℕ → Bool
slot_good k p = same (slot_octets (unless0 p absent (given (slot_says (record { items = []; entries = [] }) k p)))) (take 8 p)

abbrev pub says_items : Kind → ℕ → Bool
says_items kind.Carried x = false
says_items kind.Mme x = false
says_items kind.Mce x = false
says_items kind.Tmgi x = false
says_items kind.OneOctet x = false
says_items kind.TwoOctets x = false
says_items kind.Cause x = false
says_items kind.Wait x = false
says_items kind.Name x = false
says_items kind.ResetType x = eqb x 2
says_items kind.Acknowledged x = not (eqb x 0)
says_items (kind.Diagnostics t) x = false

abbrev pub says_entries : Kind → ℕ → ℕ → Bool
says_entries kind.Carried x y = false
says_entries kind.Mme x y = false
says_entries kind.Mce x y = false
says_entries kind.Tmgi x y = false
says_entries kind.OneOctet x y = false
says_entries kind.TwoOctets x y = false
says_entries kind.Cause x y = false
says_entries kind.Wait x y = false
says_entries kind.Name x y = false
says_entries kind.ResetType x y = false
says_entries kind.Acknowledged x y = false
says_entries (kind.Diagnostics t) x y = pick (eqb x 0) false (not (eqb y 0))

-- ---- the slots of a table's rows, behind some that announce items, or entries, or do not

abbrev pub Form : Type 0
Form = Option Announced

unfoldable pub form_from : Bool → Bool → List Row → List ℕ → Form
form_from items entries [] p = Some (record { items = items; entries = entries })
form_from items entries (r ∷ t) p =
    pick (slot_good r.kind p)
    (form_from (items || says_items r.kind (get_or p 0 0)) (entries || says_entries r.kind (get_or p 0 0) (get_or p 7 0)) t (drop 8 p)) None

-- ---- a record behind its first two octets

unfoldable pub formed : List Row → List ℕ → Bool
formed t s =
    let vs = slots_say (lists_in s) t (drop 2 s) in
    same (fill 0 96 (each_octets slot_octets vs) ++ (list_octets 1536 item_row (lists_of vs).items ++ list_octets 1024 entry_row (lists_of vs).entries)) (drop 2 s)

-- n octets from a place on are zero
abbrev pub zeros_at : List ℕ → ℕ → ℕ → Bool
zeros_at s from n = same (replicate n 0) (take n (drop from s))

-- the items, and the entries, where they are announced
abbrev pub items_part : List ℕ → Bool → Bool
items_part s said = same (list_octets 1536 item_row (pick said (lists_in s).items [])) (slice 98 1636 s)

abbrev pub entries_part : List ℕ → Bool → Bool
entries_part s said = same (list_octets 1024 entry_row (pick said (lists_in s).entries [])) (drop 1636 s)

-- behind the slots of n rows: zeros, and the lists
abbrev pub behind_slots : ℕ → List ℕ → Form → Bool
behind_slots n s (Some a) = zeros_at s (2 + 8 * n) (96 - 8 * n) && (items_part s a.items && entries_part s a.entries)
behind_slots n s None = false
