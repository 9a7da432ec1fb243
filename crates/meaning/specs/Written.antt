-- The octets of what a message says, and which messages have octets: those that 01's row 11 does not name.
-- One walk over the rows of the table: an element for each value that is there.
use Rattle.std.specs.Prelude.{ℕ, suc, Bool, true, false, not, ◌&&◌, List, [], ◌∷◌, ◌++◌, ltb, leb, length, None, Option, Some}
use Rattle.lists.specs.Lists.{pick, some}
use Rattle.packed.specs.Packed.{◌bits◌, bit, packed}
use Rattle.octets.specs.Write.{number_octets, length_octets}
use Rattle.values.specs.Values.{root_of}
use Rattle.values.specs.Written.{mme_octets, mce_octets, one_octets, two_octets, tmgi_octets, cause_octets, wait_octets}
use Rattle.names.specs.Names.{name_allowed}
use Rattle.names.specs.Written.{name_octets}
use Rattle.items.specs.Items.{ResetType, whole, part}
use Rattle.items.specs.Written.{acknowledgement_crit, items_octets, reset_octets}
use Rattle.entries.specs.declared.Entry.{Entry}
use Rattle.diagnostics.specs.Diagnostics.{Diagnostics}
use Rattle.diagnostics.specs.Written.{diagnostics_octets}
use Rattle.rows.specs.declared.Row.{Row}
use Rattle.rows.specs.Table.{meanings}
use Rattle.editions.specs.declared.Code.{Code}
use Rattle.editions.specs.declared.Edition.{Edition}
use Rattle.editions.specs.Editions.{table_of, code_of}
use Rattle.meaning.specs.Value.{Value, Given, given, absent, carried, mme, mce, tmgi, one, two, cause, wait, name, reset, list, diagnostics, Said}

-- ---- a value

-- the items of an acknowledgement have criticality ignore
unfoldable pub octets_of : Value (List ℕ) → List ℕ
octets_of (carried os) = os
octets_of (mme v) = mme_octets v
octets_of (mce v) = mce_octets v
octets_of (tmgi v) = tmgi_octets v
octets_of (one v) = one_octets v
octets_of (two v) = two_octets v
octets_of (cause v) = cause_octets v
octets_of (wait v) = wait_octets v
octets_of (name os) = name_octets os
octets_of (reset v) = reset_octets v
octets_of (list is) = items_octets acknowledgement_crit is
octets_of (diagnostics t d) = diagnostics_octets d

-- a list has 1 to 256
abbrev pub is_list_length : ℕ → Bool
is_list_length n = ltb 0 n && leb n 256

abbrev pub reset_good : ResetType → Bool
reset_good whole = true
reset_good (part is) = is_list_length (length is)

-- a number, if it is there, has one of n meanings
abbrev pub under : ℕ → Option ℕ → Bool
under n (Some v) = ltb v n
under n None = true

abbrev pub entry_good : Entry → Bool
entry_good e = ltb e.crit 3 && ltb e.error 2

abbrev pub entries_good : List Entry → Bool
entries_good es = is_list_length (length es) && not (some (λ (e : Entry). not (entry_good e)) es)

-- the triggering message has n meanings
abbrev pub diagnostics_good : ℕ → Diagnostics → Bool
diagnostics_good n d = under n d.head.trigger && under 3 d.head.crit && pick d.head.listed (entries_good d.entries) true

-- a carried value of 0 octets has none, nor has a number outside its field's root or range, nor a name that is not allowed, nor a list of 0 or over 256
unfoldable pub has_octets : Value (List ℕ) → Bool
has_octets (carried os) = ltb 0 (length os)
has_octets (mme v) = true
has_octets (mce v) = true
has_octets (tmgi v) = true
has_octets (one v) = true
has_octets (two v) = true
has_octets (cause c) = ltb c.value (root_of c.group)
has_octets (wait v) = ltb v 6
has_octets (name os) = name_allowed os
has_octets (reset r) = reset_good r
has_octets (list is) = is_list_length (length is)
has_octets (diagnostics t d) = diagnostics_good (meanings t) d

-- ---- a message

-- an element: the row's id and criticality, a length, the value
abbrev pub element_octets : Row → Given (List ℕ) → List ℕ
element_octets r (given v) = number_octets 2 r.id ++ (packed (2 bits r.crit ∷ []) ∷ (length_octets (length (octets_of v)) ++ octets_of v))
element_octets r absent = []

unfoldable pub elements_octets : List Row → List (Given (List ℕ)) → List ℕ
elements_octets [] vs = []
elements_octets (r ∷ t) [] = []
elements_octets (r ∷ t) (v ∷ vs) = element_octets r v ++ elements_octets t vs

unfoldable pub how_many : List (Given (List ℕ)) → ℕ
how_many [] = 0
how_many (given v ∷ vs) = suc (how_many vs)
how_many (absent ∷ vs) = how_many vs

-- no extension, and where a container can stand beside the elements, none; how many elements; the elements
unfoldable pub inside_octets : List Row → List (Given (List ℕ)) → List ℕ
inside_octets t vs = packed (bit false ∷ []) ∷ (number_octets 2 (how_many vs) ++ elements_octets t vs)

-- no extension, the kind; the procedure code; the criticality; a length, the message
abbrev pub frame_octets : Code → List ℕ → List ℕ
frame_octets c os = packed (bit false ∷ 2 bits c.kind ∷ []) ∷ c.code ∷ packed (2 bits c.crit ∷ []) ∷ (length_octets (length os) ++ os)

unfoldable pub message_octets : Edition → Said → List ℕ
message_octets e w = frame_octets (code_of e w.message) (inside_octets (table_of e w.message) w.values)

-- a mandatory element is there, and a value that is there has octets
abbrev pub element_good : Row → Given (List ℕ) → Bool
element_good r (given v) = has_octets v
element_good r absent = not r.mandatory

-- one for each row
unfoldable pub elements_good : List Row → List (Given (List ℕ)) → Bool
elements_good [] [] = true
elements_good [] (v ∷ vs) = false
elements_good (r ∷ t) [] = false
elements_good (r ∷ t) (v ∷ vs) = element_good r v && elements_good t vs

-- octets, or none: 11
pub data Encoded : Type 0 where
  octets : List ℕ → Encoded
  none : Encoded

-- the elements are good, and the message has at most 8,192 octets
abbrev pub is_written : Edition → Said → Bool
is_written e w = elements_good (table_of e w.message) w.values && leb (length (message_octets e w)) 8192

unfoldable pub encoded : Edition → Said → Encoded
encoded e w = pick (is_written e w) (octets (message_octets e w)) none
