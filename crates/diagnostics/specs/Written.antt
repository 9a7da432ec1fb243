-- The octets of Criticality Diagnostics. Fields of bits follow each other from the top of an octet on, and the bits behind the last are pad,
-- which is zero. A number is written modulo what its field holds; it fits there if the value is good.
use Rattle.std.specs.Prelude.{ℕ, ◌-◌, ◌%◌, ◌<◌, ◌≤◌, Bool, true, false, ◌≡◌, List, [], ◌∷◌, ◌++◌, map, length, ltb, None, Option, Some}
use Rattle.std.specs.Option.{is_some}
use Rattle.lists.specs.Lists.{pick}
use Rattle.octets.specs.Many.{Each}
use Rattle.packed.specs.Packed.{Field, ◌bits◌, bit, widths, packed}
use Rattle.octets.specs.Write.{number_octets}
use Rattle.entries.specs.declared.Entry.{Entry}
use Rattle.diagnostics.specs.declared.Head.{Head}
use Rattle.diagnostics.specs.declared.Marks.{Marks}
use Rattle.diagnostics.specs.Diagnostics.{Diagnostics}

abbrev pub has_number : Option ℕ → Bool
has_number n = is_some n

abbrev pub marks_of : Head → Marks
marks_of h = record { code = has_number h.code; trigger = has_number h.trigger; crit = has_number h.crit; listed = h.listed }

-- extension, what is there, extensions present
abbrev pub marks : Marks → List Bool
marks m = false ∷ m.code ∷ m.trigger ∷ m.crit ∷ m.listed ∷ false ∷ []

abbrev pub present_number : Option ℕ → List ℕ
present_number (Some v) = v ∷ []
present_number None = []

abbrev pub octet_of : List Field → List ℕ
octet_of [] = []
octet_of (f ∷ fs) = packed (f ∷ fs) ∷ []

-- numbers of two bits each, behind other fields of an octet; behind a full octet begins the next
unfoldable pub pairs : List Field → List ℕ → List ℕ
pairs us [] = octet_of us
pairs us (v ∷ vs) =
    let fs = us ++ 2 bits (v % 4) ∷ [] in
    pick (ltb (widths fs) 8) (pairs fs vs) (packed fs ∷ pairs [] vs)

-- a code has an octet of its own, behind the pad of the first
abbrev pub with_code : Option ℕ → List Field → List ℕ → List ℕ
with_code (Some v) us vs = packed us ∷ number_octets 1 v ++ pairs [] vs
with_code None us vs = pairs us vs

unfoldable pub head_octets : Head → List ℕ
head_octets h = with_code h.code (map bit (marks (marks_of h))) (present_number h.trigger ++ present_number h.crit)

-- an entry up to its criticality: extension, extensions present, criticality
abbrev pub crit_fields : ℕ → List Field
crit_fields v = bit false ∷ bit false ∷ 2 bits (v % 4) ∷ []

-- an entry behind its id: extension, type of error
abbrev pub error_fields : ℕ → List Field
error_fields v = bit false ∷ 1 bits (v % 2) ∷ []

-- entries, the first behind the fields of an octet, each other behind the type of error before it
unfoldable pub entries_octets : List Field → List Entry → List ℕ
entries_octets us [] = packed us ∷ []
entries_octets us (e ∷ es) = packed (us ++ crit_fields e.crit) ∷ number_octets 2 e.id ++ entries_octets (error_fields e.error) es

-- the number of entries less 1, and the entries
abbrev pub entry_list_octets : Bool → List Entry → List ℕ
entry_list_octets false es = []
entry_list_octets true es = number_octets 1 (length es - 1) ++ entries_octets [] es

unfoldable pub diagnostics_octets : Diagnostics → List ℕ
diagnostics_octets d = head_octets d.head ++ entry_list_octets d.head.listed d.entries

-- ---- good values: each number fits its field and has a meaning, one of n for the triggering message

abbrev pub Under : ℕ → Option ℕ → Type 0
Under n (Some v) = v < n
Under n None = Unit

pub record GoodEntry (e : Entry) : Type 0 where
  pub crit : e.crit < 3
  pub id : e.id < 65536
  pub error : e.error < 2

pub record GoodHead (n : ℕ) (h : Head) : Type 0 where
  pub code : Under 256 h.code
  pub trigger : Under n h.trigger
  pub crit : Under 3 h.crit

-- a list is there exactly if it has an entry; it has at most 256
pub record GoodDiagnostics (n : ℕ) (d : Diagnostics) : Type 0 where
  pub head : GoodHead n d.head
  pub entries : Each GoodEntry d.entries
  pub listed : d.head.listed ≡ ltb 0 (length d.entries)
  pub count : length d.entries ≤ 256
