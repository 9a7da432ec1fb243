-- Scaffolding: no demand speaks of it. What the steps of the putting ask of each other.
use Rattle.std.specs.Prelude.{ℕ, ◌<◌, ◌≤◌, ◌≡◌, Bool, true, false, List, ◌∷◌, length, get_or, Ok, Err, None, Option, Some}
use Rattle.std.proofs.lemmas.List.Edits.{sets}
use Rattle.octets.specs.Read.{Read, ◌>>=◌}
use Rattle.octets.specs.declared.Span.{Span}
use Rattle.octets.specs.Span.{no_span, present}
use Rattle.identity.specs.declared.Item.{Item}
use Rattle.items.specs.Items.{ResetType, whole, part, items_at}
use Rattle.entries.specs.Entries.{list_at}
use Rattle.rows.specs.declared.Kind.{Kind}
use Rattle.editions.specs.declared.Edition.{Edition}
use Rattle.rows.specs.declared.Row.{Row}
use Rattle.rows.specs.Table.{no_row}
use Rattle.meaning.specs.Value.{Value, Given, Record}
use Rattle.meaning.specs.Reading.{read_as, or_absent}
use Rattle.layout.specs.Record.{Lists, lists_of, slot_octets, record_octets}

-- something was read
abbrev pub Got : {A : Type 0} → Read A → Type 0
Got (Ok a) = Unit
Got (Err x) = ⊥

-- the value that a reading gives, and its slot
abbrev pub given_read : {A : Type 0} → (A → Value Span) → Read A → Given Span
given_read is r = or_absent (r >>= λ x. Ok (is x))

abbrev pub slot_by : {A : Type 0} → (A → Value Span) → Read A → List ℕ
slot_by is r = slot_octets (given_read is r)

-- a Reset Type that was read is a part of the interface, with the items that stand behind it, or the whole
abbrev pub ResetIs : Bool → Read ResetType → Read (List Item) → Type 0
ResetIs true r x = (is : List Item) × (r ≡ Ok (part is)) × (x ≡ Ok is)
ResetIs false r x = r ≡ Ok whole

-- a value stands inside s, and can be read as its kind says
pub record Legible (k : Kind) (s : List ℕ) (v : Span) : Type 0 where
  pub order : v.from ≤ v.to
  pub within : v.to ≤ length s
  pub value : Got (read_as k s v)

abbrev pub IfPresent : Kind → List ℕ → Span → Type 0
IfPresent k s v = present v ≡ true → Legible k s v

-- so can that of each row
abbrev pub AllLegible : List Row → List ℕ → List Span → Type 0
AllLegible t s l = (k : ℕ) → k < length t → IfPresent (get_or t k no_row).kind s (get_or l k no_span)

-- ---- where a list begins that a value announces

-- it can be read there, and is what is announced, whatever other values stand behind; nowhere: what they announce is
abbrev pub ListBegins : {A : Type 0} → (Lists → List A) → (List ℕ → ℕ → Read (List A)) → Given Span → List ℕ → Option ℕ → Type 0
ListBegins {A} of reading g s (Some at) = (l : List A) × (reading s at ≡ Ok l) × ((vs : List (Given Span)) → of (lists_of (g ∷ vs)) ≡ l)
ListBegins of reading g s None = (vs : List (Given Span)) → of (lists_of (g ∷ vs)) ≡ of (lists_of vs)

abbrev pub ItemsBegin : Given Span → List ℕ → Option ℕ → Type 0
ItemsBegin = ListBegins (λ (l : Lists). l.items) items_at

abbrev pub EntriesBegin : Given Span → List ℕ → Option ℕ → Type 0
EntriesBegin = ListBegins (λ (l : Lists). l.entries) list_at

-- ---- the record

-- the record's octets are put into the front of d, which is m then
abbrev pub PutIn : Edition → Record → List ℕ → List ℕ → Type 0
PutIn e r d m = m ≡ sets d 0 (record_octets e r)
