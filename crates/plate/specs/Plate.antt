-- The name on the plate.
-- "The MCE Name is 1 to 150 PrintableString characters here. Any other name is refused and never cut or replaced, so names that differ give requests that
-- differ. The console shows the name as a part of the request's octets where it has one, and otherwise a part of the default label text lent beside it, its
-- first 150 octets at most."
use Rattle.std.specs.Prelude.{ℕ, ◌≡◌, true, false, List, length, take}
use Rattle.octets.specs.Stands.{Octets}
use Rattle.editions.specs.declared.Edition.{Edition}
use Rattle.names.specs.Names.{name_allowed}
use Rattle.meaning.specs.Value.{said_by}
use Rattle.verdicts.specs.Verdict.{Verdict, refused, understood, every, read_of}
use Rattle.layout.specs.Record.{LentRecord, is_record, no_record, read_record}
use Rattle.units.specs.Unit.{Unit, is_unit, read_unit}
use Rattle.setup.specs.declared.SetupAnswer.TheVariants.{Opened, NameNotAllowed}
use Rattle.setup.specs.Setup.{Setup, setup}
use Rattle.shown.specs.Shown.{shown_of}
use Rattle.plate.specs.Name.{Name, called, nameless, name_among}

-- what the types let anyone hand over
pub record LentOctets (c : Setup) : Type 0 where
  pub said : Octets c.said
  pub values : Octets c.values

module _ (e : Edition) where
  -- the name handed over: that of the record, with the octets that lie beside it
  abbrev pub name_on : List ℕ → LentRecord → Name
  name_on values (is_record r) = name_among (said_by values r).values
  name_on values no_record = nameless

  abbrev pub name_handed : Setup → Name
  name_handed c = name_on c.values (read_record e c.said)

  -- the name that the reader finds
  abbrev pub name_found : List ℕ → Verdict → Name
  name_found q (understood u) = name_among (said_by q u.what).values
  name_found q (refused x) = nameless

  abbrev pub name_read : List ℕ → Name
  name_read q = name_found q (read_of e every q)

  -- a setup that was answered 0, with this request in the front of the room
  pub record Sent (t : List ℕ) (c : Setup) (q : List ℕ) : Type 0 where
    pub handed : LentOctets c
    pub answer : (setup e t c).answer ≡ Opened
    pub request : take (length (setup e t c).request) (setup e t c).room ≡ q

  -- With whatever units, records, values and rooms:
  pub record Plate : Type 0 where
    -- two setups whose names differ have requests that differ;
    pub different : (t z : List ℕ) (c d : Setup) (q r : List ℕ) → Sent t c q → Sent z d r → (name_handed c ≡ name_handed d → ⊥) → q ≡ r → ⊥
    -- the name read back from the request is the name handed over, octet for octet;
    pub back : (t : List ℕ) (c : Setup) (q : List ℕ) → Sent t c q → name_read q ≡ name_handed c
    -- it has 1 to 150 PrintableString characters;
    pub allowed : (t : List ℕ) (c : Setup) (q os : List ℕ) → Sent t c q → name_handed c ≡ called os → name_allowed os ≡ true
    -- any other name is refused, before anything else but 21.
    pub refused : (t : List ℕ) (c : Setup) (u : Unit) (os : List ℕ) → read_unit t ≡ is_unit u → name_handed c ≡ called os → name_allowed os ≡ false → (setup e t c).answer ≡ NameNotAllowed
    -- What is shown of a request is its name, and so what is shown of two requests whose names differ differs, whatever the labels;
    pub shows : (t : List ℕ) (c : Setup) (q os label : List ℕ) → Sent t c q → name_handed c ≡ called os → shown_of e q label ≡ os
    -- of one without a name the label, its first 150 octets at most
    pub label : (t : List ℕ) (c : Setup) (q l : List ℕ) → Sent t c q → name_handed c ≡ nameless → shown_of e q l ≡ take 150 l
