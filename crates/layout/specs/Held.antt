-- Scaffolding: no demand speaks of it. What a record for C can hold, so that nothing of it is cut: places and numbers of two octets, lists of at most 256.
use Rattle.std.specs.Prelude.{◌-◌, ◌<◌, ◌≤◌, ◌≡◌, true, false, List, [], ◌∷◌, length, Some}
use Rattle.octets.specs.declared.Span.{Span}
use Rattle.octets.specs.Many.{Each}
use Rattle.identity.specs.declared.Item.{Item}
use Rattle.items.specs.Items.{whole, part}
use Rattle.items.specs.Written.{GoodItem}
use Rattle.entries.specs.declared.Entry.{Entry}
use Rattle.diagnostics.specs.Diagnostics.{Diagnostics}
use Rattle.rows.specs.declared.Row.{Row}
use Rattle.editions.specs.declared.Edition.{Edition}
use Rattle.editions.specs.Editions.{table_of, number_of, numbered_by}
use Rattle.editions.specs.Lawful.{lawful}
use Rattle.meaning.specs.Value.{Value, Given, given, absent, carried, mme, mce, tmgi, one, two, cause, wait, name, reset, list, diagnostics, Record}
use Rattle.meaning.specs.Ranges.{value_kind}

pub record ItemsFit (is : List Item) : Type 0 where
  pub few : length is ≤ 256
  pub each : Each GoodItem is

pub record EntriesFit (es : List Entry) : Type 0 where
  pub few : length es ≤ 256
  pub each : Each (λ (e : Entry). e.id < 65536) es

-- entries only where a list is there
pub record DiagnosticsFit (d : Diagnostics) : Type 0 where
  pub entries : EntriesFit d.entries
  pub none : d.head.listed ≡ false → d.entries ≡ []

abbrev pub PlaceFits : Span → Type 0
PlaceFits v = (v.from < 65536) × (v.from ≤ v.to) × (v.to - v.from < 65536)

abbrev pub Fits : Value Span → Type 0
Fits (carried v) = PlaceFits v
Fits (name v) = PlaceFits v
Fits (mme v) = v.0 < 65536
Fits (mce v) = v.0 < 65536
Fits (tmgi v) = Unit
Fits (one v) = Unit
Fits (two v) = v < 65536
Fits (cause v) = Unit
Fits (wait v) = Unit
Fits (reset whole) = Unit
Fits (reset (part is)) = ItemsFit is
Fits (list is) = ItemsFit is
Fits (diagnostics t d) = DiagnosticsFit d

abbrev pub RowFits : Row → Given Span → Type 0
RowFits r (given v) = (value_kind v ≡ r.kind) × Fits v
RowFits r absent = Unit

-- a value of its kind, or none, for each row
abbrev pub RowsFit : List Row → List (Given Span) → Type 0
RowsFit [] [] = Unit
RowsFit [] (v ∷ vs) = ⊥
RowsFit (r ∷ t) [] = ⊥
RowsFit (r ∷ t) (v ∷ vs) = RowFits r v × RowsFit t vs

pub record Held (e : Edition) (r : Record) : Type 0 where
  pub message : numbered_by e (number_of e r.message) ≡ Some r.message
  pub table : lawful (table_of e r.message) ≡ true
  pub values : RowsFit (table_of e r.message) r.values
