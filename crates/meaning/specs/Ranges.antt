-- What the types let anyone hand over: numbers of one octet or two, and for each row a value of its kind.
-- The values of a lent record are so by how it is read, and those of a reply by its table.
use Rattle.std.specs.Prelude.{ℕ, ◌<◌, ◌≡◌, false, List, [], ◌∷◌}
use Rattle.octets.specs.Stands.{Octets}
use Rattle.octets.specs.Many.{Each}
use Rattle.items.specs.Items.{ResetType, whole, part}
use Rattle.items.specs.Written.{GoodItem}
use Rattle.entries.specs.declared.Entry.{Entry}
use Rattle.diagnostics.specs.Diagnostics.{Diagnostics}
use Rattle.diagnostics.specs.Written.{Under}
use Rattle.rows.specs.declared.Kind.{Kind}
use Rattle.rows.specs.declared.Kind.TheVariants as kind
use Rattle.rows.specs.declared.Row.{Row}
use Rattle.meaning.specs.Value.{Value, Given, given, absent, carried, mme, mce, tmgi, one, two, cause, wait, name, reset, list, diagnostics}

abbrev pub value_kind : {C : Type 0} → Value C → Kind
value_kind (carried os) = kind.Carried
value_kind (mme v) = kind.Mme
value_kind (mce v) = kind.Mce
value_kind (tmgi v) = kind.Tmgi
value_kind (one v) = kind.OneOctet
value_kind (two v) = kind.TwoOctets
value_kind (cause v) = kind.Cause
value_kind (wait v) = kind.Wait
value_kind (name v) = kind.Name
value_kind (reset v) = kind.ResetType
value_kind (list v) = kind.Acknowledged
value_kind (diagnostics t v) = kind.Diagnostics t

abbrev pub ResetRange : ResetType → Type 0
ResetRange whole = Unit
ResetRange (part is) = Each GoodItem is

-- entries only where a list is there
pub record DiagnosticsRange (d : Diagnostics) : Type 0 where
  pub code : Under 256 d.head.code
  pub ids : Each (λ (e : Entry). e.id < 65536) d.entries
  pub none : d.head.listed ≡ false → d.entries ≡ []

abbrev pub InRange : Value (List ℕ) → Type 0
InRange (carried os) = Octets os
InRange (mme v) = v.0 < 65536
InRange (mce v) = v.0 < 65536
InRange (tmgi v) =
    (v.plmn.0 < 256) × (v.plmn.1 < 256) × (v.plmn.2 < 256)
    × (v.service.0 < 256) × (v.service.1 < 256) × (v.service.2 < 256)
InRange (one v) = v < 256
InRange (two v) = v < 65536
InRange (cause v) = Unit
InRange (wait v) = Unit
InRange (name os) = Octets os
InRange (reset v) = ResetRange v
InRange (list v) = Each GoodItem v
InRange (diagnostics t v) = DiagnosticsRange v

abbrev pub RowRange : Row → Given (List ℕ) → Type 0
RowRange r (given v) = (value_kind v ≡ r.kind) × InRange v
RowRange r absent = Unit

-- a value, or none, for each row
unfoldable pub Ranged : List Row → List (Given (List ℕ)) → Type 0
Ranged [] [] = Unit
Ranged [] (v ∷ vs) = ⊥
Ranged (r ∷ t) [] = ⊥
Ranged (r ∷ t) (v ∷ vs) = RowRange r v × Ranged t vs
