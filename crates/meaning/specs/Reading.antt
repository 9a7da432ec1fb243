-- Reading a value by its kind: the one definition that the fault check and the record both use.
-- A carried value is read as its place; what is not there, or cannot be read, is absent.
use Rattle.std.specs.Prelude.{ℕ, List, [], ◌∷◌, take, Ok, Err}
use Rattle.lists.specs.Lists.{pick}
use Rattle.octets.specs.Read.{Read, ◌>>=◌}
use Rattle.octets.specs.declared.Span.{Span}
use Rattle.octets.specs.Span.{present}
use Rattle.values.specs.Values.{mme_at, mce_at, tmgi_at, one_at, two_at, cause_at, wait_at}
use Rattle.names.specs.Names.{name_at}
use Rattle.items.specs.Items.{items_at, reset_at}
use Rattle.diagnostics.specs.Diagnostics.{diagnostics_at}
use Rattle.rows.specs.declared.Kind.{Kind}
use Rattle.rows.specs.declared.Kind.TheVariants as kind
use Rattle.rows.specs.declared.Row.{Row}
use Rattle.rows.specs.Table.{meanings}
use Rattle.meaning.specs.Value.{Value, Given, given, absent, carried, mme, mce, tmgi, one, two, cause, wait, name, reset, list, diagnostics}

-- a reading of the octets of a value, which end with it
abbrev pub within : {A : Type 0} → (List ℕ → ℕ → Read A) → (A → Value Span) → List ℕ → Span → Read (Value Span)
within reading is s v = reading (take v.to s) v.from >>= λ x. Ok (is x)

-- the value that stands at a place in s
unfoldable pub read_as : Kind → List ℕ → Span → Read (Value Span)
read_as kind.Carried s v = Ok (carried v)
read_as kind.Mme s v = within mme_at mme s v
read_as kind.Mce s v = within mce_at mce s v
read_as kind.Tmgi s v = within tmgi_at tmgi s v
read_as kind.OneOctet s v = within one_at one s v
read_as kind.TwoOctets s v = within two_at two s v
read_as kind.Cause s v = within cause_at cause s v
read_as kind.Wait s v = within wait_at wait s v
read_as kind.Name s v = within name_at name s v
read_as kind.ResetType s v = within reset_at reset s v
read_as kind.Acknowledged s v = within items_at list s v
read_as (kind.Diagnostics t) s v = within (diagnostics_at (meanings t)) (diagnostics t) s v

-- the record: for each row the value at its place
abbrev pub or_absent : Read (Value Span) → Given Span
or_absent (Ok v) = given v
or_absent (Err x) = absent

unfoldable pub value_in : Kind → List ℕ → Span → Given Span
value_in k s v = pick (present v) (or_absent (read_as k s v)) absent

unfoldable pub values_in : List Row → List ℕ → List Span → List (Given Span)
values_in [] s l = []
values_in (r ∷ t) s [] = []
values_in (r ∷ t) s (v ∷ l) = value_in r.kind s v ∷ values_in t s l
