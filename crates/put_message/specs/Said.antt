-- Scaffolding: no demand speaks of it. What a lent record says with the octets lent beside it, row by row.
use Rattle.std.specs.Prelude.{ℕ, ◌+◌, ◌*◌, ◌<◌, ◌≤◌, ◌≡◌, List, [], map, eqb, get_or, drop, None, Option, Some}
use Rattle.lists.specs.Lists.{pick}
use Rattle.identity.specs.declared.Tmgi.{Tmgi}
use Rattle.identity.specs.declared.Item.{Item}
use Rattle.values.specs.declared.Cause.{Cause}
use Rattle.items.specs.Items.{ResetType, whole, part}
use Rattle.diagnostics.specs.declared.Head.{Head}
use Rattle.diagnostics.specs.Diagnostics.{Diagnostics}
use Rattle.rows.specs.declared.Kind.{Kind}
use Rattle.rows.specs.declared.Row.{Row}
use Rattle.rows.specs.Table.{no_row}
use Rattle.editions.specs.declared.Edition.{Edition}
use Rattle.editions.specs.declared.Message.{Message}
use Rattle.editions.specs.Editions.{table_of}
use Rattle.meaning.specs.Value.{Value, Given, given, absent, octets_in, on_carried, on_given}
use Rattle.meaning.specs.Written.{Encoded, none, encoded}
use Rattle.layout.specs.Record.{lists_in, slot_says, slots_say}
use Rattle.record_form.specs.Form.{formed}
use Rattle.plan.specs.Plan.{size_given}

-- ---- what a slot says that p begins with, by what the code has of it

abbrev pub cause_in : List ℕ → Cause
cause_in p = record { group = get_or p 1 0; value = get_or p 2 0 }

abbrev pub tmgi_in : List ℕ → Tmgi
tmgi_in p = record {
  plmn = record { 0 = get_or p 1 0; 1 = get_or p 2 0; 2 = get_or p 3 0 };
  service = record { 0 = get_or p 4 0; 1 = get_or p 5 0; 2 = get_or p 6 0 };
}

abbrev pub number_by : ℕ → ℕ → Option ℕ
number_by there v = pick (eqb there 0) None (Some v)

abbrev pub said_items : List ℕ → List Item
said_items s = (lists_in s).items

abbrev pub reset_type_by : ℕ → List Item → ResetType
reset_type_by there is = pick (eqb there 2) (part is) whole

abbrev pub diagnostics_by : Head → List ℕ → Diagnostics
diagnostics_by h s = record { head = h; entries = pick h.listed (lists_in s).entries [] }

-- ---- the value of a slot, by its row's kind, and those of a table's rows

unfoldable pub value_by : List ℕ → List ℕ → Kind → List ℕ → Value (List ℕ)
value_by values s k p = on_carried (octets_in values) (slot_says (lists_in s) k p)

unfoldable pub given_by : List ℕ → List ℕ → Kind → List ℕ → Given (List ℕ)
given_by values s k p = pick (eqb (get_or p 0 0) 0) absent (given (value_by values s k p))

unfoldable pub said_in : List ℕ → List ℕ → List Row → List (Given (List ℕ))
said_in values s t = map (on_given (octets_in values)) (slots_say (lists_in s) t (drop 2 s))

-- the size of a row's value is known, and it is written
pub record Ready (values s : List ℕ) (t : List Row) (ns : List ℕ) (i : ℕ) : Type 0 where
  pub crit : (get_or t i no_row).crit < 4
  pub size : get_or ns i 0 ≡ size_given (given_by values s (get_or t i no_row).kind (drop (2 + 8 * i) s))
  pub fits : get_or ns i 0 ≤ 8192

-- the octets of a message that a record's octets say, whatever number and criticality stand in front
unfoldable pub encoded_as : Edition → Message → List ℕ → List ℕ → Encoded
encoded_as e m s values = pick (formed (table_of e m) s) (encoded e (record { message = m; values = said_in values s (table_of e m) })) none
