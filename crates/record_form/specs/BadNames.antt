-- Scaffolding: no demand speaks of it. Which slots say a name that is not allowed.
use Rattle.std.specs.Prelude.{ℕ, Bool, false, not, ◌||◌, List, [], ◌∷◌, drop}
use Rattle.names.specs.Names.{name_allowed}
use Rattle.rows.specs.declared.Kind.{Kind}
use Rattle.rows.specs.declared.Kind.TheVariants as kind
use Rattle.rows.specs.declared.Row.{Row}
use Rattle.meaning.specs.Value.{octets_in}
use Rattle.layout.specs.Rows.{unless0}
use Rattle.layout.specs.Record.{place_in}

-- a name's slot, which p begins with
unfoldable pub name_bad : List ℕ → List ℕ → Bool
name_bad values p = unless0 p false (not (name_allowed (octets_in values (place_in p))))

-- a slot, by its row's kind
abbrev pub slot_bad : List ℕ → Kind → List ℕ → Bool
slot_bad values kind.Name p = name_bad values p
slot_bad values kind.Carried p = false
slot_bad values kind.Mme p = false
slot_bad values kind.Mce p = false
slot_bad values kind.Tmgi p = false
slot_bad values kind.OneOctet p = false
slot_bad values kind.TwoOctets p = false
slot_bad values kind.Cause p = false
slot_bad values kind.Wait p = false
slot_bad values kind.ResetType p = false
slot_bad values kind.Acknowledged p = false
slot_bad values (kind.Diagnostics t) p = false

-- one of the slots of a table's rows
unfoldable pub slots_bad : List ℕ → List Row → List ℕ → Bool
slots_bad values [] p = false
slots_bad values (r ∷ t) p = slot_bad values r.kind p || slots_bad values t (drop 8 p)
