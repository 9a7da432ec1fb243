-- What has a message has no name that is refused.
-- Assumes nothing.
use Prim.Native.Nat.{ℕ}
use mathlib.Core.Path.{◌≡◌, refl, sym, ap, ◌∙◌}
use mathlib.Core.Bool.{true, false, true≢false}
use mathlib.Core.List.{List, [], ◌∷◌}
use Rattle.lists.specs.Lists.{some}
use Rattle.lists.proofs.Tests.{and_left, and_right}
use Rattle.rows.specs.declared.Row.{Row}
use Rattle.editions.specs.declared.Edition.{Edition}
use Rattle.editions.specs.Editions.{table_of}
use Rattle.meaning.specs.Value.{Value, Given, given, absent, carried, mme, mce, tmgi, one, two, cause, wait, name, reset, list, diagnostics, Said, said_by}
use Rattle.meaning.specs.Written.{has_octets, element_good, elements_good, octets}
use Rattle.layout.specs.Record.{bad_name, name_refused_by, name_refused, written}
use Rattle.round_trips.proofs.Back.{has_octets_lem}
use Rattle.round_trips.proofs.LentDiffer.{lent_record}

value_named : (v : Value (List ℕ)) → has_octets v ≡ true → bad_name (given v) ≡ false
unfolding has_octets
value_named (name os) h = rw h
value_named (carried os) h = refl
value_named (mme v) h = refl
value_named (mce v) h = refl
value_named (tmgi v) h = refl
value_named (one v) h = refl
value_named (two v) h = refl
value_named (cause v) h = refl
value_named (wait v) h = refl
value_named (reset v) h = refl
value_named (list v) h = refl
value_named (diagnostics t v) h = refl

given_named : (r : Row) (v : Given (List ℕ)) → element_good r v ≡ true → bad_name v ≡ false
given_named r (given v) h = value_named v h
given_named r absent h = refl

elements_named : (t : List Row) (vs : List (Given (List ℕ))) → elements_good t vs ≡ true → some bad_name vs ≡ false
unfolding elements_good
elements_named [] [] h = refl
elements_named [] (v ∷ vs) h = absurd (true≢false (sym h))
elements_named (r ∷ t) [] h = refl
elements_named (r ∷ t) (v ∷ vs) h = rw (given_named r v (and_left (element_good r v) (elements_good t vs) h)) (elements_named t vs (and_right (element_good r v) (elements_good t vs) h))

pub written_named : (e : Edition) (s values os : List ℕ) → written e s values ≡ octets os → name_refused e s values ≡ false
unfolding name_refused
written_named e s values os q =
    let l = lent_record e s values os q in
    let w : Said = said_by values l.what in
    let h = has_octets_lem e w os l.message in
    ap (name_refused_by values) l.read ∙ elements_named (table_of e w.message) w.values (and_left (elements_good (table_of e w.message) w.values) _ h.0)
