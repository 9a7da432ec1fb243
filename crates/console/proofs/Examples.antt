-- Runs and what the console answers, computed.
use mathlib.Core.Path.{◌≡◌, refl}
use mathlib.Core.Bool.{true}
use mathlib.Core.List.{List, [], ◌∷◌, map}
use Prim.Native.Nat.{ℕ}
use lib.ListN.{replicate}
use Rattle.table.specs.Table.{distinct_held}
use Rattle.console.specs.Console.{tmgi_of, carried_out, no_table, is_table, counted, counted_run}
use Rattle.console.specs.declared.TmgiOctets.{TmgiOctets}
use Rattle.console.specs.declared.Record.{Record}
use Rattle.console.specs.declared.Counted.{Counted}

abbrev tmgi : ℕ → TmgiOctets
tmgi s = record { plmn = record { 0 = 1; 1 = 2; 2 = 3 }; service = record { 0 = 4; 1 = 5; 2 = s } }

abbrev on : ℕ → ℕ → ℕ → ℕ → Record
on k m c s = record { mme = record { 0 = m }; mce = record { 0 = c }; tmgi = tmgi s; flag = true; session = 7; link = k }

abbrev held : ℕ → ℕ → ℕ → Record
held = on 0

abbrev examples : List (List Record × Counted)
examples =
    ([], carried_out 0)
    ∷ (held 1 2 6 ∷ [], carried_out 1)
    -- another last octet is another TMGI; a number may stand in both series
    ∷ (held 1 2 6 ∷ held 2 1 7 ∷ held 3 3 6 ∷ [], carried_out 2)
    ∷ (held 1 2 7 ∷ [], carried_out 0)
    -- one identity shared, also by associations that are not counted; over 256
    ∷ (held 1 2 6 ∷ held 1 3 6 ∷ [], no_table)
    ∷ (held 1 2 6 ∷ held 2 2 7 ∷ [], no_table)
    ∷ (held 1 2 7 ∷ held 1 3 7 ∷ [], no_table)
    ∷ (replicate 257 (held 1 2 7), no_table)
    -- a link that there is not, also of an association that is not counted
    ∷ (on 1 1 2 6 ∷ [], no_table)
    ∷ (held 1 2 6 ∷ on 255 2 3 7 ∷ [], no_table)
    ∷ []

abbrev answer : List Record × Counted → Counted
answer e = counted_run (tmgi_of (tmgi 6)) e.0

abbrev expected : List Record × Counted → Counted
expected e = e.1

pub answers_are : map answer examples ≡ map expected examples
unfolding counted_run counted is_table distinct_held
answers_are = refl
