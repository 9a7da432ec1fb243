-- Scaffolding: no demand speaks of it. What the definitions ask of a table: at most twelve rows, ids apart, and at most one row for what a record has one of.
-- One computed test for all tables of an edition (proofs/Tables.antt); no law looks into a table for another reason.
use Rattle.std.specs.Prelude.{ℕ, Bool, not, ◌&&◌, List, ltb, leb, eqb, length}
use Rattle.lists.specs.Lists.{keep, some, apart}
use Rattle.rows.specs.declared.Kind.{Kind}
use Rattle.rows.specs.declared.Kind.TheVariants as kind
use Rattle.rows.specs.declared.Row.{Row}
use Rattle.editions.specs.declared.Edition.{Edition}
use Rattle.editions.specs.declared.Message.{Message}
use Rattle.editions.specs.Editions.{table_of}

-- what a value of the kind fills, of which a record has one: a Reset Type and an acknowledgement share the items.
-- What is carried, and a number that is no identity, stands in its own slot alone, and a table may have several: 0
abbrev pub fills : Kind → ℕ
fills kind.Carried = 0
fills kind.Mme = 1
fills kind.Mce = 2
fills kind.Tmgi = 3
fills kind.OneOctet = 0
fills kind.TwoOctets = 0
fills kind.Cause = 4
fills kind.Wait = 5
fills kind.ResetType = 6
fills kind.Acknowledged = 6
fills (kind.Diagnostics t) = 7
fills kind.Name = 8

abbrev pub lawful : List Row → Bool
lawful t =
    leb (length t) 12
    && apart (λ (r q : Row). eqb r.id q.id) t
    && apart (λ (r q : Row). eqb (fills r.kind) (fills q.kind)) (keep (λ (r : Row). ltb 0 (fills r.kind)) t)

-- each of some messages, in an edition
abbrev pub all_lawful : Edition → List Message → Bool
all_lawful e ms = not (some (λ (m : Message). not (lawful (table_of e m))) ms)
