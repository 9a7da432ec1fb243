-- What the console answers for a run of associations: 01's numbers 0 and 21.
use Rattle.std.specs.Prelude.{Bool, true, false, not, ◌&&◌, List, map, ℕ, eqb, leb, length, None, Option, Some}
use Rattle.lists.specs.Lists.{pick, keep, some}
use Rattle.identity.specs.declared.Tmgi.{Tmgi}
use Rattle.table.specs.declared.Association.{Association}
use Rattle.table.specs.Table.{State, distinct_held}
use Rattle.console.specs.declared.TmgiOctets.{TmgiOctets}
use Rattle.console.specs.declared.Record.{Record}
use Rattle.console.specs.declared.Counted.{Counted}

-- what a record of the host's stands for
abbrev pub tmgi_of : TmgiOctets → Tmgi
tmgi_of t = record {
  plmn = record { 0 = t.plmn.0; 1 = t.plmn.1; 2 = t.plmn.2 };
  service = record { 0 = t.service.0; 1 = t.service.1; 2 = t.service.2 };
}

abbrev session_by : Bool → ℕ → Option ℕ
session_by true s = Some s
session_by false s = None

abbrev pub stands_for : Record → Association
stands_for r = record {
  mme = r.mme;
  mce = r.mce;
  tmgi = tmgi_of r.tmgi;
  session = session_by r.flag r.session;
}

-- PLMN and service are equal, octet by octet
abbrev pub same_tmgi : Tmgi → Tmgi → Bool
same_tmgi a b =
    eqb a.plmn.0 b.plmn.0 && eqb a.plmn.1 b.plmn.1 && eqb a.plmn.2 b.plmn.2
    && eqb a.service.0 b.service.0 && eqb a.service.1 b.service.1 && eqb a.service.2 b.service.2

abbrev pub has_tmgi : Tmgi → Association → Bool
has_tmgi t a = same_tmgi a.tmgi t

-- 01's answers: 0 with the count; 21 where it is no table
abbrev pub carried_out : ℕ → Counted
carried_out n = record { answer = 0; count = n }

abbrev pub no_table : Counted
no_table = record { answer = 21; count = 0 }

-- at most 256, and no two share an identity of one series
unfoldable pub is_table : State → Bool
is_table l = leb (length l) 256 && distinct_held l

unfoldable pub counted : Tmgi → State → Counted
counted t l = pick (is_table l) (carried_out (length (keep (has_tmgi t) l))) no_table

-- of a link that there is not
abbrev pub elsewhere : Record → Bool
elsewhere r = not (eqb r.link 0)

-- a run with such a record is no table; any other is what its records stand for
unfoldable pub counted_run : Tmgi → List Record → Counted
counted_run t rs = pick (some elsewhere rs) no_table (counted t (map stands_for rs))
