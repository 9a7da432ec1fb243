-- What a unit shows to those who look: its rows one by one, how many of them have a TMGI, and its marks.
use Rattle.std.specs.Prelude.{ℕ, Bool, true, false, length, get_or, None, Option, Some}
use Rattle.lists.specs.Lists.{keep}
use Rattle.identity.specs.declared.Tmgi.{Tmgi}
use Rattle.table.specs.declared.Association.{Association}
use Rattle.table.specs.Table.{empty_association}
use Rattle.lent.specs.Lent.{session_octet}
use Rattle.units.specs.Unit.{MaybeUnit, is_unit, no_unit, open_octet}
use Rattle.console.specs.declared.TmgiOctets.{TmgiOctets}
use Rattle.console.specs.declared.Record.{Record}
use Rattle.console.specs.declared.Counted.{Counted}
use Rattle.console.specs.Console.{has_tmgi, carried_out, no_table}
use Rattle.view.specs.declared.Row.{Row}
use Rattle.view.specs.declared.Marks.{Marks}

abbrev pub has_session : Option ℕ → Bool
has_session (Some v) = true
has_session None = false

abbrev host_tmgi : Tmgi → TmgiOctets
host_tmgi t = record {
  plmn = record { 0 = t.plmn.0; 1 = t.plmn.1; 2 = t.plmn.2 };
  service = record { 0 = t.service.0; 1 = t.service.1; 2 = t.service.2 };
}

-- an association as the host has it, of the one link: the flag and the Session Identity, or no flag and 0
abbrev pub record_of : Association → Record
record_of a = record {
  mme = a.mme;
  mce = a.mce;
  tmgi = host_tmgi a.tmgi;
  flag = has_session a.session;
  session = session_octet a.session;
  link = 0;
}

-- how many are held, and the one at a place: all zeros where none is
abbrev pub row_for : MaybeUnit → ℕ → Row
row_for (is_unit u) k = record { answer = 0; held = length u.held; association = record_of (get_or u.held k empty_association) }
row_for no_unit k = record { answer = 21; held = 0; association = record_of empty_association }

-- how many of what is held have the TMGI
abbrev pub count_for : MaybeUnit → Tmgi → Counted
count_for (is_unit u) t = carried_out (length (keep (has_tmgi t) u.held))
count_for no_unit t = no_table

-- whether a setup request is open; edition 18 and room for 256; nothing else is remembered yet
abbrev pub marks_for : MaybeUnit → Marks
marks_for (is_unit u) = record { answer = 0; held = length u.held; held_1 = 0; «open» = open_octet u.is_open; open_1 = 0; edition = 18; rooms = 256; next = 0; settings = 0 }
marks_for no_unit = record { answer = 21; held = 0; held_1 = 0; «open» = 0; open_1 = 0; edition = 0; rooms = 0; next = 0; settings = 0 }
