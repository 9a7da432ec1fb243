-- For each public function: any two results that its statement allows are equal, with what is left behind the `&mut`.
-- Assumes nothing.
use mathlib.Core.Path.{refl}
use Rattle.lists.proofs.Unique.{Determined, ◌same◌, ◌&◌}
use Rattle.entry_rows.proofs.entries_out.Kinds as entries_out'
use Rattle.entry_rows.proofs.entries_out.Reads as entries_out
use Rattle.entry_rows.proofs.said_entries.Kinds as said_entries'
use Rattle.entry_rows.proofs.said_entries.Reads as said_entries
use Rattle.entry_rows.proofs.entries_said.Kinds as entries_said'
use Rattle.entry_rows.proofs.entries_said.Reads as entries_said
use Rattle.entry_rows.proofs.are_said_good.Kinds as are_said_good'
use Rattle.entry_rows.proofs.are_said_good.Reads as are_said_good
use Rattle.entry_rows.proofs.are_entries.Kinds as are_entries'
use Rattle.entry_rows.proofs.are_entries.Reads as are_entries
use Rattle.entry_rows.proofs.no_entries_said.Kinds as no_entries_said'
use Rattle.entry_rows.proofs.no_entries_said.Reads as no_entries_said

pub entries_out_is : Determined entries_out'.ps entries_out'.r entries_out.Asked entries_out.Learnt
entries_out_is κs a p x y e f = (e.next same f.next) & (e.octets same f.octets) & refl

pub said_entries_is : Determined said_entries'.ps said_entries'.r said_entries.Asked said_entries.Learnt
said_entries_is κs a p x y e f = (e same f) & refl

pub entries_said_is : Determined entries_said'.ps entries_said'.r entries_said.Asked entries_said.Learnt
entries_said_is κs a p x y e f = (e.0 same f.0) & refl & (e.1 same f.1) & refl

pub are_said_good_is : Determined are_said_good'.ps are_said_good'.r are_said_good.Asked are_said_good.Learnt
are_said_good_is κs a p x y e f = (e same f) & refl

pub are_entries_is : Determined are_entries'.ps are_entries'.r are_entries.Asked are_entries.Learnt
are_entries_is κs a p x y e f = (e same f) & refl

pub no_entries_said_is : Determined no_entries_said'.ps no_entries_said'.r no_entries_said.Asked no_entries_said.Learnt
no_entries_said_is κs a p x y e f = (e same f) & refl
