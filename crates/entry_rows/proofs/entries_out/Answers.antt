-- `entry_rows::entries_out` meets its contract: where the gate is passed, the list is known by its number, and its count, its rows and zeros are put; else zeros.
-- Assumes nothing.
use mathlib.Core.Path.{◌≡◌, ◌∙◌, sym}
use Prim.Native.Nat.{◌+◌}
use lib.ListN.{length}
use Rattle.entries.specs.Entries.{list_at}
use Rattle.entry_rows.proofs.OneForm.{row_size}
use Rattle.entry_rows.proofs.Putting.{no_rows, none_there, passed, wrote_list, wrote_rows, wrote_stop, wrote_unread}
use Rattle.entry_words.proofs.Laws.{in_list, wrote_known}
use Rattle.layout.specs.Rows.{entry_row}
use Rattle.octets.proofs.Chain.{halt}
use Rattle.octets.specs.Many.{each_octets}
use Rattle.entry_rows.proofs.entries_out.Goals as goal

pub returns-then-not-there : goal.returns-then-not-there
returns-then-not-there c = rw (c.if-not-there.true, none_there c.args.s.now c.args.from) (rw (no_rows entry_row 1024) at c.put_zeros.ensures)

pub returns-then-is_err : goal.returns-then-is_err
returns-then-is_err c =
    rw c.if-not-there.false (wrote_unread entry_row 1024 (list_at c.args.s.now c.args.from) (rw c.list_gate.ensures at (sym c.is_err.ensures.value ∙ c.if-is_err.true)) c.put_zeros-then-is_err.ensures)

pub returns-in_default : goal.returns-in_default
unfolding list_at
returns-in_default c = rw c.if-not-there.false (wrote_stop entry_row 1024 (halt _ c.in_default.ensures) c.put_zeros-in_default.ensures)

pub returns : goal.returns
returns c = let a = c.args in
    let l = in_list a.s.now a.from c.in-Ok.ensures (passed (list_at a.s.now a.from) (rw c.list_gate.ensures at (sym c.is_err.ensures.value ∙ c.if-is_err.false))) in
    let q : c.from-n.result + 1 ≡ length l.0.value = rw c.from-n.ensures (sym l.3) in
    let w = wrote_known (each_octets entry_row) c.put_two-next.new.room c.put_two-next.result c.put_rows-last.new.room c.put_rows-last.result l.1 (rw c.from-n.ensures at c.put_rows-last.ensures) in
    rw c.if-not-there.false (wrote_list entry_row 1024 l.0.value l.2 (wrote_rows entry_row 4 1024 row_size l.0.value (rw q at c.put_two-next.ensures) w (rw q at c.put_zeros-2.ensures)))
