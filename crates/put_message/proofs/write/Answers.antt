-- `put_message::write` meets its contract: by the number of octets, their criticality and their number. Assumes nothing.
use Rattle.std.specs.Prelude.{Err, None, Some}
use Rattle.plan.specs.declared.Unwritten.TheVariants.{NotWritten}
use mathlib.Core.Path.{◌≡◌, ◌∙◌, sym}
use Rattle.std.proofs.Common.{rules}
use Rattle.put_message.proofs.Messages.{writes_none, writes_as, written_size, written_crit, written_other, written_by_lem}
use Rattle.put_message.proofs.write.Goals as goal

pub returns-then-s-ne2662 : goal.returns-then-s-ne2662
returns-then-s-ne2662 c = let a = c.args in writes_none a.room.now (written_size a.e a.s.now a.values.now c.if-s-ne2662.true)

pub returns-then-s-gt2 : goal.returns-then-s-gt2
returns-then-s-gt2 c = let a = c.args in writes_none a.room.now (written_crit a.e a.s.now a.values.now c.if-s-gt2.true)

pub returns-in_err-m : goal.returns-in_err-m
returns-in_err-m c =
    let a = c.args in
    let e : c.numbered.result ≡ None = search rules in
    let r : c.from_residual.result ≡ Err NotWritten = search rules in
    rw r (writes_none a.room.now (written_other a.e a.s.now a.values.now (sym c.numbered.ensures ∙ e)))

pub returns : goal.returns
returns c =
    let a = c.args in
    let e : c.numbered.result ≡ Some c.in_ok-m.m = search rules in
    writes_as a.room.now (written_by_lem a.e a.s.now a.values.now c.if-s-ne2662.false c.if-s-gt2.false (sym c.numbered.ensures ∙ e)) c.write_as.ensures
