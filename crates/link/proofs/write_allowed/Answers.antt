-- By what the writer answered, whose number of octets is small.
use mathlib.Core.Path.{refl, ap, ◌∙◌}
use Rattle.std.specs.Prelude.{Err}
use Rattle.link.proofs.Reading.{octets_small, put_written}
use Rattle.link.proofs.write_allowed.Goals as goal

pub overflow_cast-result : goal.overflow_cast-result
overflow_cast-result c = let a = c.args in record { fits = octets_small a.e a.said.now a.values.now a.room.now c.write.ensures c.in-Ok.is }

pub returns-in-Ok : goal.returns-in-Ok
returns-in-Ok c = let a = c.args in put_written a.e a.said.now a.values.now a.room.now c.write.ensures c.in-Ok.is refl

pub returns-in-Err-NoRoom : goal.returns-in-Err-NoRoom
returns-in-Err-NoRoom c = let a = c.args in let i = c.in-Err-NoRoom in put_written a.e a.said.now a.values.now a.room.now c.write.ensures (i.is ∙ ap Err i.field-0-is) c.plain.ensures

pub returns-in-Err-NotWritten : goal.returns-in-Err-NotWritten
returns-in-Err-NotWritten c = let a = c.args in let i = c.in-Err-NotWritten in put_written a.e a.said.now a.values.now a.room.now c.write.ensures (i.is ∙ ap Err i.field-0-is) c.plain-in-Err-NotWritten.ensures
