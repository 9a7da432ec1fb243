-- By what the reader answered: the record was put, or nothing was.
use mathlib.Core.Path.{ap, ◌∙◌}
use Rattle.std.specs.Prelude.{Err}
use Rattle.link.proofs.Reading.{put_read, refusal_small}
use Rattle.link.proofs.read_in.Goals as goal

pub refused-requires : goal.refused-requires
refused-requires c = let a = c.args in let i = c.in-Err-Refused in refusal_small a.e a.message.now a.room.now c.read.ensures (i.is ∙ ap Err i.field-0-is)

pub returns-in-Ok : goal.returns-in-Ok
returns-in-Ok c = let a = c.args in put_read a.e a.message.now a.room.now c.read.ensures c.in-Ok.is (rw c.outcome_number.ensures at c.recorded.ensures)

pub returns-in-Err-Refused : goal.returns-in-Err-Refused
returns-in-Err-Refused c = let a = c.args in let i = c.in-Err-Refused in put_read a.e a.message.now a.room.now c.read.ensures (i.is ∙ ap Err i.field-0-is) c.refused.ensures

pub returns-in-Err-NoRoom : goal.returns-in-Err-NoRoom
returns-in-Err-NoRoom c = let a = c.args in let i = c.in-Err-NoRoom in put_read a.e a.message.now a.room.now c.read.ensures (i.is ∙ ap Err i.field-0-is) c.plain.ensures
