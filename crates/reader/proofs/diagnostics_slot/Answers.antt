-- Of Criticality Diagnostics that can be read, the fields before the list can be.
use Rattle.layout.specs.Record.{slot_of}
use Rattle.reader.proofs.Slots.{head_is, head_none}
use Rattle.reader.proofs.diagnostics_slot.Goals as goal

pub returns-in-Ok : goal.returns-in-Ok
unfolding slot_of
returns-in-Ok c = let x = head_is _ _ _ _ _ (rw c.meanings.ensures at c.in-Ok.ensures) c.requires in rw x.2 c.head_slot.ensures

pub returns-in-Err : goal.returns-in-Err
returns-in-Err c = head_none _ _ _ (rw c.meanings.ensures at c.in-Err.ensures) c.requires
