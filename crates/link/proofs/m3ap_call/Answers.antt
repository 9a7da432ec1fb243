-- `link::m3ap_call` meets its contract. The call's answer as numbers, which are small. Assumes nothing.
use Rattle.editions.specs.declared.Edition.TheVariants.{Release18}
use Rattle.link.proofs.Sizes.{place_fits, octets_fit, handed}
use Rattle.link.proofs.m3ap_call.Goals as goal

pub overflow_cast-result : goal.overflow_cast-result
overflow_cast-result c = let a = c.args in record { fits = place_fits Release18 a.unit.now (record { message = a.message.now; offered = record { 0 = a.offered }; room = a.room.now }) c.call-b.ensures _ c.place_of.ensures }

pub overflow_cast-result-2 : goal.overflow_cast-result-2
overflow_cast-result-2 c = let a = c.args in record { fits = octets_fit Release18 a.unit.now (record { message = a.message.now; offered = record { 0 = a.offered }; room = a.room.now }) c.call-b.ensures }

pub returns : goal.returns
returns c = let a = c.args in handed Release18 a.unit.now (record { message = a.message.now; offered = record { 0 = a.offered }; room = a.room.now }) c.call-b.ensures _ _ _ c.number_of.ensures c.place_of.ensures c.wait_of.ensures
