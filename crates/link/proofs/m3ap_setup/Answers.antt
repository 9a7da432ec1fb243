-- `link::m3ap_setup` meets its contract. The setup's answer as numbers, which are small. Assumes nothing.
use mathlib.Core.Path.{◌≡◌, ap, ◌∙◌}
use native.Mathlib.Omega.{arith}
use Rattle.editions.specs.declared.Edition.TheVariants.{Release18}
use Rattle.setup.specs.Setup.{setup_number, setup}
use Rattle.link.proofs.SetsUpAs.{request_small}
use Rattle.link.proofs.m3ap_setup.Goals as goal

pub overflow_cast-result : goal.overflow_cast-result
overflow_cast-result c = let a = c.args in record { fits = let s = request_small a.unit.now (record { said = a.said.now; values = a.values.now; room = a.room.now }) in let q = c.set_up-b.ensures.octets in omega (arith, s, q) }

pub returns : goal.returns
returns c = let a = c.args in
    let e = c.set_up-b.ensures in
    let d = setup Release18 a.unit.now (record { said = a.said.now; values = a.values.now; room = a.room.now }) in
    let n : c.number_of.result ≡ setup_number d.answer = c.number_of.ensures ∙ ap setup_number e.answer in
    record { answer = λ i. record { answer = n i; place = 0; octets = e.octets i; bit = 0; wait = 0 }; unit = e.unit; room = e.room }
