-- `record_form::is_name_bad` meets its contract: by the tests. Assumes nothing.
use mathlib.Core.Path.{◌≡◌, ◌∙◌, ap}
use mathlib.Core.Bool.{not}
use native.Mathlib.Omega.{arith}
use Rattle.octets.specs.Field.{value_at}
use Rattle.record_form.proofs.BadNames.{none_bad, there_bad}
use Rattle.record_form.proofs.is_name_bad.Goals as goal

pub returns-then-p-eq0 : goal.returns-then-p-eq0
returns-then-p-eq0 c = none_bad _ _ c.if-p-eq0.true

pub returns : goal.returns
returns c =
    let p = c.args.p.now in
    let from : c.from-from.result ≡ value_at 2 p 1 = omega (arith, c.from-from.ensures, c.from_be_bytes.ensures) in
    let size : c.from-size.result ≡ value_at 2 p 3 = omega (arith, c.from-size.ensures, c.from_be_bytes-2.ensures) in
    ap not (rw (from, size) at c.is_name.ensures) ∙ there_bad c.args.values.now p c.if-p-eq0.false
