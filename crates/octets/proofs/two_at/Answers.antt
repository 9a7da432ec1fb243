use Rattle.std.proofs.Common.{rules, ◌≡◌, ◌∙◌, ap, ℕ, arith}
use Rattle.std.specs.Prelude.{Ok, Err}
use Rattle.octets.specs.Field.{number_at, value_at}
use Rattle.octets.proofs.Arrays.{number_by, number_stop}
use Rattle.octets.proofs.two_at.Goals as goal

pub returns-in_err-v : goal.returns-in_err-v
returns-in_err-v c = let e : Err c.in_err-v.field-0.0 ≡ number_at 2 c.args.s.now c.args.at = number_stop 2 c.args.s.now c.args.at c.in_err-v.ensures in search (rules, e)

pub returns : goal.returns
returns c =
    let e = number_by 2 c.args.s.now c.args.at c.in_ok-v.ensures in
    let both : c.from_be_bytes.result ≡ value_at 2 c.in_ok-v.v 0 = omega (arith, c.from_be_bytes.ensures) in ap (λ (v : ℕ). Ok v) both ∙ e
