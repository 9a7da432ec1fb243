use Rattle.std.proofs.Common.{rules, ◌≡◌, ◌∙◌, sym, ap, ℕ, get_or, arith}
use Rattle.std.specs.Prelude.{Ok, Err}
use Rattle.octets.specs.Field.{number_at, value_at}
use Rattle.octets.proofs.Arrays.{number_by, number_stop}
use Rattle.octets.proofs.octet_at.Goals as goal

pub returns-in_err-v : goal.returns-in_err-v
returns-in_err-v c = let e : Err c.in_err-v.field-0.0 ≡ number_at 1 c.args.s.now c.args.at = number_stop 1 c.args.s.now c.args.at c.in_err-v.ensures in search (rules, e)

pub returns : goal.returns
returns c =
    let e = number_by 1 c.args.s.now c.args.at c.in_ok-v.ensures in
    let one : value_at 1 c.in_ok-v.v 0 ≡ get_or c.in_ok-v.v 0 0 = omega arith in ap (λ (v : ℕ). Ok v) (sym one) ∙ e
