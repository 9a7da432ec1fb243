use Rattle.std.proofs.Common.{◌≡◌, ◌+◌, ◌-◌, ◌∙◌, ap, ℕ, take, drop, arith}
use Rattle.lists.proofs.Parts.{take_drop}
use Rattle.octets.proofs.Arrays.{string_there, string_short}
use Rattle.octets.proofs.array_at.Goals as goal

pub returns-then-s-at : goal.returns-then-s-at
returns-then-s-at g c = rw c.cut_short.ensures (string_short g.row.N c.args.s.now c.args.at (omega arith))

pub returns-then-s-at-2 : goal.returns-then-s-at-2
returns-then-s-at-2 g c = rw c.cut_short-then-s-at-2.ensures (string_short g.row.N c.args.s.now c.args.at (omega arith))

pub returns : goal.returns
returns g c =
    let n : c.args.at + g.row.N - c.args.at ≡ g.row.N = omega arith in
    string_there g.row.N c.args.s.now c.args.at (omega arith) (c.copy_from_slice.ensures.after ∙ ap (λ (k : ℕ). take k (drop c.args.at c.args.s.now)) n ∙ take_drop g.row.N c.args.at c.args.s.now)
