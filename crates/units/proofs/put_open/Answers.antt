-- The octet of the mark is stored, where there is one.
use mathlib.Core.Path.{sym, ap, ◌∙◌}
use Prim.Native.Nat.{ℕ}
use native.Mathlib.Omega.{arith}
use lib.ListN.{set}
use lib.Seq.{set_out}
use Rattle.units.specs.Unit.{open_octet}
use Rattle.units.proofs.Parts.{octet_is}
use Rattle.units.proofs.put_open.Goals as goal

pub returns-then-unit-lt3077 : goal.returns-then-unit-lt3077
returns-then-unit-lt3077 c = sym (set_out c.args.unit.now 3076 (open_octet c.args.is) (omega arith))

pub returns : goal.returns
returns c = ap (λ (n : ℕ). set c.args.unit.now 3076 n) (c.from.ensures ∙ octet_is c.args.is)
