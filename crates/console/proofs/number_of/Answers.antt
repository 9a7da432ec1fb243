-- The octets' number is the definition; that each is an octet is what its type tells.
use Rattle.std.proofs.Common.{rules, arith, ◌∙◌}
use Rattle.console.specs.Numbers.{six_of}
use Rattle.console.proofs.number_of.Goals as goal

pub returns : goal.returns
unfolding six_of
returns c = (c.from_be_bytes.ensures ∙ omega arith, record { plmn = (search rules, search rules, search rules); service = (search rules, search rules, search rules) })
