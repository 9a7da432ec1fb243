-- The answer over the numbers, at the number that the octets make.
use mathlib.Core.Path.{ap, ◌∙◌}
use Rattle.console.specs.Numbers.{counted_in}
use Rattle.console.proofs.judged.Goals as goal

pub returns : goal.returns
returns c = (c.count_numbers.ensures ∙ ap (counted_in _ _) c.number_of.ensures.0, c.number_of.ensures.1)
