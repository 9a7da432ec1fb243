-- By the test that the closure computes.
use Rattle.std.proofs.Common.{◌∙◌, rules, tests}
use Rattle.std.proofs.lemmas.Iterator.{YieldsList-from_slice}
use Rattle.std.proofs.lemmas.Iterator.Search.{any_from_yields_List}
use Rattle.lists.proofs.Library.{any_some}
use Rattle.distinct.specs.Series.{alike}
use Rattle.distinct.proofs.is_among.Goals as goal

pub returns : goal.returns
returns g c =
    any_from_yields_List (λ y. alike g.I.Identity.number y c.args.x) _ _ _ c.any.ensures.ran (YieldsList-from_slice c.args.others.now cc) (λ x b q k. search (rules, tests))
    ∙ any_some (λ y. alike g.I.Identity.number y c.args.x) c.args.others.now
