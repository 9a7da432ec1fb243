-- Each identity by itself, and then both.
use Rattle.std.specs.Prelude.{None}
use mathlib.Core.Path.{◌∙◌}
use native.Mathlib.Omega.{arith}
use lib.ListN.{drop}
use Rattle.lent.specs.Lent.{rows_of}
use Rattle.lent.proofs.ByRows.{held_by_lem}
use Rattle.lent.proofs.look_few.Goals as goal

pub with_pair-requires : goal.with_pair-requires
with_pair-requires c = let a = c.args in
    let l = rows_of a.n (drop 2 a.s.now) in
    (omega arith, omega arith, c.held_in-mme.ensures ∙ held_by_lem a.item.mme None l, c.held_in-mce.ensures ∙ held_by_lem None a.item.mce l)
