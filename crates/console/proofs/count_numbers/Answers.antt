-- Each way out is one of the definition's four tests, or past them all.
use mathlib.Core.Path.{sym, ◌∙◌}
use borrow.Author.Tests.{le-leb, lt-leb}
use Rattle.console.specs.Numbers.{counted_in}
use Rattle.console.proofs.count_numbers.Goals as goal
use Rattle.console.proofs.count_numbers.Goals.{then-n-gt256-via-then-n-gt256, then-n-gt256-via-else-n-gt256+then-g, then-not-unequal-via-then-not-unequal, then-not-unequal-via-else-not-unequal+then-not-unequal-2}

pub returns-then-n-gt256 : goal.returns-then-n-gt256
unfolding counted_in
returns-then-n-gt256 c =
    elim c.then-n-gt256.branch [
      | then-n-gt256-via-then-n-gt256 w ↦ rw (lt-leb _ 256 w.if-n-gt256.true)
      | then-n-gt256-via-else-n-gt256+then-g w ↦ rw (le-leb _ 256 w.if-n-gt256.false, w.if-g.true)
    ]

pub returns-then-not-unequal : goal.returns-then-not-unequal
unfolding counted_in
returns-then-not-unequal c =
    elim c.then-not-unequal.branch [
      | then-not-unequal-via-then-not-unequal w ↦ rw (le-leb _ 256 c.if-n-gt256.false, c.if-g.false, sym c.unequal.ensures ∙ w.if-not-unequal.true)
      | then-not-unequal-via-else-not-unequal+then-not-unequal-2 w ↦ rw (
        le-leb _ 256 c.if-n-gt256.false,
        c.if-g.false,
        sym c.unequal.ensures ∙ w.if-not-unequal.false,
        sym w.unequal-else-not-unequal.ensures ∙ w.if-not-unequal-2.true,
      )
    ]

pub returns : goal.returns
unfolding counted_in
returns c = rw (
  le-leb _ 256 c.if-n-gt256.false,
  c.if-g.false,
  sym c.unequal.ensures ∙ c.if-not-unequal.false,
  sym c.unequal-else-not-unequal.ensures ∙ c.if-not-unequal-2.false,
  c.count.ensures,
)
