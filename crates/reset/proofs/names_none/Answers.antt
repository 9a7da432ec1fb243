-- By the test that the closure computes.
use Rattle.std.proofs.Common.{rules, tests}
use Rattle.std.proofs.lemmas.Iterator.{YieldsList-from_slice}
use Rattle.std.proofs.lemmas.Iterator.Search.{any_from_yields_List}
use mathlib.Core.Bool.{not}
use mathlib.Core.Path.{ap, sym, ◌∙◌}
use Prim.Native.Nat.{ℕ}
use borrow.Author.Tests.{le-leb, lt-leb}
use lib.ListN.{length}
use Rattle.lists.specs.Lists.{some}
use Rattle.lists.proofs.Library.{any_some}
use Rattle.lists.proofs.Some.{some_map}
use Rattle.identity.specs.declared.Item.{Item}
use Rattle.item_words.specs.Words.{item_of}
use Rattle.table.specs.Table.{names}
use Rattle.lent.specs.Lent.{first_rows}
use Rattle.reset.specs.Slots.{names_none}
use Rattle.reset.proofs.names_none.Goals as goal

pub returns-then-words-gt4 : goal.returns-then-words-gt4
returns-then-words-gt4 c = rw (lt-leb (length c.args.words.now) 4 c.if-words-gt4.true)

pub returns : goal.returns
unfolding names_none
returns c =
    let a = c.args in
    let l = first_rows a.n a.s.now in
    let ws = a.words.now in
    rw (le-leb (length ws) 4 c.if-words-gt4.false)
    (ap not
    (any_from_yields_List (λ w. some (names (item_of w)) l) _ _ _ c.any.ensures.ran (YieldsList-from_slice ws cc) (λ x b q k. search (rules, tests))
    ∙ any_some (λ (w : ℕ). some (names (item_of w)) l) ws ∙ sym (some_map (λ (i : Item). some (names i) l) item_of ws)))
