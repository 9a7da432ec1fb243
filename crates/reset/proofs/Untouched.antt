-- No item names an association: a reset by them changes nothing.
use mathlib.Core.Path.{◌≡◌, refl, ap}
use mathlib.Core.Bool.{Bool, true, false, or-true}
use mathlib.Core.List.{List, [], ◌∷◌}
use borrow.Author.Tests.{not-true}
use Rattle.lists.specs.Lists.{some}
use Rattle.identity.specs.declared.Item.{Item}
use Rattle.table.specs.Table.{State, names, named, without}
use Rattle.lent.proofs.ByRows.{none_less}
use Rattle.reset.specs.Slots.{names_none}

-- the item names one of them
abbrev touches : State → Item → Bool
touches l i = some (names i) l

-- what no item names stays
pub without_none : (is : List Item) (l : State) → names_none is l ≡ true → without is l ≡ l
unfolding names_none without named
without_none is [] e = refl
without_none is (a ∷ l) e =
    let n = not-true _ e in
    let here : some (λ (i : Item). names i a) is ≡ false = none_less (touches (a ∷ l)) (λ (i : Item). names i a) (λ i t. rw t) is n in
    let rest : some (touches l) is ≡ false = none_less (touches (a ∷ l)) (touches l) (λ i t. rw t (or-true (names i a))) is n in
    rw here (ap (a ∷◌) (without_none is l (rw rest)))
