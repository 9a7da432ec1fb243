-- The library's words for what a list's elements pass.
use mathlib.Core.Path.{◌≡◌, refl, ap}
use mathlib.Core.Bool.{Bool, ◌||◌}
use mathlib.Core.List.{List, [], ◌∷◌}
use Rattle.std.specs.List.{list_any}
use Rattle.lists.specs.Lists.{some}

pub any_some : {A : Type 0} (p : A → Bool) (l : List A) → list_any p l ≡ some p l
any_some p [] = refl
any_some p (a ∷ l) = ap (p a ||◌) (any_some p l)
