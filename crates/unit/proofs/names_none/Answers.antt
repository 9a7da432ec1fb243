-- the table in front is all of too few octets
use Rattle.std.proofs.Common.{refl, ap, arith, ◌∙◌, ◌&&◌, ℕ, List, map, leb, length}
use Rattle.lists.proofs.Slices.{take_within}
use Rattle.lent.specs.Lent.{first_rows}
use Rattle.item_words.specs.Words.{item_of}
use Rattle.reset.specs.Slots.{names_none}
use Rattle.unit.proofs.names_none.Goals as goal

pub returns : goal.returns
returns c =
    let a = c.args in
    let e = take_within a.unit.now 3074 (length a.unit.now) refl {n = c.min-end.result} (omega (arith, c.min-end.ensures)) in
    c.names_none.ensures ∙ ap (λ (x : List ℕ). leb (length a.kept.now) 4 && names_none (map item_of a.kept.now) (first_rows a.n x)) e
