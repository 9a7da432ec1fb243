-- A row that has both identities is one that is named; there is none where neither is held.
use mathlib.Core.Path.{◌≡◌, sym, ◌∙◌}
use mathlib.Core.Bool.{false}
use lib.ListN.{drop}
use Rattle.table.specs.Table.{held_by}
use Rattle.lent.specs.Lent.{rows_of}
use Rattle.lent.proofs.ByRows.{held_by_lem, no_pair, full_rows}
use Rattle.lent.proofs.with_pair.Goals as goal
use Rattle.lent.proofs.with_pair.Goals.{then-first, else-first, then-second, else-second}

pub returns : goal.returns
returns c = let a = c.args in
    let p = c.requires in
    let l = rows_of a.n (drop 2 a.s.now) in
    let q : c.if-second.pair ≡ held_by a.item.mme a.item.mce l =
    elim c.if-second.branch [
      | then-second w ↦ w.pair-is ∙ w.held_in-pair.ensures ∙ held_by_lem a.item.mme a.item.mce l
      | else-second w ↦
          let z : c.if-second.pair ≡ false = elim c.if-first.branch [ then-first v ↦ cc | else-first v ↦ cc ] in
          z ∙ sym (no_pair a.item.mme a.item.mce l (sym p.2 ∙ w.if-second.false.0) (sym p.3 ∙ w.if-second.false.1))
    ] in
    λ i. record { standing = record { mme = p.2 i; mce = p.3 i; pair = q i; full = full_rows a.n (drop 2 a.s.now) i }; count = a.n }
