-- from the last row to the first, what is seen of the rows from there on
use Rattle.std.proofs.Common.{◌≡◌, ◌∙◌, ◌+◌, ◌-◌, length, drop, refl, arith}
use Rattle.lists.proofs.Slices.{length_of}
use borrow.Author.Rules.{rules}
use Rattle.rows.specs.Table.{rows_in}
use Rattle.requests.proofs.Laws.{seen_none, seen_row}
use Rattle.requests.proofs.seen_in.Goals as goal

pub loop-k-init : goal.loop-k-init
loop-k-init c = (omega arith, seen_none (rows_in c.args.t) (drop (length (rows_in c.args.t)) c.args.places.now) c.args.s.now refl refl)

pub loop-k-preserved : goal.loop-k-preserved
loop-k-preserved c =
    let a = c.args in
    let l = c.loop-k in
    let few : length a.places.now ≡ 12 = search (rules, length_of) in
    let z : l.k ≡ l.k - 1 + 1 = omega arith in
    (omega arith, c.with_value-x.ensures ∙ seen_row (rows_in a.t) a.places.now a.s.now (l.k - 1) l.x (omega arith) (omega (arith, a.t.few)) (rw z at l.invariant.1))
