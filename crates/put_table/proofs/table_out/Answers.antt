-- The count, the rows one after another, and zeros up to the end; the rows before the first of them are not touched.
use mathlib.Core.Path.{◌≡◌, ◌∙◌}
use native.Mathlib.Omega.{arith}
use borrow.Author.Rules.{rules}
use borrow.Author.Tests.{eq-eqb, ne_eqb}
use Prim.Native.Nat.{◌+◌, ◌*◌}
use lib.ListN.{length}
use Rattle.lists.proofs.Slices.{length_of}
use Rattle.put_table.proofs.Writing.{part_long, count_wrote, written_none, written_more, written_all, held_from}
use Rattle.put_table.proofs.table_out.Goals as goal

pub returns-then-d-ne3074 : goal.returns-then-d-ne3074
returns-then-d-ne3074 c = rw (ne_eqb (length c.args.d.now) 3074 c.if-d-ne3074.true)

pub loop-i-init : goal.loop-i-init
loop-i-init c = let b : length c.args.t.rows ≡ 256 = search (rules, length_of) in written_none _ _ _ _ (omega arith) (omega arith) (omega arith) (count_wrote _ (omega arith) c.put_two-end.ensures)

pub put_row-requires : goal.put_row-requires
put_row-requires c = part_long c.loop-i.d (2 + 12 * c.loop-i.i) (omega arith)

pub loop-i-preserved : goal.loop-i-preserved
loop-i-preserved c = let b : length c.args.t.rows ≡ 256 = search (rules, length_of) in written_more c.loop-i.invariant _ (omega arith) (omega arith) (omega arith) c.put_row.ensures

pub returns : goal.returns
returns c = let s = c.args in
    let b : length s.t.rows ≡ 256 = search (rules, length_of) in
    let w = written_all (omega arith) (omega arith) (omega arith) c.put_two-end.ensures c.loop-i.invariant (omega arith) c.put_zeros.ensures in
    rw (eq-eqb (length s.d.now) 3074 (omega arith)) (w ∙ held_from s.t s.from s.d.now b c.min-n.ensures c.min-i.ensures)
