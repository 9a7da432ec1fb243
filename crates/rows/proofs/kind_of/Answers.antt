-- the id is found among the rows left, counted from where the loop stands
use Rattle.std.proofs.Common.{arith}
use Rattle.rows.specs.Table.{rows_in}
use Rattle.rows.proofs.TableLaws.{row_kind, row_past}
use Rattle.rows.proofs.kind_of.Goals as goal

pub returns-then-r-id : goal.returns-then-r-id
returns-then-r-id c = row_kind (rows_in c.args.t) c.args.id c.loop-r.r-index c.loop-r-test.true c.loop-r.invariant.1 c.if-r-id.true

pub loop-r-preserved : goal.loop-r-preserved
loop-r-preserved c = (omega arith, row_past (rows_in c.args.t) c.args.id c.loop-r.r-index c.loop-r-test.true c.loop-r.invariant.1 c.if-r-id.false)
