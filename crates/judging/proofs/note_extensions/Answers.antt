use Rattle.std.proofs.Common.{◌≡◌, arith, rules}
use Rattle.octets.proofs.Chain.{halt}
use Rattle.octets.proofs.Got.{below_got}
use Rattle.rows.specs.Table.{rows_in}
use Rattle.judging.proofs.NotedLaws.{extensions_none, extensions_stop, extensions_cut, extensions_some}
use Rattle.judging.proofs.note_extensions.Goals as goal

pub returns-then-not-container : goal.returns-then-not-container
returns-then-not-container c = let a = c.args in rw c.if-not-container.true (extensions_none (rows_in a.t) a.s.now a.n a.from)

pub returns-in_default : goal.returns-in_default
returns-in_default c = let a = c.args in extensions_stop (rows_in a.t) a.s.now a.n a.from a.container (halt _ c.in_default.ensures)

pub returns-in_default-below_at : goal.returns-in_default-below_at
returns-in_default-below_at c = let a = c.args in rw c.if-not-container.false (extensions_cut (rows_in a.t) a.s.now a.n a.from c.in-Ok.ensures c.in_default-below_at.ensures)

pub overflow_add-to : goal.overflow_add-to
overflow_add-to c = let a = c.args in omega (arith, (below_got a.s.now c.in-Ok.to 65535 c.in-Ok-below_at.ensures).0)

pub returns : goal.returns
returns c =
    let a = c.args in
    let e : c.from.result ≡ c.in-Ok-below_at.v = search rules in
    rw c.if-not-container.false (extensions_some (rows_in a.t) a.s.now a.n a.from c.in-Ok.ensures c.in-Ok-below_at.ensures (rw e at c.note_unknown.ensures))
