use Rattle.std.proofs.Common.{◌≡◌, arith, rules}
use Rattle.rows.specs.Table.{rows_in}
use Rattle.judging.proofs.OpenedLaws.{count_in}
use Rattle.judging.proofs.FrontLaws.{none_noted, stop_noted, count_noted, some_front, some_all}
use Rattle.judging.proofs.noted_into.Goals as goal

pub returns-in_default : goal.returns-in_default
returns-in_default c = let a = c.args in stop_noted (rows_in a.t) a.c a.s.now a.from c.in_default.ensures.result a.words.now

pub returns-then-o-eq0 : goal.returns-then-o-eq0
returns-then-o-eq0 c = let a = c.args in none_noted (rows_in a.t) a.c a.s.now a.from c.in-Ok.ensures.result c.if-o-eq0.true a.words.now

pub returns-in_default-count_at : goal.returns-in_default-count_at
returns-in_default-count_at c = let a = c.args in count_noted (rows_in a.t) a.c a.s.now a.from c.in_default-count_at.ensures a.words.now

pub overflow_add-first : goal.overflow_add-first
overflow_add-first c = let a = c.args in omega (arith, count_in a.c a.s.now a.from c.in-Ok-count_at.ensures)

pub returns-then-upto-n : goal.returns-then-upto-n
returns-then-upto-n c =
    let a = c.args in
    let w : c.from-n.result ≡ c.in-Ok-count_at.v.elements = search rules in
    some_front (rows_in a.t) a.c a.s.now a.from c.in-Ok.ensures.result c.in-Ok-count_at.ensures w c.place_of-upto.ensures c.note_unknown-count.ensures c.if-upto-n.true

pub returns : goal.returns
returns c =
    let a = c.args in
    let w : c.from-n.result ≡ c.in-Ok-count_at.v.elements = search rules in
    some_all (rows_in a.t) a.c a.s.now a.from c.in-Ok.ensures.result c.in-Ok-count_at.ensures w c.place_of-upto.ensures c.note_unknown-count.ensures c.if-upto-n.false c.in-Ok.ensures.places c.note_extensions-more.ensures c.note_missing.ensures
