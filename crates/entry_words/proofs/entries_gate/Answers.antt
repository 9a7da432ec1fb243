-- `entry_words::entries_gate` meets its contract: the loop has read the entries up to the next, and these before what the rest gives are what all give.
-- Assumes nothing.
use mathlib.Core.Path.{◌≡◌, ◌∙◌, ap, refl}
use borrow.Author.Rules.{rules}
use Rattle.std.specs.Prelude.{Err}
use native.Mathlib.Omega.{arith}
use Rattle.entries.specs.Entries.{entries_at}
use Rattle.entry_words.proofs.Laws.{gate_then}
use Rattle.entry_words.proofs.Reading.{reading_all, reading_more, reading_stop}
use Rattle.octets.proofs.Chain.{halt, past}
use Rattle.octets.proofs.Got.{pad_got}
use Rattle.octets.specs.Read.{checked}
use Rattle.entry_words.proofs.entries_gate.Goals as goal

pub returns-in_err-at : goal.returns-in_err-at
unfolding entries_at
returns-in_err-at c =
    let e : Err c.in_err-at.field-0.0 ≡ checked (entries_at c.args.n c.args.s.now c.args.from) = halt _ (halt _ (reading_stop c.loop-i.invariant.1 _ c.loop-i-test.true c.in_err-at.ensures)) in
    search (rules, e)

pub loop-i-preserved : goal.loop-i-preserved
loop-i-preserved c = (_, reading_more c.loop-i.invariant.1 _ c.loop-i-test.true c.in_ok-at.ensures)

pub returns-in_err-pad_at : goal.returns-in_err-pad_at
unfolding entries_at
returns-in_err-pad_at c =
    let e : Err c.in_err-pad_at.field-0.0 ≡ checked (entries_at c.args.n c.args.s.now c.args.from) = halt _ (past _ _ (reading_all c.loop-i.invariant.1 c.loop-i-test.false) (halt _ c.in_err-pad_at.ensures)) in
    search (rules, e)

pub overflow_add-at : goal.overflow_add-at
overflow_add-at c = omega (arith, (pad_got c.args.s.now c.loop-i.at 2 (λ q. omega arith) c.in_ok-pad_at.ensures).0)

pub returns : goal.returns
unfolding entries_at
returns c = c.ends_at.ensures ∙ gate_then _ _ ∙ ap checked (past _ _ (reading_all c.loop-i.invariant.1 c.loop-i-test.false) (past _ _ c.in_ok-pad_at.ensures refl))
