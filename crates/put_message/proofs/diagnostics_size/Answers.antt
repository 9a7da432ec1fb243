-- `put_message::diagnostics_size` meets its contract: what is tested in turn says whether they have octets, and the entries count only where a list is there. Assumes nothing.
-- the test of the triggering message, by its meanings
use native.Mathlib.Omega.{arith}
use Rattle.put_message.proofs.Sizes.{trigger_bad, crit_bad, list_bad, diagnostics_size}
use Rattle.put_message.proofs.Words.{entries_few}
use mathlib.Core.Path.{◌≡◌, ◌∙◌, sym}
use Rattle.rows.specs.Table.{meanings}
use Rattle.meaning.specs.Written.{under}
use Rattle.put_message.proofs.diagnostics_size.Goals as goal

pub returns-then-not-is_under : goal.returns-then-not-is_under
returns-then-not-is_under c =
    let known : c.is_under.result ≡ under (meanings c.args.t) c.args.head.trigger = rw c.meanings.ensures at c.is_under.ensures in
    let a = c.args in trigger_bad a.t a.head a.s.now (sym known ∙ c.if-not-is_under.true)

pub returns-then-not-is_under-2 : goal.returns-then-not-is_under-2
returns-then-not-is_under-2 c =
    let known : c.is_under.result ≡ under (meanings c.args.t) c.args.head.trigger = rw c.meanings.ensures at c.is_under.ensures in
    let a = c.args in crit_bad a.t a.head a.s.now (sym known ∙ c.if-not-is_under.false) (sym c.is_under-2.ensures ∙ c.if-not-is_under-2.true)

pub returns-then-not-is_list_good : goal.returns-then-not-is_list_good
returns-then-not-is_list_good c =
    let known : c.is_under.result ≡ under (meanings c.args.t) c.args.head.trigger = rw c.meanings.ensures at c.is_under.ensures in
    let a = c.args in list_bad a.t a.head a.s.now (sym known ∙ c.if-not-is_under.false) (sym c.is_under-2.ensures ∙ c.if-not-is_under-2.false) (sym c.is_list_good.ensures ∙ c.if-not-is_list_good.true)

pub returns : goal.returns
returns c =
    let known : c.is_under.result ≡ under (meanings c.args.t) c.args.head.trigger = rw c.meanings.ensures at c.is_under.ensures in
    let a = c.args in diagnostics_size a.t a.head a.s.now (sym known ∙ c.if-not-is_under.false) (sym c.is_under-2.ensures ∙ c.if-not-is_under-2.false) (sym c.is_list_good.ensures ∙ c.if-not-is_list_good.false) c.said_entries.ensures (omega (arith, c.said_entries.ensures, entries_few a.s.now)) c.listed_size.ensures
