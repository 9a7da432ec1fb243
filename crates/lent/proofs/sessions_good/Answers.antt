-- The rows passed have good octets.
use mathlib.Core.Path.{sym}
use Rattle.lent.proofs.ByRows.{good_none, good_stop, good_more, good_all}
use Rattle.lent.proofs.sessions_good.Goals as goal

pub loop-i-init : goal.loop-i-init
loop-i-init c = good_none _ _

pub returns-then-not-session_good : goal.returns-then-not-session_good
returns-then-not-session_good c = sym (good_stop c.loop-i.invariant c.loop-i-test.true c.session_good.ensures c.if-not-session_good.true)

pub loop-i-preserved : goal.loop-i-preserved
loop-i-preserved c = good_more c.loop-i.invariant c.loop-i-test.true c.session_good.ensures c.if-not-session_good.false

pub returns : goal.returns
returns c = sym (good_all c.loop-i.invariant c.loop-i-test.false)
