-- by the kind; only a Reset Type and a list of items announce any
use Rattle.std.proofs.Common.{arith}
use Rattle.reset_items.proofs.Laws.{none_there, of_reset, of_list, none_front, others_none}
use Rattle.reset_items.proofs.value_items.Goals as goal

pub returns-then-v-eq0 : goal.returns-then-v-eq0
returns-then-v-eq0 c = let a = c.args in none_front _ _ (none_there a.s.now a.v a.kind c.if-v-eq0.true)

pub returns-in-ResetType : goal.returns-in-ResetType
returns-in-ResetType c = let a = c.args in rw (c.in-ResetType.is, ← of_reset a.s.now a.v (omega (arith, c.if-v-eq0.false)) c.min.ensures) c.part_items.ensures

pub returns-in-Acknowledged : goal.returns-in-Acknowledged
returns-in-Acknowledged c = let a = c.args in rw (c.in-Acknowledged.is, ← of_list a.s.now a.v (omega (arith, c.if-v-eq0.false)) c.min.ensures) c.list_items.ensures

pub returns-in_default : goal.returns-in_default
returns-in_default c = let a = c.args in none_front _ _ (others_none a.s.now a.v a.kind c.in_default.not-ResetType c.in_default.not-Acknowledged)
