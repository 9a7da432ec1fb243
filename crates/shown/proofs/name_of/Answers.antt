-- By the kind: only a value of kind Name is a name.
use Rattle.std.proofs.Common.{◌∙◌, ap, arith}
use Rattle.std.specs.Result.{result_ok}
use Rattle.shown.proofs.Values.{none_there, name_there, other_there}
use Rattle.shown.proofs.name_of.Goals as goal

pub returns-then-v-eq0 : goal.returns-then-v-eq0
returns-then-v-eq0 c = let a = c.args in none_there a.s.now a.v a.kind c.if-v-eq0.true

pub returns-in-Name : goal.returns-in-Name
returns-in-Name c =
    let a = c.args in
    rw c.in-Name.is (c.ok.ensures.value ∙ (ap result_ok c.name_at.ensures ∙ name_there a.s.now a.v (omega (arith, c.if-v-eq0.false)) c.min.ensures))

pub returns-in_default : goal.returns-in_default
returns-in_default c = let a = c.args in other_there a.s.now a.v a.kind c.in_default.not-Name
