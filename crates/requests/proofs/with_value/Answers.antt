-- by the kind, what the reading of the value gave
use Rattle.std.proofs.Common.{refl, arith}
use Rattle.rows.specs.declared.Kind.TheVariants as kind
use Rattle.values.specs.Values.{mme_at, mce_at, tmgi_at, one_at, wait_at}
use Rattle.items.specs.Items.{reset_at}
use Rattle.meaning.specs.Value as value
use Rattle.meaning.specs.Reading.{read_as}
use Rattle.requests.proofs.Laws.{none_there, seen_value, others_not_seen}
use Rattle.requests.proofs.with_value.Goals as goal

pub returns-then-v-eq0 : goal.returns-then-v-eq0
returns-then-v-eq0 c = let a = c.args in none_there a.kind a.s.now a.v a.x c.if-v-eq0.true

pub returns-in-Mme : goal.returns-in-Mme
unfolding read_as
returns-in-Mme c = let a = c.args in rw c.in-Mme.is (seen_value kind.Mme a.s.now a.v a.x mme_at value.mme refl (omega (arith, c.if-v-eq0.false)) c.min.ensures c.with_mme.ensures)

pub returns-in-Mce : goal.returns-in-Mce
unfolding read_as
returns-in-Mce c = let a = c.args in rw c.in-Mce.is (seen_value kind.Mce a.s.now a.v a.x mce_at value.mce refl (omega (arith, c.if-v-eq0.false)) c.min.ensures c.with_mce.ensures)

pub returns-in-Tmgi : goal.returns-in-Tmgi
unfolding read_as
returns-in-Tmgi c = let a = c.args in rw c.in-Tmgi.is (seen_value kind.Tmgi a.s.now a.v a.x tmgi_at value.tmgi refl (omega (arith, c.if-v-eq0.false)) c.min.ensures c.with_tmgi.ensures)

pub returns-in-OneOctet : goal.returns-in-OneOctet
unfolding read_as
returns-in-OneOctet c = let a = c.args in rw c.in-OneOctet.is (seen_value kind.OneOctet a.s.now a.v a.x one_at value.one refl (omega (arith, c.if-v-eq0.false)) c.min.ensures c.with_session.ensures)

pub returns-in-ResetType : goal.returns-in-ResetType
unfolding read_as
returns-in-ResetType c = let a = c.args in rw c.in-ResetType.is (seen_value kind.ResetType a.s.now a.v a.x reset_at value.reset refl (omega (arith, c.if-v-eq0.false)) c.min.ensures c.with_reset.ensures)

pub returns-in-Wait : goal.returns-in-Wait
unfolding read_as
returns-in-Wait c = let a = c.args in rw c.in-Wait.is (seen_value kind.Wait a.s.now a.v a.x wait_at value.wait refl (omega (arith, c.if-v-eq0.false)) c.min.ensures c.with_wait.ensures)

pub returns-in_default : goal.returns-in_default
returns-in_default c =
    let a = c.args in
    let d = c.in_default in
    others_not_seen a.kind a.s.now a.v a.x d.not-Mme d.not-Mce d.not-Tmgi d.not-OneOctet d.not-ResetType d.not-Wait
