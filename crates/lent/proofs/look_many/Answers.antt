-- What such sets tell of the rows is what holds of them.
use Rattle.std.specs.Prelude.{Some}
use mathlib.Core.Path.{ap, ◌∙◌}
use native.Mathlib.Omega.{arith}
use Prim.Native.Nat.{◌+◌}
use lib.ListN.{drop}
use lib.Seq.{get_or-drop}
use Rattle.octets.specs.Stands.{Octets}
use Rattle.lent.proofs.Told.{wholly_none, wholly_some}
use Rattle.lent.proofs.look_many.Goals as goal

pub returns-in_err-mme : goal.returns-in_err-mme
returns-in_err-mme c = let a = c.args in
    let o : Octets (drop 2 a.s.now) = λ i. rw get_or-drop (c.type_inv.s (2 + i)).fits in
    c.from_residual.ensures ∙ rw (wholly_none a.item a.n (drop 2 a.s.now) o c.in_err-mme.ensures.is)

pub with_pair-requires : goal.with_pair-requires
with_pair-requires c = let a = c.args in
    let o : Octets (drop 2 a.s.now) = λ i. rw get_or-drop (c.type_inv.s (2 + i)).fits in
    let h = c.in_ok-mme.ensures in
    let e = wholly_some a.item a.n (drop 2 a.s.now) o h.is h.fits.0 h.fits.1 in
    (omega arith, omega arith, e.1, e.2)

pub returns : goal.returns
returns c = let a = c.args in
    let o : Octets (drop 2 a.s.now) = λ i. rw get_or-drop (c.type_inv.s (2 + i)).fits in
    let h = c.in_ok-mme.ensures in
    let e = wholly_some a.item a.n (drop 2 a.s.now) o h.is h.fits.0 h.fits.1 in
    ap Some c.with_pair.ensures ∙ rw e.0
