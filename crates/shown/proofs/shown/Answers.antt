-- The part lies within what it is a part of, and its octets are those that are shown.
use Rattle.std.proofs.Common.{◌≡◌, refl}
use Rattle.lists.specs.Lists.{pick}
use Rattle.shown.proofs.Inside.{lies, shows}
use Rattle.shown.proofs.shown.Goals as goal
use Rattle.shown.proofs.shown.Goals.{then-p, else-p}

pub slice_bounds-result-count : goal.slice_bounds-result-count
slice_bounds-result-count c = let a = c.args in (lies a.e a.request.now a.label.now c.part_of-p.ensures).order

pub slice_bounds-result-start : goal.slice_bounds-result-start
slice_bounds-result-start c = let a = c.args in (lies a.e a.request.now a.label.now c.part_of-p.ensures).order

pub slice_bounds-result-end : goal.slice_bounds-result-end
slice_bounds-result-end c =
    let a = c.args in
    let e : c.if-p.of.now ≡ pick c.part_of-p.result.of_label a.label.now a.request.now = elim c.if-p.branch [ then-p w ↦ rw (w.if-p.true, w.of-is) refl | else-p w ↦ rw (w.if-p.false, w.of-is) refl ] in
    rw e (lies a.e a.request.now a.label.now c.part_of-p.ensures).ends

pub returns : goal.returns
returns c =
    let a = c.args in
    let e : c.if-p.of.now ≡ pick c.part_of-p.result.of_label a.label.now a.request.now = elim c.if-p.branch [ then-p w ↦ rw (w.if-p.true, w.of-is) refl | else-p w ↦ rw (w.if-p.false, w.of-is) refl ] in
    rw e (shows a.e a.request.now a.label.now c.part_of-p.ensures)
