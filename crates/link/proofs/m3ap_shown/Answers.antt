-- `link::m3ap_shown` meets its contract. The part lies in the request or the label, and not far in. Assumes nothing.
-- the part has its end behind its begin, and not far in
use mathlib.Core.Path.{◌≡◌, refl, ap, ◌∙◌}
use mathlib.Core.Bool.{Bool, true, false}
use mir.Val.{bool_byte}
use Rattle.lists.specs.Lists.{pick}
use mathlib.Core.List.{List}
use Prim.Native.Nat.{ℕ, ◌-◌, ◌≤◌}
use native.Mathlib.Omega.{arith}
use Rattle.editions.specs.declared.Edition.TheVariants.{Release18}
use Rattle.shown.specs.declared.Part.{Part}
use Rattle.shown.specs.Shown.{shown_part}
use Rattle.shown.proofs.Inside.{part_inside, part_early}
use Rattle.link.specs.Link.{part_for}
use Rattle.link.proofs.m3ap_shown.Goals as goal

small : (s l : List ℕ) {p : Part} → p ≡ shown_part Release18 s l → (p.span.from ≤ p.span.to) × (p.span.to ≤ 8192)
small s l q = rw q ((part_inside Release18 s l).order, part_early Release18 s l)

byte_is : (b : Bool) → bool_byte b ≡ pick b 1 0
byte_is true = refl
byte_is false = refl

pub overflow_cast-result : goal.overflow_cast-result
overflow_cast-result c = let a = c.args in let h = small a.request.now a.label.now c.part_of-p.ensures in record { fits = omega (arith, h.0, h.1) }

pub overflow_sub-result : goal.overflow_sub-result
overflow_sub-result c = let a = c.args in let h = small a.request.now a.label.now c.part_of-p.ensures in h.0

pub overflow_cast-result-2 : goal.overflow_cast-result-2
overflow_cast-result-2 c = let a = c.args in let h = small a.request.now a.label.now c.part_of-p.ensures in record { fits = omega (arith, h.1) }

pub returns : goal.returns
returns c =
    (λ i. record { of_label = (c.from.ensures ∙ byte_is c.part_of-p.result.of_label) i; from = c.part_of-p.result.span.from; octets = c.part_of-p.result.span.to - c.part_of-p.result.span.from }) ∙ ap part_for c.part_of-p.ensures
