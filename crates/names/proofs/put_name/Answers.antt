-- `names::put_name` meets its contract: a name's octets one after another; nothing for one that is not allowed. Assumes nothing.
use mathlib.Core.Path.{◌≡◌, ◌∙◌, sym}
use mathlib.Core.Bool.{true}
use native.Mathlib.Omega.{arith}
use lib.Seq.{slice, length-slice}
use Rattle.octets.proofs.Writing.{wrote_none}
use Rattle.names.specs.Names.{name_allowed, part_in}
use Rattle.names.proofs.Allowed.{part_in_lem, allowed_part}
use Rattle.names.proofs.Put.{name_octets_lem, no_octets, wrote_name}
use Rattle.names.proofs.put_name.Goals as goal

pub returns-then-not-is_name : goal.returns-then-not-is_name
returns-then-not-is_name c = let a = c.args in rw (no_octets (part_in a.s.now a.from a.to) (sym c.is_name.ensures ∙ c.if-not-is_name.true)) (wrote_none _ _ c.min.ensures)

pub overflow_sub-to : goal.overflow_sub-to
overflow_sub-to c =
    let a = c.args in
    let h = (allowed_part a.s.now a.from a.to (sym c.is_name.ensures ∙ c.if-not-is_name.false)).1 in
    omega arith

pub returns : goal.returns
returns c =
    let a = c.args in
    let good : name_allowed (part_in a.s.now a.from a.to) ≡ true = sym c.is_name.ensures ∙ c.if-not-is_name.false in
    let p = allowed_part a.s.now a.from a.to good in
    let l = length-slice a.from a.to a.s.now p.0 in
    rw (name_octets_lem (part_in a.s.now a.from a.to) good, part_in_lem a.s.now a.from a.to p.0)
    (wrote_name (slice a.from a.to a.s.now) c.less_one-less.result (omega (arith, c.less_one-less.ensures, l, p.2)) (omega (arith, l, p.2))
    (rw c.with_bits.ensures at c.put_octet-second.ensures) (rw c.with_bits-2.ensures at c.put_octet-chars.ensures) c.put_part.ensures)
