-- `put_message::name_size` meets its contract: by the test; a name lies in the octets. Assumes nothing.
use mathlib.Core.Path.{◌≡◌, ◌∙◌, sym}
use mathlib.Core.Bool.{true}
use Prim.Native.Nat.{◌-◌, ◌<◌, ◌≤◌}
use native.Mathlib.Omega.{arith}
use lib.ListN.{length}
use Rattle.names.specs.Names.{name_allowed}
use Rattle.names.proofs.Allowed.{allowed_part}
use Rattle.meaning.specs.Value.{octets_in}
use Rattle.put_message.proofs.Sizes.{carried_in_lem, name_size, name_none}
use Rattle.put_message.proofs.name_size.Goals as goal

pub overflow_sub-result : goal.overflow_sub-result
overflow_sub-result c =
    let good : let a = c.args in name_allowed (octets_in a.values.now a.v) ≡ true = sym c.is_name.ensures ∙ c.if-is_name.true in
    let part : let a = c.args in (a.v.to ≤ length a.values.now) × (a.v.from < a.v.to) × (a.v.to - a.v.from ≤ 150) = let a = c.args in allowed_part a.values.now a.v.from a.v.to good in
    omega (arith, part.1)

pub overflow_add-result : goal.overflow_add-result
overflow_add-result c =
    let good : let a = c.args in name_allowed (octets_in a.values.now a.v) ≡ true = sym c.is_name.ensures ∙ c.if-is_name.true in
    let part : let a = c.args in (a.v.to ≤ length a.values.now) × (a.v.from < a.v.to) × (a.v.to - a.v.from ≤ 150) = let a = c.args in allowed_part a.values.now a.v.from a.v.to good in
    omega (arith, part.2)

pub returns-then-is_name : goal.returns-then-is_name
returns-then-is_name c =
    let good : let a = c.args in name_allowed (octets_in a.values.now a.v) ≡ true = sym c.is_name.ensures ∙ c.if-is_name.true in
    let part : let a = c.args in (a.v.to ≤ length a.values.now) × (a.v.from < a.v.to) × (a.v.to - a.v.from ≤ 150) = let a = c.args in allowed_part a.values.now a.v.from a.v.to good in
    let a = c.args in name_size (octets_in a.values.now a.v) good (carried_in_lem a.values.now a.v part.0)

pub returns-else-is_name : goal.returns-else-is_name
returns-else-is_name c = let a = c.args in name_none (octets_in a.values.now a.v) (sym c.is_name.ensures ∙ c.if-is_name.false)
