-- Each test that fails would pass for a table; where all pass, the octets are those of the rows read, and what is held of these is held.
use Rattle.std.specs.Prelude.{Some}
use Rattle.std.specs.Option.{is_some}
use mathlib.Core.Path.{◌≡◌, ap, sym, ◌∙◌}
use native.Mathlib.Omega.{arith}
use Rattle.octets.specs.Field.{value_at}
use Rattle.lent.proofs.Reading.{tail_part, not_long, too_many, not_zeros, right_or_not}
use mathlib.Core.Bool.{Bool, true}
use mathlib.Core.List.{List}
use Prim.Native.Nat.{ℕ, ◌+◌, ◌-◌, ◌*◌}
use lib.ListN.{length, take, drop}
use Rattle.lent.specs.Tests.{rows_right, zeros}
use Rattle.lent.proofs.Told.{right_low, right_found}
use Rattle.lent.proofs.look_up.Goals as goal

-- what is found of the octets behind the rows
ends : (s : List ℕ) (at : ℕ) {r b : Bool} → r ≡ zeros (take (length s - at) (drop at s)) → r ≡ b → zeros (drop at s) ≡ b
ends s at e f = sym (e ∙ ap zeros (tail_part s at)) ∙ f

pub returns-then-s-ne3074 : goal.returns-then-s-ne3074
returns-then-s-ne3074 c = rw (not_long c.args.s.now c.if-s-ne3074.true)

pub returns-then-n-gt256 : goal.returns-then-n-gt256
returns-then-n-gt256 c = let s = c.args.s.now in
    let e : c.from-n.result ≡ value_at 2 s 0 = omega arith in
    rw (too_many s e c.if-n-gt256.true)

pub returns-then-not-all_zero : goal.returns-then-not-all_zero
returns-then-not-all_zero c = let s = c.args.s.now in
    let e : c.from-n.result ≡ value_at 2 s 0 = omega arith in
    rw (not_zeros s e (ends s (2 + 12 * c.from-n.result) c.all_zero.ensures c.if-not-all_zero.true))

pub returns-then-is_some : goal.returns-then-is_some
returns-then-is_some c = let s = c.args.s.now in
    let e : c.from-n.result ≡ value_at 2 s 0 = omega arith in
    let h = right_or_not s e (λ i. (c.type_inv.s i).fits) (omega arith) (omega arith) (ends s (2 + 12 * c.from-n.result) c.all_zero.ensures c.if-not-all_zero.false) c.args.item in
    let r : rows_right c.from-n.result (drop 2 s) ≡ true = right_low c.from-n.result (drop 2 s) (right_found 64 c.args.item c.from-n.result (drop 2 s) (c.if-is_some.ensures ∙ ap is_some c.held_apart.ensures.is)) in
    ap Some c.look_few.ensures ∙ rw r at h

pub returns : goal.returns
returns c = let s = c.args.s.now in
    let e : c.from-n.result ≡ value_at 2 s 0 = omega arith in
    let h = right_or_not s e (λ i. (c.type_inv.s i).fits) (omega arith) (omega arith) (ends s (2 + 12 * c.from-n.result) c.all_zero.ensures c.if-not-all_zero.false) c.args.item in
    c.look_many.ensures ∙ h
