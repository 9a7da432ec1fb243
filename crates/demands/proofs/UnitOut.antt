-- A unit in is a unit out: after any call on a unit, the octets lent are a unit, and the first two say how many are held.
-- Assumes nothing.
use Prim.Native.Nat.{ℕ, ◌<◌}
use mathlib.Core.Path.{◌≡◌, ◌∙◌, ap, subst}
use mathlib.Core.Bool.{Bool, true, false, not, ◌&&◌}
use mathlib.Core.List.{List, []}
use native.Mathlib.Nat.{mod-eq_of_lt}
use native.Mathlib.Omega.{arith}
use lib.ListN.{length}
use Rattle.lists.proofs.Tests.{on-pick}
use Rattle.octets.specs.Stands.{Octets}
use Rattle.octets.specs.Field.{value_at}
use Rattle.octets.specs.Write.{number_octets}
use Rattle.lent.proofs.Rows.{value_back}
use Rattle.units.specs.Unit.{Unit, is_unit, read_unit, unit_octets, GoodUnit}
use Rattle.units.proofs.OneForm.{one_unit}
use Rattle.editions.specs.declared.Edition.{Edition}
use Rattle.requests.specs.Requests.{asks}
use Rattle.calls.specs.Judged.{verdict, setup_answer}
use Rattle.calls.specs.Decided.{Decided, keeps, changes, fails}
use Rattle.calls.specs.Call.{Call, Back, settled_if, fits, settled, on_unit, call, decided_on}
use Rattle.demands.specs.Answered.{Handed, UnitOut}
use Rattle.demands.proofs.Verdicts.{understood_m3ap}
use Rattle.demands.proofs.Sound.{read_sound}
use Rattle.demands.proofs.Decisions.{Sure, decided_sure}

-- the first two octets of a unit say how many are held
pub first_two : (s : List ℕ) (u : Unit) → read_unit s ≡ is_unit u → value_at 2 s 0 ≡ length u.held
unfolding number_octets unit_octets
first_two s u q =
    let h = (one_unit.good s u q).held.few in
    let e : value_at 2 (unit_octets u) 0 ≡ length u.held = value_back (length u.held) [] ∙ mod-eq_of_lt (omega arith) in
    subst (λ (x : List ℕ). value_at 2 x 0 ≡ length u.held) (one_unit.again s u q) e

module _ (e : Edition) where
  -- what is decided about a message on this unit
  pub decided_on_sure : (u : Unit) (c : Call) → GoodUnit u → Octets c.message → c.offered.0 < 65536 → Sure e (decided_on e u c)
  unfolding decided_on
  decided_on_sure u c g m o =
      on-pick (Sure e) (setup_answer e c.message && not u.is_open) tt (decided_sure e u c.offered (verdict e c.message) g o (λ w q. (read_sound e c.message m asks w q, understood_m3ap e c.message w q)))

  pub sure : (t : List ℕ) (c : Call) (u : Unit) → Handed t c → read_unit t ≡ is_unit u → Sure e (decided_on e u c)
  sure t c u h q = decided_on_sure u c (one_unit.good t u q) h.message h.offered

  -- a call on a unit settles what is decided
  pub call_on : (t : List ℕ) (c : Call) (u : Unit) → read_unit t ≡ is_unit u → call e t c ≡ settled e t c.room (decided_on e u c)
  unfolding call
  call_on t c u q = ap (on_unit e t c) q

  module _ (t : List ℕ) (u : Unit) (q : read_unit t ≡ is_unit u) (d : List ℕ) where
    settled_unit : (b : Bool) (x : Decided) → Sure e x → (k : Unit) × (read_unit (settled_if e b t d x).unit ≡ is_unit k)
    settled_unit true (keeps a r) s = (u, q)
    settled_unit true (changes k r) s = (k, one_unit.back k s.1)
    settled_unit true (fails k w r) s = (k, one_unit.back k s.1)
    settled_unit false x s = (u, q)

  pub unit_out : (t : List ℕ) (c : Call) (u : Unit) → Handed t c → read_unit t ≡ is_unit u → UnitOut e t c
  unfolding settled
  unit_out t c u h q =
      let x : Decided = decided_on e u c in
      let k = settled_unit t u q c.room (fits e c.room x) x (sure t c u h q) in
      let z : read_unit (call e t c).unit ≡ is_unit k.0 = ap (λ (b : Back). read_unit b.unit) (call_on t c u q) ∙ k.1 in
      record { unit = k.0; read = z; count = first_two (call e t c).unit k.0 z }
