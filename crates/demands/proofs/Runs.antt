-- A partial reset that is answered 0 leaves the unit without what its items name, and acknowledges them; so a run of them ends in the unit
-- without what the joined items name.
-- Assumes nothing.
use Rattle.std.specs.Prelude.{Err, Ok}
use Prim.Native.Nat.{ℕ}
use mathlib.Core.Path.{◌≡◌, refl, ap, sym, ◌∙◌}
use mathlib.Core.List.{List, []}
use Rattle.identity.specs.declared.Item.{Item}
use Rattle.editions.specs.declared.Edition.{Edition}
use Rattle.table.specs.Table.{State, named, without}
use Rattle.table.proofs.Rules.{resets}
use Rattle.units.specs.Unit.{Unit, is_unit, read_unit, unit_octets, with_held, GoodUnit}
use Rattle.units.proofs.OneForm.{one_unit}
use Rattle.replies.specs.declared.Reply.TheVariants as reply
use Rattle.replies.specs.Replies.{Replied, silent, reply_octets}
use Rattle.calls.specs.Judged.{Judged, judged}
use Rattle.calls.specs.Call.{Call, call}
use Rattle.demands.specs.Answered.{number_of}
use Rattle.demands.specs.Words.{reset_by, Resets, run, AllAccepted, PartialResets, none, more}
use Rattle.demands.proofs.Done.{done, reply_to, reset_decided}
use Rattle.demands.proofs.States.{reset_good_lem}

none_without : (l : State) → without [] l ≡ l
unfolding named
none_without l = resets.none_named [] l (λ a m. refl)

with_held_lem : (u : Unit) {l : State} → l ≡ u.held → with_held (λ x. l) u ≡ u
with_held_lem u q = ap (λ (x : State). with_held (λ y. x) u) q

module _ (e : Edition) where
  -- the reply to a message, if that is a partial reset
  abbrev pub acknowledging : Judged → Replied
  acknowledging (Err x) = silent
  acknowledging (Ok w) = reply_to e w reply.AcknowledgeItems

  abbrev pub acknowledgement : List ℕ → List ℕ
  acknowledgement s = reply_octets e (acknowledging (judged e s))

  module _ (t : List ℕ) (c : Call) (u : Unit) (items : List Item) (g : GoodUnit u) (q : read_unit t ≡ is_unit u) (p : Resets e c items) (h : number_of e t c ≡ 0) where
    pub reset_unit : (call e t c).unit ≡ unit_octets (reset_by items u)
    reset_unit = rw (reset_decided e u c p) at (done e t c u q h).unit

    pub reset_reply : (call e t c).reply ≡ acknowledgement c.message
    reset_reply =
        let r : (call e t c).reply ≡ reply_octets e (reply_to e p.asks.what reply.AcknowledgeItems) = rw (reset_decided e u c p) at (done e t c u q h).reply in
        r ∙ sym (ap (λ (j : Judged). reply_octets e (acknowledging j)) p.asks.accepted)

    pub reset_read_lem : read_unit (call e t c).unit ≡ is_unit (reset_by items u)
    reset_read_lem = ap read_unit reset_unit ∙ one_unit.back (reset_by items u) (reset_good_lem u g items)

  pub run_octets : {cs : List Call} {items : List Item} → PartialResets e cs items → (t : List ℕ) (u : Unit) → GoodUnit u → read_unit t ≡ is_unit u → AllAccepted e t cs →
      run e t cs ≡ unit_octets (reset_by items u)
  unfolding run
  run_octets none t u g q a = sym (one_unit.again t u q) ∙ ap unit_octets (sym (with_held_lem u (none_without u.held)))
  run_octets (more {c = c} {cs = cs} {ks = ks} {js = js} o p rest) t u g q a =
      run_octets rest (call e t c).unit (reset_by ks u) (reset_good_lem u g ks) (reset_read_lem t c u ks g q p a.0) a.1
      ∙ ap (λ (x : State). unit_octets (with_held (λ y. x) u)) (resets.joined ks js u.held)
