-- Demand 1 said of the call itself: of any arguments, and any result and last values that its statement allows.
-- Assumes nothing.
use Prim.Native.Nat.{ℕ, ◌<◌}
use mathlib.Core.Path.{◌≡◌, ap, ◌∙◌}
use mathlib.Core.List.{List}
use native.Mathlib.Omega.{arith}
use contract.Lifetimes.{Lfts}
use denote.Triple.Clauses.{Lasts, at_exit}
use borrow.Fn.Kinds.{Dens, res_t, ended_of}
use lib.ListN.{length, take, drop}
use lib.Seq.{take-append_seam, drop-append_seam}
use Rattle.octets.specs.Stands.{Octets}
use Rattle.editions.specs.declared.Edition.TheVariants.{Release18}
use Rattle.calls.specs.Call.{Call, call}
use Rattle.demands.specs.Answered.{Handed}
use Rattle.demands.proofs.Demand.{demand_1}
use Rattle.demands.proofs.Bench.{demand_2}
use Rattle.link.specs.declared.Answer.{Answer}
use Rattle.link.specs.Link.{CallHanded}
use Rattle.link.specs.Promised.{lent, Promised}
use Rattle.link.proofs.Sizes.{place_inside}
use Rattle.link.proofs.m3ap_call.Kinds as m3ap_call'
use Rattle.link.proofs.m3ap_call.Reads as m3ap_call

module _ (t m : List ℕ) (o : ℕ) (d : List ℕ) where
  -- of what the statement says
  pub promised : (r : Answer) (t' d' : List ℕ) → CallHanded (call Release18 t (lent t m o d)) r t' d' → Promised t m o d r t' d'
  promised r t' d' e =
      let c : Call = lent t m o d in
      let a = (demand_1 Release18).answered t c in
      let n = e.octets in
      let front : take r.octets d' ≡ (call Release18 t c).reply = rw (e.octets, e.room, a.room) (take-append_seam (call Release18 t c).reply (drop (length (call Release18 t c).reply) d)) in
      let whole : Octets t → Octets m → o < 65536 → Handed t c = λ x y z. record { unit = x; message = y; offered = z } in
      record {
        answer = e.answer ∙ demand_2.exactly Release18 t c;
        replies = λ x y z. rw front (demand_2.replies Release18 t c (whole x y z));
        ruled = (e.unit, front);
        refused = λ h. e.unit ∙ a.refused (λ z. h (e.answer ∙ z));
        fits = let f = a.fits in omega arith;
        rest = rw (e.octets, e.room, a.room) (drop-append_seam (call Release18 t c).reply (drop (length (call Release18 t c).reply) d));
        silent = λ h. let s = a.silent (rw e.answer at h) in (e.octets ∙ ap length s.0, e.room ∙ s.1);
        nowhere = λ h k. let p = e.place in let z = a.place (λ z. h (e.answer ∙ z)) (λ z. k (e.answer ∙ z)) in omega arith;
        place = let p = e.place in let i = place_inside Release18 t c in omega arith;
        wait = λ h. e.wait ∙ a.wait (λ z. h (e.answer ∙ z));
        unit = λ x y z u q. let s = (demand_1 Release18).unit t c u (whole x y z) q in rw e.unit (record { unit = s.unit; read = s.read; count = s.count });
        reply = λ x y z h. rw front ((demand_1 Release18).reply t c (whole x y z) (λ k. h (e.octets ∙ ap length k)));
      }

-- what the statement of the function allows of arguments a
abbrev pub Allowed : (κs : Lfts 3) (a : Dens κs m3ap_call'.ps) → (res_t m3ap_call'.r κs).Denot × Lasts (ended_of 3 m3ap_call'.ps m3ap_call'.r) κs a → Type 0
Allowed κs a x = m3ap_call.Learnt κs a x.0 (at_exit (ended_of 3 m3ap_call'.ps m3ap_call'.r) κs a x.1)

-- whoever calls
pub m3ap_call_promises : (κs : Lfts 3) (a : Dens κs m3ap_call'.ps) (x : (res_t m3ap_call'.r κs).Denot × Lasts (ended_of 3 m3ap_call'.ps m3ap_call'.r) κs a) → Allowed κs a x →
    Promised a.0.now a.1.0.now a.1.1.0 a.1.1.1.0.now x.0 x.1.0 x.1.1.1.1.0
m3ap_call_promises κs a x e = promised a.0.now a.1.0.now a.1.1.0 a.1.1.1.0.now x.0 x.1.0 x.1.1.1.1.0 e
