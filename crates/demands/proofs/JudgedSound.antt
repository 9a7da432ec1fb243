-- What is accepted was understood, with nothing lacking; and it is in range.
-- Assumes nothing.
use Rattle.std.specs.Prelude.{None, Ok, Option, Some}
use Rattle.identity.specs.declared.MceId.{MceId}
use Rattle.identity.specs.declared.Tmgi.{Tmgi}
use Rattle.identity.specs.declared.MmeId.{MmeId}
use Prim.Native.Nat.{ℕ, ◌<◌}
use mathlib.Core.Bool.{true}
use mathlib.Core.Path.{◌≡◌, refl, subst, ap}
use mathlib.Core.List.{List}
use lib.ListN.{length}
use Rattle.octets.specs.Stands.{Octets}
use Rattle.identity.specs.declared.Item.{Item}
use Rattle.editions.specs.declared.Edition.{Edition}
use Rattle.editions.specs.Editions.{of_m3ap}
use Rattle.verdicts.specs.declared.Outcome.{Outcome}
use Rattle.verdicts.specs.declared.Outcome.TheVariants as outcome
use Rattle.verdicts.specs.Verdict.{Verdict, refused, understood, Understood}
use Rattle.requests.specs.declared.Extent.{Extent}
use Rattle.requests.specs.declared.Extent.TheVariants as extent
use Rattle.requests.specs.declared.Ask.{Ask}
use Rattle.requests.specs.declared.Ask.TheVariants as ask
use Rattle.requests.specs.declared.Seen.{Seen}
use Rattle.requests.specs.declared.Request.{Request}
use Rattle.requests.specs.declared.Request.TheVariants as request
use Rattle.requests.specs.Requests.{ask_of, asks, start_of, stop_of, reset_of, request_of, seen, items_in}
use Rattle.replies.specs.declared.Reply.TheVariants as reply
use Rattle.carry.specs.Carry.{ruled_by}
use Rattle.calls.specs.Judged.{Accepted, Judged, judged_by, judged}
use Rattle.demands.proofs.Verdicts.{understood_m3ap}
use Rattle.demands.proofs.Written.{GoodEntries, GoodFrame, GoodList}
use Rattle.demands.proofs.Sound.{read_sound}
use Rattle.demands.proofs.Decisions.{GoodRequest, GoodRuling, asked_good}

-- ---- what was accepted

pub record Of (v : Verdict) (w : Accepted) : Type 0 where
  pub what : Understood
  pub read : v ≡ understood what
  pub outcome : what.outcome ≡ outcome.Accepted
  pub request : request_of (ask_of what.what.message) (seen what.what.values) ≡ Some w.request
  pub items : items_in what.what ≡ w.items
  pub frame : what.frame ≡ w.frame
  pub noted : what.noted ≡ w.noted

pub accepted_of : (e : Edition) (v : Verdict) (w : Accepted) → judged_by e v ≡ Ok w → Of v w
unfolding judged_by
accepted_of e (refused x) w q = cc
accepted_of e (understood u) w q = by u.outcome refl (request_of (ask_of u.what.message) (seen u.what.values)) refl
  where
    by : (o : Outcome) → u.outcome ≡ o → (x : Option Request) → request_of (ask_of u.what.message) (seen u.what.values) ≡ x → Of (understood u) w
    by outcome.Accepted o (Some y) h =
        let k : record { request = y; items = items_in u.what; frame = u.frame; noted = u.noted } ≡ w = same (rw (o, h) at q) in
        record {
          what = u;
          read = refl;
          outcome = o;
          request = subst (λ (x : Accepted). request_of (ask_of u.what.message) (seen u.what.values) ≡ Some x.request) k h;
          items = ap (λ (x : Accepted). x.items) k;
          frame = ap (λ (x : Accepted). x.frame) k;
          noted = ap (λ (x : Accepted). x.noted) k;
        }
      where
        same : {x y : Accepted} → ◌≡◌ {A = Judged} (Ok x) (Ok y) → x ≡ y
        same p = cc
    by outcome.Accepted o None h = let p = rw (o, h) at q in cc
    by (outcome.Misplaced k) o x h = let p = rw o at q in cc
    by outcome.Rejected o x h = let p = rw o at q in cc

-- ---- only a RESET of a part asks so

part_of_lem : (x : Option Extent) → reset_of x ≡ Some request.Part → x ≡ Some extent.Part
part_of_lem (Some extent.Whole) q = cc
part_of_lem (Some extent.Part) q = refl
part_of_lem None q = cc

no_start : (x : Option MmeId) (t : Option Tmgi) (s : Option ℕ) → start_of x t s ≡ Some request.Part → ⊥
no_start (Some m) (Some t) s q = cc
no_start (Some m) None s q = cc
no_start None t s q = cc

no_stop : (x : Option MmeId) (y : Option MceId) → stop_of x y ≡ Some request.Part → ⊥
no_stop (Some m) (Some c) q = cc
no_stop (Some m) None q = cc
no_stop None y q = cc

pub is_part : (a : Ask) (x : Seen) → request_of a x ≡ Some request.Part → x.reset ≡ Some extent.Part
is_part ask.Start x q = absurd (no_start x.mme x.tmgi x.session q)
is_part ask.Stop x q = absurd (no_stop x.mme x.mce q)
is_part ask.Reset x q = part_of_lem x.reset q
is_part ask.Indication x q = cc
is_part ask.SetupResponse x q = cc
is_part ask.SetupFailure x q = cc
is_part ask.Nothing x q = cc

-- ---- in range

pub record SoundRequest (w : Accepted) : Type 0 where
  pub items : GoodList w.items
  pub some : w.request ≡ request.Part → 0 < length w.items
  pub frame : GoodFrame w.frame
  pub noted : GoodEntries w.noted
  pub request : GoodRequest w.request

-- what is accepted is of M3AP
pub asked_m3ap : (e : Edition) (s : List ℕ) {w : Accepted} → judged e s ≡ Ok w → of_m3ap e ≡ true
asked_m3ap e s {w} q = let a = accepted_of e _ w q in understood_m3ap e s a.what a.read

pub judged_sound : (e : Edition) (s : List ℕ) → Octets s → (w : Accepted) → judged e s ≡ Ok w → SoundRequest w
judged_sound e s o w q =
    let a = accepted_of e _ w q in
    let z = read_sound e s o asks a.what a.read in
    let x : Seen = seen a.what.what.values in
    let y : Ask = ask_of a.what.what.message in
    record {
      request = subst (λ (v : Option Request). GoodRuling (ruled_by reply.None v)) a.request (asked_good y x reply.None z.seen tt);
      items = subst GoodList a.items z.items.list;
      some = λ p. subst (λ (l : List Item). 0 < length l) a.items (z.items.some (is_part y x (subst (λ (r : Request). request_of y x ≡ Some r) p a.request)));
      frame = subst GoodFrame a.frame z.frame;
      noted = subst GoodEntries a.noted z.noted;
    }
