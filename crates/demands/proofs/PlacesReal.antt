-- There are neighbours: a start of any association that a unit can take, and a stop of any that it holds, next to a partial reset of any items that do not name it.
-- Assumes nothing.
use Rattle.std.specs.Prelude.{None, Option, Some}
use Prim.Native.Nat.{ℕ, ◌≤◌, ◌<◌}
use mathlib.Core.Path.{◌≡◌, refl, ap, ◌∙◌}
use mathlib.Core.Bool.{Bool, true, false, not}
use mathlib.Core.List.{List, [], ◌∷◌, Memᴰ}
use native.Mathlib.Omega.{arith}
use borrow.Author.Tests.{lt-leb, eq-eqb, eqb-true}
use lib.ListN.{length, length-replicate, replicate}
use Rattle.lists.specs.Lists.{keep, some}
use Rattle.lists.proofs.Tests.{and_left, and_right}
use Rattle.lists.proofs.Keep.{mem_keep}
use Rattle.lists.proofs.Some.{some_same, some_nothing, some_cong, some_at, none_kept}
use Rattle.octets.specs.Stands.{Octets}
use Rattle.octets.specs.Write.{number_octets}
use Rattle.identity.specs.declared.MmeId.{MmeId}
use Rattle.identity.specs.declared.MceId.{MceId}
use Rattle.identity.specs.declared.Item.{Item}
use Rattle.items.specs.Written.{GoodItems}
use Rattle.editions.specs.declared.Edition.{Edition}
use Rattle.editions.specs.Editions.{of_m3ap}
use Rattle.meaning.specs.Value as value
use Rattle.meaning.specs.Ranges as ranges
use Rattle.table.specs.declared.Association.{Association}
use Rattle.table.specs.Table.{State, has_mme, has_mce, has_pair, names, named, without, full, starting, stopping, holds_mme, holds_mce, holds_pair}
use Rattle.table.proofs.Rules.{resets, always}
use Rattle.lent.specs.Lent.{session_octet, row_octets, IdentitiesInRange}
use Rattle.units.specs.Unit.{Unit, is_unit, read_unit, with_held, GoodUnit}
use Rattle.units.proofs.OneForm.{one_unit}
use Rattle.requests.specs.declared.Request.TheVariants as request
use Rattle.replies.specs.declared.Reply.TheVariants as reply
use Rattle.replies.specs.Replies.{Replied}
use Rattle.carry.specs.Carry.{started, stopped}
use Rattle.calls.specs.Judged.{Accepted}
use Rattle.calls.specs.Decided.{changes}
use Rattle.calls.specs.Call.{Call, call, decided_on}
use Rattle.demands.specs.Words.{Lends, reset_by, some_named, AllAccepted}
use Rattle.demands.specs.Resets.{SomeNeighbours, ChangingPlacesIsReal}
use Rattle.demands.proofs.Done.{done, reply_to, started_on, stopped_on, start_decided, stop_decided}
use Rattle.demands.proofs.Granted.{granted}
use Rattle.demands.proofs.Decisions.{starting_good, stopping_good}
use Rattle.demands.proofs.States.{lent_good}
use Rattle.demands.proofs.Runs.{reset_read_lem}
use Rattle.demands.proofs.Carrying.{GoodSession, start_message, start_octets, start_carries, stop_message, stop_octets, stop_carries, reset_carries}
use Rattle.demands.proofs.Real.{reset_granted, some_cause, some_call}

abbrev room : List ℕ
room = replicate 8192 0

large : 8192 ≤ length room
large = rw (length-replicate {A = ℕ}) (omega arith)

-- what is not held is not held behind a reset
still_none : (p : Association → Bool) (items : List Item) (l : State) → some p l ≡ false → some p (without items l) ≡ false
unfolding without
still_none p items l q = none_kept (λ (b : Association). not (named items b)) p l q

-- the octets of a row hold those of the TMGI and of the Session Identity
module _ (a : Association) (o : Octets (row_octets a)) where
  tmgi_range : ranges.InRange (value.tmgi a.tmgi)
  unfolding number_octets
  tmgi_range = (o 4, o 5, o 6, o 7, o 8, o 9)

  session_range : GoodSession a.session
  unfolding number_octets
  session_range = by a.session (o 11)
    where
      by : (v : Option ℕ) → session_octet v < 256 → GoodSession v
      by (Some v) h = h
      by None h = tt

-- items name by identities only
pair_names : (i : Item) (a b : Association) → a.mme.0 ≡ b.mme.0 → a.mce.0 ≡ b.mce.0 → names i a ≡ names i b
pair_names i a b q f = by i.mme i.mce
  where
    by : (x : Option MmeId) (y : Option MceId) → names (record { mme = x; mce = y }) a ≡ names (record { mme = x; mce = y }) b
    by (Some m) (Some c) = rw (q, f)
    by (Some m) None = rw q
    by None (Some c) = rw f
    by None None = refl

module _ (items : List Item) (a : Association) (n : named items a ≡ false) where
  pair_named : (b : Association) → has_pair a.mme a.mce b ≡ true → named items b ≡ false
  unfolding named
  pair_named b p =
      let q = eqb-true b.mme.0 a.mme.0 (and_left (has_mme a.mme b) (has_mce a.mce b) p) in
      let f = eqb-true b.mce.0 a.mce.0 (and_right (has_mme a.mme b) (has_mce a.mce b) p) in
      some_cong (λ (i : Item). names i b) (λ (i : Item). names i a) (λ i. pair_names i b a q f) items ∙ n

  none_named : (l : State) → some_named items (keep (has_pair a.mme a.mce) l) ≡ false
  none_named l =
      some_same (named items) (λ (b : Association). false) (keep (has_pair a.mme a.mce) l)
      (λ b m. pair_named b ((mem_keep (has_pair a.mme a.mce) l).0 m).1) ∙ some_nothing (keep (has_pair a.mme a.mce) l)

own_pair : (a : Association) → has_pair a.mme a.mce a ≡ true
own_pair a = rw (eq-eqb a.mme.0 a.mme.0 refl, eq-eqb a.mce.0 a.mce.0 refl)

module _ (e : Edition) (j : of_m3ap e ≡ true) where
  -- both orders are accepted, where the session's message is accepted in both units
  module _ {t : List ℕ} {u : Unit} (h : Lends t u) (items : List Item) (i : GoodItems items) (s : Call) (b : 8192 ≤ length s.room)
      (f : State → State) {r r' : Replied} (x : decided_on e u s ≡ changes (with_held f u) r)
      (y : decided_on e (reset_by items u) s ≡ changes (with_held f (reset_by items u)) r') (g : GoodUnit (with_held f u)) where
    both : AllAccepted e t (s ∷ some_call e items ∷ []) × AllAccepted e t (some_call e items ∷ s ∷ [])
    both =
        let p : Call = some_call e items in
        let q = reset_carries e some_cause items (omega arith) j i in
        let v = granted e t s u h.read b x refl in
        let d = rw x at (done e t s u h.read v).unit in
        let k : read_unit (call e t s).unit ≡ is_unit (with_held f u) = ap read_unit d ∙ one_unit.back (with_held f u) g in
        let w = reset_granted e (call e t s).unit p (with_held f u) items k q large in
        let z = reset_granted e t p u items h.read q large in
        let n = reset_read_lem e t p u items (lent_good h) h.read q z in
        ((v, (w, tt)), (z, (granted e (call e t p).unit s (reset_by items u) n b y refl, tt)))

  -- ---- starts

  start_fits : (u : Unit) (w : Accepted) (a : Association) → length u.held < 256 → holds_mme a.mme u.held ≡ false → holds_mce a.mce u.held ≡ false
      → started_on e u w a.mce a.mme a.tmgi a.session ≡ changes (with_held (starting a) u) (reply_to e w (reply.StartResponse a.mme a.mce))
  unfolding started full
  start_fits u w a b q f = rw (q, f, lt-leb 256 (length u.held) b)

  starts : (t : List ℕ) (u : Unit) (a : Association) (items : List Item) → Lends t u → IdentitiesInRange a → Octets (row_octets a) →
      length u.held < 256 → holds_mme a.mme u.held ≡ false → holds_mce a.mce u.held ≡ false → GoodItems items → named items a ≡ false →
      SomeNeighbours e t u (request.Start a.mme a.tmgi a.session) items
  starts t u a items h r o b q f i n =
      let m : List ℕ = start_message e a.mme a.tmgi a.session in
      let s : Call = record { message = m; offered = a.mce; room = room } in
      let c = start_carries a.mme a.tmgi a.session r.mme (tmgi_range a o) (session_range a o) e j in
      let w : Accepted = c.what in
      let k = always.reset_size items u.held in
      let x = start_decided e u s c ∙ start_fits u w a b q f in
      let y = start_decided e (reset_by items u) s c
      ∙ start_fits (reset_by items u) w a (omega arith) (still_none (has_mme a.mme) items u.held q) (still_none (has_mce a.mce) items u.held f) in
      record {
        s = s;
        p = some_call e items;
        p' = some_call e items;
        s' = s;
        a = w;
        request = c.request;
        neighbours = record {
          unit = h;
          handed = record {
            unit = h.octets;
            message = start_octets e a.mme a.tmgi a.session r.mme (tmgi_range a o) (session_range a o);
            offered = r.mce;
          };
          session = (c.accepted, rw c.request tt, refl);
          reset = (reset_carries e some_cause items (omega arith) j i, refl);
          offered = refl;
          accepted = both h items i s large (starting a) x y (record { held = starting_good u.held (lent_good h).held a r q f });
          spared = (rw (c.request, n), rw (c.request, n));
        };
      }

  -- ---- stops

  stop_fits : (u : Unit) (w : Accepted) (m : MmeId) (c : MceId) → holds_pair m c u.held ≡ true
      → stopped_on e u w m c ≡ changes (with_held (stopping m c) u) (reply_to e w (reply.StopResponse m c))
  unfolding stopped
  stop_fits u w m c q = rw q

  stops : (t : List ℕ) (u : Unit) (a : Association) (items : List Item) → Lends t u → Memᴰ a u.held → GoodItems items → named items a ≡ false →
      SomeNeighbours e t u (request.Stop a.mme a.mce) items
  stops t u a items h m i n =
      let o : List ℕ = stop_message e a.mme a.mce in
      let s : Call = record { message = o; offered = record { 0 = 0 }; room = room } in
      let r = (lent_good h).held.each a m in
      let c = stop_carries a.mme a.mce r.mme r.mce e j in
      let w : Accepted = c.what in
      let x = stop_decided e u s c ∙ stop_fits u w a.mme a.mce (some_at (has_pair a.mme a.mce) m (own_pair a)) in
      let y = stop_decided e (reset_by items u) s c
      ∙ stop_fits (reset_by items u) w a.mme a.mce (some_at (has_pair a.mme a.mce) ((resets.left items u.held a).1 (m, n)) (own_pair a)) in
      record {
        s = s;
        p = some_call e items;
        p' = some_call e items;
        s' = s;
        a = w;
        request = c.request;
        neighbours = record {
          unit = h;
          handed = record { unit = h.octets; message = stop_octets e a.mme a.mce; offered = omega arith };
          session = (c.accepted, rw c.request tt, refl);
          reset = (reset_carries e some_cause items (omega arith) j i, refl);
          offered = refl;
          accepted = both h items i s large (stopping a.mme a.mce) x y (record { held = stopping_good u.held (lent_good h).held a.mme a.mce });
          spared = (rw c.request (none_named items a n u.held), rw c.request (none_named items a n (without items u.held)));
        };
      }

  pub changing_places_is_real : ChangingPlacesIsReal e
  changing_places_is_real = record { starts = starts; stops = stops }
