-- The numbers of a call, and of a reading, are small: a place is at most the number of the message's octets, and at most 8,192; so is the number of a reply's octets.
-- Assumes nothing.
use Prim.Native.Nat.{ℕ, ◌^◌, ◌<◌, ◌≤◌}
use mathlib.Core.Path.{◌≡◌, refl, ap, ◌∙◌}
use mathlib.Core.Bool.{Bool, true, false, not, ◌&&◌}
use mathlib.Core.List.{List}
use native.Mathlib.Omega.{arith}
use borrow.Author.Tests.{leb-true, ltb-false}
use lib.Dec.{ltb}
use lib.ListN.{length}
use Rattle.lists.specs.Lists.{pick}
use Rattle.lists.proofs.Tests.{on-pick, and_right}
use Rattle.std.specs.Prelude.{Ok, Err, None, Option, Some}
use Rattle.octets.specs.Read.{Read}
use Rattle.octets.specs.declared.Stop.TheVariants.{Fault, Extension}
use Rattle.identity.specs.declared.MmeId.{MmeId}
use Rattle.identity.specs.declared.MceId.{MceId}
use Rattle.identity.specs.declared.Tmgi.{Tmgi}
use Rattle.identity.specs.declared.Item.{Item}
use Rattle.entries.specs.declared.Entry.{Entry}
use Rattle.rows.specs.declared.Row.{Row}
use Rattle.editions.specs.declared.Edition.{Edition}
use Rattle.editions.specs.declared.Message.{Message}
use Rattle.editions.specs.Editions.{table_of, container_of, named_by}
use Rattle.frames.specs.declared.Frame.{Frame}
use Rattle.frames.specs.Frame.{frame_at}
use Rattle.meaning.specs.Value.{Said}
use Rattle.meaning.specs.Written.{message_octets, elements_good, Encoded, octets, none, encoded}
use Rattle.round_trips.proofs.Back.{has_octets_lem}
use Rattle.table.specs.declared.Standing.{Standing}
use Rattle.table.specs.Table.{standing}
use Rattle.units.specs.Unit as units
use Rattle.units.specs.Unit.{MaybeUnit, is_unit, no_unit, read_unit}
use Rattle.verdicts.specs.declared.Refusal.{Refusal}
use Rattle.verdicts.specs.declared.Refusal.TheVariants.{TooLong, Stopped, NotAmong}
use Rattle.verdicts.specs.Verdict.{Opening, opened_at, Verdict, refused, understood, Understood, verdict_of, of_those, framed, read_of}
use Rattle.requests.specs.declared.Request.{Request}
use Rattle.requests.specs.declared.Request.TheVariants as request
use Rattle.requests.specs.Requests.{ask_of, asks, seen, items_in}
use Rattle.replies.specs.Replies.{Replied, silent, says, reply_octets}
use Rattle.carry.specs.declared.Decision.{Decision}
use Rattle.carry.specs.Carry.{Ruling, started, stopped, carried_out, asked, ruling, refusal}
use Rattle.answers.specs.Answers.{numbered}
use Rattle.calls.specs.Decided.{Decided, keeps, changes, fails, applied, decided}
use Rattle.calls.specs.Judged.{ruled, judged_by, verdict, setup_answer}
use Rattle.carry.specs.declared.Answer.{Answer}
use Rattle.calls.specs.Call.{Call, answer_of, settled_if, fits, settled, decided_on, on_unit, call}
use Rattle.unit.specs.Unit.{Called}
use Rattle.unit.specs.declared.Back as unit
use Rattle.link.specs.Link.{CallHanded, refusal_place}
use Rattle.link.proofs.Near.{Near, opened_near, frame_near, frame_in}

-- ---- verdicts

abbrev pub PlacedBy : ℕ → Verdict → Type 0
PlacedBy n (refused x) = refusal_place x ≤ n
PlacedBy n (understood u) = Unit

module _ (e : Edition) (among : Message → Bool) (n : ℕ) where
  nothing_placed : (x : Refusal) → refusal_place x ≡ 0 → PlacedBy n (refused x)
  nothing_placed x q = omega arith

  module _ (s : List ℕ) (l : length s ≤ n) where
    opening_placed : (t : List Row) (m : Message) (f : Frame) (r : Read Opening) → Near n r → PlacedBy n (verdict_of t m f s r)
    opening_placed t m f (Ok o) h = tt
    opening_placed t m f (Err (Fault p)) h = h
    opening_placed t m f (Err (Extension p)) h = h

    those_placed : (f : Frame) (m : Option Message) → f.from ≤ n → PlacedBy n (of_those e among s f m)
    those_placed f (Some m) i =
        on-pick (PlacedBy n) (among m) (opening_placed (table_of e m) m f (opened_at (table_of e m) (container_of e m) s f.from) (opened_near n s l (table_of e m) (container_of e m) f.from i)) (nothing_placed NotAmong refl)
    those_placed f None i = nothing_placed NotAmong refl

    framed_placed : (r : Read Frame) → r ≡ frame_at s → Near n r → PlacedBy n (framed e among s r)
    framed_placed (Ok f) q h = those_placed f (named_by e f.kind f.code) (frame_in n s l q)
    framed_placed (Err (Fault p)) q h = h
    framed_placed (Err (Extension p)) q h = h

  -- over 8,192 octets there is no place
  pub read_placed : (s : List ℕ) → (length s ≤ 8192 → length s ≤ n) → PlacedBy n (read_of e among s)
  unfolding read_of
  read_placed s h = by (ltb 8192 (length s)) refl
    where
      by : (b : Bool) → ltb 8192 (length s) ≡ b → PlacedBy n (pick b (refused TooLong) (framed e among s (frame_at s)))
      by true q = nothing_placed TooLong refl
      by false q = let l = h (ltb-false 8192 (length s) q) in framed_placed s l (frame_at s) refl (frame_near n s l)

-- ---- decisions

module _ (n : ℕ) where
  abbrev Placed : Decided → Type 0
  Placed x = (numbered (answer_of x)).place ≤ n

  -- what has no place has 0
  nowhere : 0 ≤ n
  nowhere = omega arith

  module _ (e : Edition) (u : units.Unit) (f : Frame) (items : List Item) (noted : List Entry) where
    abbrev PlacedFor : Decision → Type 0
    PlacedFor d = Placed (applied e u f items noted d)

    module _ (k : Standing) (c : MceId) where
      started_placed : (x : MmeId) (t : Tmgi) (s : Option ℕ) → PlacedFor (started k c x t s)
      unfolding started
      started_placed x t s = on-pick PlacedFor k.mme nowhere (on-pick PlacedFor k.mce nowhere (on-pick PlacedFor k.full nowhere nowhere))

      stopped_placed : (x : MmeId) (y : MceId) → PlacedFor (stopped k x y)
      unfolding stopped
      stopped_placed x y = on-pick PlacedFor k.pair nowhere nowhere

      carried_placed : (q : Request) → PlacedFor (carried_out k c q)
      carried_placed (request.Start x t s) = started_placed x t s
      carried_placed (request.Stop x y) = stopped_placed x y
      carried_placed request.Whole = nowhere
      carried_placed request.Part = nowhere
      carried_placed request.Indication = nowhere
      carried_placed request.SetupResponse = nowhere
      carried_placed (request.SetupFailure w) = nowhere

  ruled_placed : (e : Edition) (u : units.Unit) (c : MceId) (w : Understood) (r : Ruling) → Placed (decided e u c (ruled e w r))
  unfolding decided
  ruled_placed e u c w (Ok q) = carried_placed e u w.frame (items_in w.what) w.noted (standing (asked c q) u.held) c q
  ruled_placed e u c w (Err r) = nowhere

  refusal_placed : (x : Refusal) → refusal_place x ≤ n → (numbered (refusal x)).place ≤ n
  refusal_placed TooLong h = h
  refusal_placed (Stopped (Fault p)) h = h
  refusal_placed (Stopped (Extension p)) h = h
  refusal_placed NotAmong h = h

  decided_placed : (e : Edition) (u : units.Unit) (c : MceId) (v : Verdict) → PlacedBy n v → Placed (decided e u c (judged_by e v))
  unfolding decided judged_by
  decided_placed e u c (refused x) h = refusal_placed x h
  decided_placed e u c (understood w) h = ruled_placed e u c w (ruling (ask_of w.what.message) (seen w.what.values) w.outcome)

  decided_on_placed : (e : Edition) (u : units.Unit) (c : Call) → (length c.message ≤ 8192 → length c.message ≤ n) → Placed (decided_on e u c)
  unfolding decided_on
  decided_on_placed e u c h =
      on-pick Placed (setup_answer e c.message && not u.is_open) nowhere (decided_placed e u c.offered (verdict e c.message) (read_placed e asks n c.message h))

-- ---- octets that are written

pub encoded_small : (e : Edition) (w : Said) (os : List ℕ) → encoded e w ≡ octets os → length os ≤ 8192
encoded_small e w os q =
    let h = has_octets_lem e w os q in
    rw (← h.1) (leb-true (length (message_octets e w)) 8192 (and_right (elements_good (table_of e w.message) w.values) _ h.0))

reply_size : (e : Edition) (r : Replied) → length (reply_octets e r) ≤ 8192
unfolding reply_octets
reply_size e silent = omega arith
reply_size e (says w) = by (encoded e w) refl
  where
    by : (x : Encoded) → encoded e w ≡ x → length (reply_octets e (says w)) ≤ 8192
    by (octets os) q = rw q (encoded_small e w os q)
    by none q = rw q (omega arith)

-- ---- the call

module _ (e : Edition) where
  settled_placed : (n : ℕ) (t d : List ℕ) (b : Bool) (x : Decided) → Placed n x → (numbered (settled_if e b t d x).answer).place ≤ n
  settled_placed n t d true x h = h
  settled_placed n t d false x h = nowhere n

  settled_size : (t d : List ℕ) (b : Bool) (x : Decided) → length (settled_if e b t d x).reply ≤ 8192
  settled_size t d true (keeps a r) = reply_size e r
  settled_size t d true (changes u r) = reply_size e r
  settled_size t d true (fails u w r) = reply_size e r
  settled_size t d false x = omega arith

  module _ (t : List ℕ) (c : Call) where
    placed : (n : ℕ) → (length c.message ≤ 8192 → length c.message ≤ n) → (numbered (call e t c).answer).place ≤ n
    unfolding call settled
    placed n h = by (read_unit t)
      where
        by : (x : MaybeUnit) → (numbered (on_unit e t c x).answer).place ≤ n
        by (is_unit u) =
            let x : Decided = decided_on e u c in
            settled_placed n t c.room (fits e c.room x) x (decided_on_placed n e u c h)
        by no_unit = nowhere n

    pub place_inside : (numbered (call e t c).answer).place ≤ length c.message
    place_inside = placed (length c.message) (λ h. omega arith)

    pub place_small : (numbered (call e t c).answer).place ≤ 8192
    place_small = placed 8192 (λ h. h)

    pub reply_small : length (call e t c).reply ≤ 8192
    unfolding call settled
    reply_small = by (read_unit t)
      where
        by : (x : MaybeUnit) → length (on_unit e t c x).reply ≤ 8192
        by (is_unit u) = let x : Decided = decided_on e u c in settled_size t c.room (fits e c.room x) x
        by no_unit = omega arith

-- what the call handed back, as numbers
module _ (e : Edition) (t : List ℕ) (c : Call) {r : unit.Back} {t' d' : List ℕ} (h : Called (call e t c) r t' d') where
  pub place_fits : (p : ℕ) → p ≡ (numbered r.answer).place → p < 2 ^ 32
  place_fits p q = let s = place_small e t c in rw (q, h.answer) (omega arith)

  pub octets_fit : r.octets < 2 ^ 32
  octets_fit = let s = reply_small e t c in rw h.octets (omega arith)

  pub handed : (k p w : ℕ) → k ≡ (numbered r.answer).number → p ≡ (numbered r.answer).place → w ≡ (numbered r.answer).wait
      → CallHanded (call e t c) (record { answer = k; place = p; octets = r.octets; bit = 0; wait = w }) t' d'
  handed k p w q f g = record {
    answer = rw (q, h.answer);
    place = rw (f, h.answer) (omega arith);
    octets = h.octets;
    bit = refl;
    wait = g ∙ ap (λ (a : Answer). (numbered a).wait) h.answer;
    unit = h.unit;
    room = h.room;
  }
