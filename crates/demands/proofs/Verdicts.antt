-- What is among those that are read is read the same whatever else is among them; and what a verdict with a record is made of.
-- Assumes nothing.
use Prim.Native.Nat.{ℕ, ◌+◌}
use mathlib.Core.Path.{◌≡◌, ◌∙◌, refl, sym, ap}
use mathlib.Core.Bool.{Bool, true, false}
use mathlib.Core.List.{List, Memᴰ}
use lib.Dec.{ltb}
use lib.ListN.{length}
use Rattle.lists.specs.Lists.{pick}
use Rattle.std.specs.Prelude.{Ok, Err, None, Option, Some}
use Rattle.octets.specs.Read.{Read}
use Rattle.octets.proofs.Chain.{then_got, same_got}
use Rattle.rows.specs.declared.Row.{Row}
use Rattle.envelopes.specs.declared.Head.{Head}
use Rattle.envelopes.specs.Envelope.{scan_at, heads_at}
use Rattle.elements.specs.Judge as elements
use Rattle.editions.specs.declared.Message.{Message}
use Rattle.editions.specs.declared.Edition.{Edition}
use Rattle.editions.specs.declared.Edition.TheVariants.{Release18, Warnings, WarningsLab}
use Rattle.editions.specs.Editions.{messages_of, table_of, container_of, of_m3ap, named_by}
use Rattle.editions.proofs.Names.{named_listed}
use Rattle.frames.specs.declared.Frame.{Frame}
use Rattle.frames.specs.Frame.{frame_at, count_at}
use Rattle.frames.specs.declared.Count.{Count}
use Rattle.requests.specs.Requests.{asks}
use Rattle.round_trips.proofs.Accepted.{not_refused, opened}
use Rattle.verdicts.specs.declared.Refusal.TheVariants as refusal
use Rattle.verdicts.specs.Verdict.{Opening, opening_by, opened_at, Understood, refused, understood, understood_by, verdict_of, every, of_those, framed, read_of}

-- ---- what passes the test

-- what is understood is of the message that was opened
opened_message : (t : List Row) (m : Message) (f : Frame) (s : List ℕ) (o : Read Opening) (u : Understood) → verdict_of t m f s o ≡ understood u → m ≡ u.what.message
opened_message t m f s (Ok o) u q = let z : understood_by t m f s o ≡ u = cc in ap (λ (x : Understood). x.what.message) z
opened_message t m f s (Err x) u q = not_refused q

module _ (e : Edition) (among : Message → Bool) (s : List ℕ) (u : Understood) (a : among u.what.message ≡ true) where
  those_same : (f : Frame) (n : Option Message) → of_those e every s f n ≡ understood u → of_those e among s f n ≡ understood u
  those_same f (Some m) q =
      let z = opened_message (table_of e m) m f s (opened_at (table_of e m) (container_of e m) s f.from) u q in
      let b : among m ≡ true = ap among z ∙ a in
      rw b q
  those_same f None q = not_refused q

  framed_same : (r : Read Frame) → framed e every s r ≡ understood u → framed e among s r ≡ understood u
  framed_same (Ok f) q = those_same f (named_by e f.kind f.code) q
  framed_same (Err x) q = not_refused q

  pub judged_as_read : read_of e every s ≡ understood u → read_of e among s ≡ understood u
  unfolding read_of
  judged_as_read q = by (ltb 8192 (length s)) q
    where
      by : (b : Bool) → pick b (refused refusal.TooLong) (framed e every s (frame_at s)) ≡ understood u → pick b (refused refusal.TooLong) (framed e among s (frame_at s)) ≡ understood u
      by true q = not_refused q
      by false q = framed_same (frame_at s) q

-- and only what passes is understood
module _ (e : Edition) (among : Message → Bool) (s : List ℕ) (u : Understood) where
  passed : (m : Message) (f : Frame) (b : Bool) → among m ≡ b
      → pick b (verdict_of (table_of e m) m f s (opened_at (table_of e m) (container_of e m) s f.from)) (refused refusal.NotAmong) ≡ understood u → among u.what.message ≡ true
  passed m f true a q = ap among (sym (opened_message (table_of e m) m f s (opened_at (table_of e m) (container_of e m) s f.from) u q)) ∙ a
  passed m f false a q = not_refused q

  framed_passed : (r : Read Frame) → framed e among s r ≡ understood u → among u.what.message ≡ true
  framed_passed (Ok f) q = by (named_by e f.kind f.code) q
    where
      by : (n : Option Message) → of_those e among s f n ≡ understood u → among u.what.message ≡ true
      by (Some m) q = passed m f (among m) refl q
      by None q = not_refused q
  framed_passed (Err x) q = not_refused q

  pub only_passed : read_of e among s ≡ understood u → among u.what.message ≡ true
  unfolding read_of
  only_passed q = by (ltb 8192 (length s)) q
    where
      by : (b : Bool) → pick b (refused refusal.TooLong) (framed e among s (frame_at s)) ≡ understood u → among u.what.message ≡ true
      by true q = not_refused q
      by false q = framed_passed (frame_at s) q

-- ---- the opening: elements that were scanned, and judged

pub record Judging (t : List Row) (c : Bool) (s : List ℕ) (from : ℕ) (o : Opening) : Type 0 where
  pub opens : Count
  pub counted : Ok opens ≡ count_at c s from
  pub end : ℕ
  pub scan : Ok end ≡ scan_at t s opens.elements (from + 3)
  pub extensions : List Head
  pub behind : Ok extensions ≡ elements.extensions_at opens.container s end
  pub is : opening_by opens.elements (elements.judged_of t opens.elements (heads_at s opens.elements (from + 3)) extensions) ≡ o

pub judging : (t : List Row) (c : Bool) (s : List ℕ) (from : ℕ) {o : Opening} → Ok o ≡ opened_at t c s from → Judging t c s from o
unfolding opened_at elements.elements_at
judging t c s from {o} q =
    let a = then_got (count_at c s from) _ q in
    let n = a.0.elements in
    let b = then_got (elements.elements_at t a.0.container s n (from + 3)) _ a.2 in
    let x = then_got (elements.extensions_behind t a.0.container s n (from + 3)) _ b.1 in
    let d = then_got (scan_at t s n (from + 3)) _ x.1 in
    record {
      opens = a.0;
      counted = a.1;
      end = d.0;
      scan = d.1;
      extensions = x.0;
      behind = d.2;
      is = sym (same_got b.2 ∙ ap (opening_by n) (same_got x.2));
    }

-- ---- only messages of M3AP ask

pub not_asked : {A : Type 0} → false ≡ true → A
not_asked q = cc

none_asks : (m : Message) → Memᴰ m (messages_of Warnings) → asks m ≡ true → ⊥
none_asks m (Memᴰ.head h) a = not_asked (rw h at a)
none_asks m (Memᴰ.tail (Memᴰ.head h)) a = not_asked (rw h at a)
none_asks m (Memᴰ.tail (Memᴰ.tail (Memᴰ.head h))) a = not_asked (rw h at a)
none_asks m (Memᴰ.tail (Memᴰ.tail (Memᴰ.tail x))) a = elim x [ ]

asks_m3ap : (e : Edition) (m : Message) → Memᴰ m (messages_of e) → asks m ≡ true → of_m3ap e ≡ true
asks_m3ap Release18 m d a = refl
asks_m3ap Warnings m d a = absurd (none_asks m d a)
asks_m3ap WarningsLab m d a = absurd (none_asks m d a)

pub understood_m3ap : (e : Edition) (s : List ℕ) (u : Understood) → read_of e asks s ≡ understood u → of_m3ap e ≡ true
understood_m3ap e s u q =
    let w = opened e asks s u q in
    asks_m3ap e u.what.message (named_listed e u.frame.kind u.frame.code u.what.message (sym w.named)) (only_passed e asks s u q)
