-- What a verdict with a record says of the octets: their size, the frame, the message and its opening (opened);
-- and with answer 0, that the elements were scanned and all count (accepted).
-- Assumes nothing.
use mathlib.Core.Path.{◌≡◌, ◌∙◌, refl, sym, ap, subst}
use mathlib.Core.Bool.{Bool, true, false}
use mathlib.Core.List.{List}
use Prim.Native.Nat.{ℕ, ◌+◌, ◌≤◌}
use borrow.Author.Tests.{ltb-false}
use lib.Dec.{ltb, eqb}
use lib.ListN.{length}
use Rattle.lists.specs.Lists.{pick, some}
use Rattle.std.specs.Prelude.{Ok, Err, None, Option, Some}
use Rattle.octets.specs.Read.{Read, ◌>>=◌}
use Rattle.octets.specs.Field.{ends_at}
use Rattle.octets.proofs.Chain.{then_got, same_got}
use Rattle.entries.specs.declared.Entry.{Entry}
use Rattle.rows.specs.declared.Row.{Row}
use Rattle.envelopes.specs.Envelope.{scan_at, heads_at}
use Rattle.elements.specs.Judge as judge
use Rattle.editions.specs.declared.Message.{Message}
use Rattle.editions.specs.declared.Edition.{Edition}
use Rattle.editions.specs.Editions.{table_of, container_of, named_by}
use Rattle.frames.specs.declared.Frame.{Frame}
use Rattle.frames.specs.Frame.{frame_at, count_at}
use Rattle.verdicts.specs.declared.Outcome.TheVariants as outcome
use Rattle.verdicts.specs.declared.Refusal.{Refusal}
use Rattle.verdicts.specs.declared.Refusal.TheVariants.{TooLong, NotAmong}
use Rattle.verdicts.specs.Verdict.{Opening, outcome_by, opening_by, opened_at, Understood, refused, understood, understood_by, verdict_of, of_those, framed, read_of}

-- ---- a verdict with a record

pub record Opened (e : Edition) (s : List ℕ) (u : Understood) : Type 0 where
  pub size : length s ≤ 8192
  pub framed : Ok u.frame ≡ frame_at s
  pub named : Some u.what.message ≡ named_by e u.frame.kind u.frame.code
  pub opening : Opening
  pub read : Ok opening ≡ opened_at (table_of e u.what.message) (container_of e u.what.message) s u.frame.from
  pub is : understood_by (table_of e u.what.message) u.what.message u.frame s opening ≡ u

pub not_refused : {B : Type 0} {x : Refusal} {u : Understood} → refused x ≡ understood u → B
not_refused q = cc

module _ (e : Edition) (among : Message → Bool) (s : List ℕ) (u : Understood) where
  module _ (size : length s ≤ 8192) (f : Frame) (q : Ok f ≡ frame_at s) where
    inside : (m : Message) → Some m ≡ named_by e f.kind f.code → (r : Read Opening) → r ≡ opened_at (table_of e m) (container_of e m) s f.from
        → verdict_of (table_of e m) m f s r ≡ understood u → Opened e s u
    inside m n (Ok o) r v =
        let z : understood_by (table_of e m) m f s o ≡ u = cc in
        subst (λ (x : Understood). Opened e s x) z (record { size = size; framed = q; named = n; opening = o; read = r; is = refl })
    inside m n (Err x) r v = not_refused v

    passed : (m : Message) → Some m ≡ named_by e f.kind f.code → (b : Bool)
        → pick b (verdict_of (table_of e m) m f s (opened_at (table_of e m) (container_of e m) s f.from)) (refused NotAmong) ≡ understood u → Opened e s u
    passed m n true v = inside m n (opened_at (table_of e m) (container_of e m) s f.from) refl v
    passed m n false v = not_refused v

    those : (n : Option Message) → n ≡ named_by e f.kind f.code → of_those e among s f n ≡ understood u → Opened e s u
    those (Some m) n v = passed m n (among m) v
    those None n v = not_refused v

  within : length s ≤ 8192 → (r : Read Frame) → r ≡ frame_at s → framed e among s r ≡ understood u → Opened e s u
  within size (Ok f) q v = those size f q (named_by e f.kind f.code) refl v
  within size (Err x) q v = not_refused v

  pub opened : read_of e among s ≡ understood u → Opened e s u
  unfolding read_of
  opened v = by (ltb 8192 (length s)) refl v
    where
      by : (b : Bool) → ltb 8192 (length s) ≡ b → pick b (refused TooLong) (framed e among s (frame_at s)) ≡ understood u → Opened e s u
      by true z v = not_refused v
      by false z v = within (ltb-false 8192 (length s) z) (frame_at s) refl v

-- ---- answer 0

-- all n elements count, and no entry rejects
pub accepted_tests : (n : ℕ) (x : judge.Found) → outcome_by n x ≡ outcome.Accepted → (n ≤ x.place) × (some (λ (e : Entry). eqb e.crit 0) x.listed ≡ false)
accepted_tests n x q = by (ltb x.place n) refl (some (λ (e : Entry). eqb e.crit 0) x.listed) q
  where
    by : (b : Bool) → ltb x.place n ≡ b → (y : Bool) → pick b (outcome.Misplaced x.place) (pick y outcome.Rejected outcome.Accepted) ≡ outcome.Accepted → (n ≤ x.place) × (y ≡ false)
    by true e y q = cc
    by false e true q = cc
    by false e false q = (ltb-false x.place n e, refl)

pub record Accepted (t : List Row) (s : List ℕ) (from n : ℕ) (o : Opening) : Type 0 where
  pub end : ℕ
  pub scan : Ok end ≡ scan_at t s n (from + 3)
  pub ends : Ok tt ≡ ends_at s end
  pub all : n ≤ length (judge.front t 0 (heads_at s n (from + 3)))
  pub spans : o.spans ≡ judge.read_of t (judge.front t 0 (heads_at s n (from + 3)))

pub accepted : (t : List Row) (c : Bool) (s : List ℕ) (from n : ℕ) (o : Opening) → Ok o ≡ opened_at t c s from → Ok (record { elements = n; container = false }) ≡ count_at c s from
    → o.outcome ≡ outcome.Accepted → Accepted t s from n o
unfolding opened_at judge.elements_at judge.extensions_at judge.judged_of
accepted t c s from n o q k z =
    let a = then_got (count_at c s from) _ q in
    let b : Ok o ≡ judge.elements_at t false s n (from + 3) >>= λ x. Ok (opening_by n x) = rw (same_got (a.1 ∙ sym k)) at a.2 in
    let d = then_got (judge.elements_at t false s n (from + 3)) _ b in
    let x = then_got (judge.extensions_behind t false s n (from + 3)) _ d.1 in
    let h = then_got (scan_at t s n (from + 3)) _ x.1 in
    let y : o ≡ opening_by n (judge.judged_of t n (heads_at s n (from + 3)) x.0) = same_got d.2 ∙ ap (opening_by n) (same_got x.2) in
    record {
      end = h.0;
      scan = h.1;
      ends = (then_got (ends_at s h.0) _ h.2).1;
      all = (accepted_tests n (judge.judged_of t n (heads_at s n (from + 3)) x.0) (sym (ap (λ (z : Opening). z.outcome) y) ∙ z)).0;
      spans = ap (λ (z : Opening). z.spans) y;
    }
