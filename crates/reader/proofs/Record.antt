-- What is put is the record of what was understood. It has 2,662 octets, since what was read can be held; so the front of the room is the record and the rest is kept.
--     read_held        whatever is understood can be held by a record; record_kept  so the octets that are put say all of it
-- Assumes nothing.
use mathlib.Core.Path.{◌≡◌, refl, sym, ap, ◌∙◌, subst}
use mathlib.Core.Bool.{Bool, true, false}
use mathlib.Core.List.{List, ◌++◌}
use Prim.Native.Nat.{ℕ, ◌≤◌, ◌<◌}
use native.Mathlib.Omega.{arith}
use borrow.Author.Tests.{le-leb, lt-leb, ltb-false}
use lib.Dec.{ltb}
use lib.ListN.{length, drop}
use Rattle.lists.specs.Lists.{pick}
use Rattle.std.specs.Prelude.{Result, Ok, Err, None, Option, Some}
use Rattle.octets.specs.Read.{Read}
use Rattle.octets.specs.Stands.{Octets}
use Rattle.octets.specs.declared.Span.{Span}
use Rattle.rows.specs.declared.Row.{Row}
use Rattle.octets.proofs.Writing.{sets_front}
use Rattle.editions.specs.declared.Edition.{Edition}
use Rattle.editions.specs.declared.Message.{Message}
use Rattle.editions.specs.Editions.{table_of, container_of, named_by}
use Rattle.editions.proofs.Tables.{table_lawful}
use Rattle.editions.proofs.Names.{number_names, named_listed}
use Rattle.frames.specs.declared.Frame.{Frame}
use Rattle.frames.specs.Frame.{frame_at}
use Rattle.meaning.specs.Value.{Record}
use Rattle.meaning.specs.Reading.{values_in}
use Rattle.verdicts.specs.declared.Refusal.{Refusal}
use Rattle.verdicts.specs.declared.Refusal.TheVariants.{TooLong}
use Rattle.verdicts.specs.Verdict.{Opening, opened_at, Understood, Verdict, refused, understood, understood_by, verdict_of, every, of_those, framed, read_of}
use Rattle.judging.specs.declared.Opened.{Opened}
use Rattle.judging.specs.Judging.{Opens}
use Rattle.judging.proofs.Steps.{Passed, passed}
use Rattle.layout.specs.Held.{Held}
use Rattle.layout.specs.Record.{record_octets, is_record, read_record}
use Rattle.layout.proofs.RecordBack.{held_size, record_back}
use Rattle.verdicts.specs.declared.Outcome.{Outcome}
use Rattle.reader.specs.declared.Unread.{Unread}
use Rattle.reader.specs.declared.Unread.TheVariants.{Refused, NoRoom}
use Rattle.reader.specs.Reader.{Answers}
use Rattle.reader.specs.Steps.{AllLegible, PutIn}
use Rattle.reader.proofs.Judged.{opened_spans, array_legible}
use Rattle.reader.proofs.Fitting.{values_fit}

-- ---- what was read can be held

module _ (e : Edition) (m : Message) (f : Frame) (n : named_by e f.kind f.code ≡ Some m) (s : List ℕ) (o : Octets s) (b : length s ≤ 8192) where
  opening_held : {y : Opening} → Ok y ≡ opened_at (table_of e m) (container_of e m) s f.from → Held e (understood_by (table_of e m) m f s y).what
  opening_held {y} q =
      let g = opened_spans (table_of e m) s (container_of e m) f.from q in
      record { message = number_names e m (named_listed e f.kind f.code m n); table = table_lawful e m; values = values_fit (table_of e m) s y.spans o b g.count g.each }

not_refused : {A : Type 0} {x : Refusal} {u : Understood} → refused x ≡ understood u → A
not_refused q = absurd (let z : ◌≡◌ {A = ℕ} 0 1 = cc in omega arith)

same_understood : {u w : Understood} → understood u ≡ understood w → u ≡ w
same_understood q = cc

module _ (e : Edition) (s : List ℕ) (o : Octets s) {u : Understood} where
  inside_held : length s ≤ 8192 → (m : Message) (f : Frame) → named_by e f.kind f.code ≡ Some m → (r : Read Opening) → r ≡ opened_at (table_of e m) (container_of e m) s f.from
      → verdict_of (table_of e m) m f s r ≡ understood u → Held e u.what
  inside_held b m f n (Ok y) q v = subst (λ (w : Understood). Held e w.what) (same_understood v) (opening_held e m f n s o b q)
  inside_held b m f n (Err x) q v = not_refused v

  named_held : length s ≤ 8192 → (f : Frame) (n : Option Message) → named_by e f.kind f.code ≡ n → of_those e every s f n ≡ understood u → Held e u.what
  named_held b f (Some m) n v = inside_held b m f n (opened_at (table_of e m) (container_of e m) s f.from) refl v
  named_held b f None n v = not_refused v

  framed_held : length s ≤ 8192 → (r : Read Frame) → framed e every s r ≡ understood u → Held e u.what
  framed_held b (Ok f) v = named_held b f (named_by e f.kind f.code) refl v
  framed_held b (Err x) v = not_refused v

  pub read_held : read_of e every s ≡ understood u → Held e u.what
  unfolding read_of
  read_held v = by (ltb 8192 (length s)) refl v
    where
      by : (t : Bool) → ltb 8192 (length s) ≡ t → pick t (refused TooLong) (framed e every s (frame_at s)) ≡ understood u → Held e u.what
      by true z v = not_refused v
      by false z v = framed_held (ltb-false 8192 (length s) z) (frame_at s) v

  pub record_kept : read_of e every s ≡ understood u → read_record e (record_octets e u.what) ≡ is_record u.what
  record_kept v = record_back e u.what (read_held v)

-- ---- the room

put_front : (e : Edition) (r : Record) (d : List ℕ) {m : List ℕ} → Held e r → 2662 ≤ length d → PutIn e r d m → m ≡ record_octets e r ++ drop 2662 d
put_front e r d g h p =
    let z = held_size e r g in
    p ∙ (sets_front d (record_octets e r) (omega arith) ∙ ap (λ (n : ℕ). record_octets e r ++ drop n d) z)

-- ---- as the code has it: the table, and what the judging hands back

module _ (e : Edition) (m : Message) (f : Frame) (s : List ℕ) {t : List Row} (rows : t ≡ table_of e m) {c : Bool} (container : c ≡ container_of e m) {r : Read Opened} {ps : List Span} (q : Opens (opened_at t c s f.from) r ps) {x : Opened} (g : r ≡ Ok x) where
  found : Passed e m f s t x ps
  found = passed e m f s rows container q g

  pub all_legible : AllLegible t s ps
  all_legible = rw (rows, found.spans) (array_legible (table_of e m) s (opened_spans (table_of e m) s (container_of e m) f.from (sym found.is)))

  pub too_small : {d : List ℕ} → length d < 2662 → Answers e (verdict_of (table_of e m) m f s (opened_at (table_of e m) (container_of e m) s f.from)) d (Err NoRoom) d
  too_small {d} h =
      let z = lt-leb 2662 (length d) h in
      subst (λ (r : Read Opening). Answers e (verdict_of (table_of e m) m f s r) d (Err NoRoom) d) (sym found.is) (rw z, rw z)

  pub is_put : Octets s → length s ≤ 8192 → named_by e f.kind f.code ≡ Some m → (d : List ℕ) {k : List ℕ} → 2662 ≤ length d
      → PutIn e (record { message = m; crit = f.crit; values = values_in t s ps }) d k
      → Answers e (verdict_of (table_of e m) m f s (opened_at (table_of e m) (container_of e m) s f.from)) d (Ok x.outcome) k
  is_put o b n d {k} h p =
      let put : PutIn e (record { message = m; crit = f.crit; values = values_in (table_of e m) s found.opening.spans }) d k = rw found.values at p in
      let z = le-leb 2662 (length d) h in
      let front = put_front e (understood_by (table_of e m) m f s found.opening).what d (opening_held e m f n s o b (sym found.is)) h put in
      subst (λ (r : Read Opening). Answers e (verdict_of (table_of e m) m f s r) d (Ok x.outcome) k) (sym found.is) (rw z (ap Ok found.outcome), rw z front)

-- ---- which verdict it is

pub answers_as : (e : Edition) {v w : Verdict} (d : List ℕ) {r : Result Outcome Unread} {k : List ℕ} → v ≡ w → Answers e w d r k → Answers e v d r k
answers_as e d {r} {k} q a = subst (λ (x : Verdict). Answers e x d r k) (sym q) a

pub answers_refused : (e : Edition) {v : Verdict} {x : Refusal} (d : List ℕ) → v ≡ refused x → Answers e v d (Err (Refused x)) d
answers_refused e d q = answers_as e d q (refl, refl)
