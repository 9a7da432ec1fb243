-- The verdict on octets, by the steps in which the code comes to it, among whatever messages pass.
--     too_long, frame_stops, not_named, not_among   they are refused; judged_inside   or it is the verdict on what is inside
--     verdict_stops, passed                         what is inside, by what the judging hands back: it stops, or all of it was found
-- Assumes nothing.
use Prim.Native.Nat.{ℕ, ◌-◌, ◌≤◌, ◌<◌}
use mathlib.Core.Path.{◌≡◌, ◌∙◌, refl, sym, ap}
use mathlib.Core.Bool.{Bool, true, false}
use mathlib.Core.List.{List, [], ◌∷◌, ◌++◌}
use native.Mathlib.Omega.{arith}
use borrow.Author.Tests.{lt-ltb, le-ltb}
use lib.ListN.{length, replicate}
use Rattle.lists.specs.Lists.{pick, fill}
use Rattle.std.specs.Prelude.{Ok, Err, None, Some}
use Rattle.octets.specs.Read.{Read}
use Rattle.octets.specs.declared.Stop.{Stop}
use Rattle.octets.specs.declared.Span.{Span}
use Rattle.octets.specs.Span.{no_span}
use Rattle.rows.specs.declared.Row.{Row}
use Rattle.editions.specs.declared.Edition.{Edition}
use Rattle.editions.specs.declared.Message.{Message}
use Rattle.editions.specs.Editions.{table_of, container_of, named_by}
use Rattle.frames.specs.declared.Frame.{Frame}
use Rattle.frames.specs.Frame.{frame_at}
use Rattle.meaning.specs.Reading.{value_in, values_in}
use Rattle.verdicts.specs.declared.Refusal.TheVariants.{TooLong, Stopped, NotAmong}
use Rattle.verdicts.specs.Verdict.{Opening, opened_at, refused, verdict_of, of_those, read_of}
use Rattle.judging.specs.declared.Opened.{Opened}
use Rattle.judging.specs.Judging.{spans_by, Opens}
use Rattle.judging.proofs.OpenedLaws.{got_by, stop_by, opened_rows}

-- ---- up to the message

module _ (e : Edition) (among : Message → Bool) (s : List ℕ) where
  pub too_long : 8192 < length s → read_of e among s ≡ refused TooLong
  unfolding read_of
  too_long h = rw (lt-ltb 8192 (length s) h)

  module _ (h : length s ≤ 8192) where
    pub frame_stops : {x : Stop} → Err x ≡ frame_at s → read_of e among s ≡ refused (Stopped x)
    unfolding read_of
    frame_stops q = rw (le-ltb 8192 (length s) h, ← q)

    module _ {f : Frame} (q : Ok f ≡ frame_at s) where
      framed_by : read_of e among s ≡ of_those e among s f (named_by e f.kind f.code)
      unfolding read_of
      framed_by = rw (le-ltb 8192 (length s) h, ← q)

      pub not_named : named_by e f.kind f.code ≡ None → read_of e among s ≡ refused NotAmong
      not_named n = framed_by ∙ ap (of_those e among s f) n

      module _ {m : Message} (n : named_by e f.kind f.code ≡ Some m) where
        by_test : {b : Bool} → among m ≡ b → read_of e among s ≡ pick b (verdict_of (table_of e m) m f s (opened_at (table_of e m) (container_of e m) s f.from)) (refused NotAmong)
        by_test a = framed_by ∙ (ap (of_those e among s f) n ∙ ap (λ (b : Bool). pick b (verdict_of (table_of e m) m f s (opened_at (table_of e m) (container_of e m) s f.from)) (refused NotAmong)) a)

        pub not_among : among m ≡ false → read_of e among s ≡ refused NotAmong
        not_among a = by_test a

        pub judged_inside : among m ≡ true → read_of e among s ≡ verdict_of (table_of e m) m f s (opened_at (table_of e m) (container_of e m) s f.from)
        judged_inside a = by_test a

-- ---- what is inside

-- what stands behind the places of the rows is not looked at
values_front : (t : List Row) (s : List ℕ) (l k : List Span) → length l ≡ length t → values_in t s (l ++ k) ≡ values_in t s l
unfolding values_in
values_front [] s l k q = refl
values_front (r ∷ t) s [] k q = absurd (omega arith)
values_front (r ∷ t) s (v ∷ l) k q = let n : length l ≡ length t = omega arith in ap (value_in r.kind s v ∷◌) (values_front t s l k n)

-- what was found, and the values that stand at the places
pub record Passed (e : Edition) (m : Message) (f : Frame) (s : List ℕ) (t : List Row) (o : Opened) (ps : List Span) : Type 0 where
  pub opening : Opening
  pub is : opened_at (table_of e m) (container_of e m) s f.from ≡ Ok opening
  pub outcome : o.outcome ≡ opening.outcome
  pub spans : ps ≡ fill no_span 12 opening.spans
  pub values : values_in t s ps ≡ values_in (table_of e m) s opening.spans

module _ (e : Edition) (m : Message) (f : Frame) (s : List ℕ) {t : List Row} {c : Bool} (rows : t ≡ table_of e m) (container : c ≡ container_of e m) {r : Read Opened} {ps : List Span} (q : Opens (opened_at t c s f.from) r ps) where
  same : opened_at t c s f.from ≡ opened_at (table_of e m) (container_of e m) s f.from
  same = cc

  pub verdict_stops : {x : Stop} → r ≡ Err x → verdict_of (table_of e m) m f s (opened_at (table_of e m) (container_of e m) s f.from) ≡ refused (Stopped x)
  verdict_stops g = ap (verdict_of (table_of e m) m f s) (sym (stop_by (opened_at t c s f.from) (sym g ∙ q.result) ∙ same))

  pub passed : {o : Opened} → r ≡ Ok o → Passed e m f s t o ps
  passed g =
      let y = got_by (opened_at t c s f.from) (sym g ∙ q.result) in
      let k = y.1 ∙ same in
      let a : ps ≡ fill no_span 12 y.0.spans = q.places ∙ ap spans_by (sym y.1) in
      record {
        opening = y.0;
        is = sym k;
        outcome = ap (λ (z : Opened). z.outcome) y.2;
        spans = a;
        values = ap (λ (x : List Row). values_in x s ps) rows ∙ (ap (values_in (table_of e m) s) a ∙ values_front (table_of e m) s y.0.spans (replicate (12 - length y.0.spans) no_span) (opened_rows (table_of e m) (container_of e m) s f.from k));
      }
