-- Reading answers as 01's table says.
-- Assumes nothing.
use Prim.Native.Nat.{ℕ}
use mathlib.Core.Path.{◌≡◌, refl, ap, sym, ◌∙◌}
use mathlib.Core.Bool.{Bool, true, false, not}
use mathlib.Core.List.{List, [], ◌∷◌}
use lib.Dec.{ltb, leb}
use lib.ListN.{length}
use Rattle.lists.specs.Lists.{pick}
use Rattle.std.specs.Prelude.{Ok, Err, None, Option, Some}
use Rattle.octets.specs.Read.{Read}
use Rattle.octets.specs.declared.Stop.TheVariants.{Fault, Extension}
use Rattle.frames.specs.declared.Frame.{Frame}
use Rattle.frames.specs.Frame.{frame_at, count_at}
use Rattle.editions.specs.declared.Edition.{Edition}
use Rattle.editions.specs.declared.Message.{Message}
use Rattle.editions.specs.Editions.{table_of, container_of, named_by}
use Rattle.meaning.specs.Value.{Record}
use Rattle.meaning.specs.Reading.{values_in}
use Rattle.layout.specs.Record.{record_out}
use Rattle.verdicts.specs.declared.Refusal.TheVariants as refusal
use Rattle.verdicts.specs.declared.Outcome.{Outcome}
use Rattle.verdicts.specs.declared.Outcome.TheVariants as outcome
use Rattle.verdicts.specs.Verdict.{Opening, opened_at, refused, understood_by, verdict_of, of_those, framed, every, read_of}
use Rattle.requests.specs.declared.Ask.{Ask}
use Rattle.requests.specs.declared.Seen.{Seen}
use Rattle.requests.specs.Requests.{ask_of, seen}
use Rattle.demands.specs.Due.{Due, ◌when◌reply◌, first_due, not_accepted, Inside, MaybeInside, counted_by, judged_in, inside_of, inside_by}
use Rattle.demands.proofs.Answers.{inside_is}
use Rattle.link.specs.Link.{handed_back, outcome_number, recorded, verdict_as, read_for}
use Rattle.link.specs.ReadsAs.{read_refusals, read_due_for, ReadsAs}

-- what is due behind the first row
abbrev behind : List ℕ → Read Frame → MaybeInside → Due
behind d f i = first_due (0 when true reply None) (read_refusals f i d)

first_is : (s d : List ℕ) (f : Read Frame) (i : MaybeInside) (b : Bool) → ltb 8192 (length s) ≡ b → (read_due_for s f i d).number ≡ (pick b (1 when b reply None) (behind d f i)).number
first_is s d f i b e = ap (λ (b : Bool). (pick b (1 when b reply None) (behind d f i)).number) e

-- inside, by what is read there
abbrev opening : Inside → Read Opening → MaybeInside
opening x o = Some (record { ask = x.ask; opened = o; outcome = x.outcome; seen = x.seen })

module _ (e : Edition) where
  module _ (s d : List ℕ) (f : Frame) where
    abbrev due : MaybeInside → ℕ
    due i = (behind d (Ok f) i).number

    judged_due : (b : Bool) (x : Outcome) (r : Record)
        → (pick b (handed_back (outcome_number x) 0 2662 (record_out e r d)) (handed_back 10 0 0 d)).answer.answer
        ≡ (first_due (0 when true reply None) (10 when not b reply None ∷ 5 when not_accepted x reply None ∷ [])).number
    judged_due true outcome.Accepted r = refl
    judged_due true (outcome.Misplaced k) r = refl
    judged_due true outcome.Rejected r = refl
    judged_due false x r = refl

    judged : (o : Opening) (q : Ask) (x : Outcome) (y : Seen) (r : Record)
        → (recorded e (outcome_number x) r d).answer.answer ≡ due (Some (record { ask = q; opened = Ok o; outcome = x; seen = y }))
    unfolding recorded
    judged o q x y r = judged_due (leb 2662 (length d)) x r

    module _ (m : Message) (name : named_by e f.kind f.code ≡ Some m) where
      abbrev within : Inside
      within = judged_in (table_of e m) (container_of e m) s f.from (counted_by (count_at (container_of e m) s f.from)) (ask_of m)

      stopped : (o : Read Opening) → opened_at (table_of e m) (container_of e m) s f.from ≡ o → due (opening within o) ≡ due (inside_by e s (Ok f))
      stopped o q = sym (ap (λ (n : Option Message). due (inside_of e s f n)) name ∙ ap (λ (x : Read Opening). due (opening within x)) q)

      opened : (o : Read Opening) → opened_at (table_of e m) (container_of e m) s f.from ≡ o
          → (verdict_as e d (verdict_of (table_of e m) m f s o)).answer.answer ≡ due (inside_by e s (Ok f))
      opened (Ok o) q =
          judged o (ask_of m) o.outcome (seen (values_in (table_of e m) s o.spans)) (understood_by (table_of e m) m f s o).what
          ∙ sym (ap due (inside_is e s f m name o q))
      opened (Err (Fault p)) q = stopped (Err (Fault p)) q
      opened (Err (Extension p)) q = stopped (Err (Extension p)) q

    by_name : (n : Option Message) → named_by e f.kind f.code ≡ n → (verdict_as e d (of_those e every s f n)).answer.answer ≡ due (inside_by e s (Ok f))
    by_name (Some m) name = opened m name (opened_at (table_of e m) (container_of e m) s f.from) refl
    by_name None name = sym (ap (λ (n : Option Message). due (inside_of e s f n)) name)

  framed_as : (s d : List ℕ) (r : Read Frame) → (verdict_as e d (framed e every s r)).answer.answer ≡ (behind d r (inside_by e s r)).number
  framed_as s d (Ok f) = by_name s d f (named_by e f.kind f.code) refl
  framed_as s d (Err (Fault p)) = refl
  framed_as s d (Err (Extension p)) = refl

  pub reads_as : ReadsAs e
  unfolding read_for read_of
  reads_as s d = by (ltb 8192 (length s)) refl
    where
      by : (b : Bool) → ltb 8192 (length s) ≡ b → (verdict_as e d (pick (ltb 8192 (length s)) (refused refusal.TooLong) (framed e every s (frame_at s)))).answer.answer
          ≡ (read_due_for s (frame_at s) (inside_by e s (frame_at s)) d).number
      by true z = ap (λ (b : Bool). (verdict_as e d (pick b (refused refusal.TooLong) (framed e every s (frame_at s)))).answer.answer) z ∙ sym (first_is s d (frame_at s) (inside_by e s (frame_at s)) true z)
      by false z =
          ap (λ (b : Bool). (verdict_as e d (pick b (refused refusal.TooLong) (framed e every s (frame_at s)))).answer.answer) z
          ∙ (framed_as s d (frame_at s) ∙ sym (first_is s d (frame_at s) (inside_by e s (frame_at s)) false z))
