-- The verdict on octets, in an edition, among the messages that pass a test: all of them for the reader, those that ask for the table call.
-- Answers 1 to 4 have no record; else there is a record, accepted or rejected, with the frame and what is noted.
use Rattle.std.specs.Prelude.{ℕ, ◌+◌, Bool, true, List, ltb, eqb, length, take, Ok, Err, None, Option, Some}
use Rattle.lists.specs.Lists.{pick, some}
use Rattle.octets.specs.Read.{Read, ◌>>=◌}
use Rattle.octets.specs.declared.Span.{Span}
use Rattle.entries.specs.declared.Entry.{Entry}
use Rattle.rows.specs.declared.Row.{Row}
use Rattle.elements.specs.Judge.{Found, elements_at}
use Rattle.editions.specs.declared.Message.{Message}
use Rattle.editions.specs.declared.Edition.{Edition}
use Rattle.editions.specs.Editions.{table_of, container_of, named_by}
use Rattle.frames.specs.declared.Frame.{Frame}
use Rattle.frames.specs.Frame.{frame_at, count_at}
use Rattle.meaning.specs.Value.{Record}
use Rattle.meaning.specs.Reading.{values_in}
use Rattle.verdicts.specs.declared.Outcome.{Outcome}
use Rattle.verdicts.specs.declared.Outcome.TheVariants.{Accepted, Misplaced, Rejected}
use Rattle.verdicts.specs.declared.Refusal.{Refusal}
use Rattle.verdicts.specs.declared.Refusal.TheVariants.{TooLong, Stopped, NotAmong}

-- ---- what is inside the frame, before any value is taken over

pub record Opening : Type 0 where
  pub outcome : Outcome
  pub spans : List Span
  pub noted : List Entry

-- rule 1: not all of the n elements count; else rule 2: criticality reject is listed; else rule 3
abbrev pub outcome_by : ℕ → Found → Outcome
outcome_by n x = pick (ltb x.place n) (Misplaced x.place) (pick (some (λ (e : Entry). eqb e.crit 0) x.listed) Rejected Accepted)

-- the first 256 diagnostics are noted
abbrev pub opening_by : ℕ → Found → Opening
opening_by n x = record { outcome = outcome_by n x; spans = x.spans; noted = take 256 x.listed }

-- how the message opens, and the elements behind that; c: it can have a container
unfoldable pub opened_at : List Row → Bool → List ℕ → ℕ → Read Opening
opened_at t c s from = do
  n ← count_at c s from
  x ← elements_at t n.container s n.elements (from + 3)
  Ok (opening_by n.elements x)

-- ---- the verdict

pub record Understood : Type 0 where
  pub frame : Frame
  pub outcome : Outcome
  pub what : Record
  pub noted : List Entry

pub data Verdict : Type 0 where
  refused : Refusal → Verdict
  understood : Understood → Verdict

-- the values taken over
abbrev pub understood_by : List Row → Message → Frame → List ℕ → Opening → Understood
understood_by t m f s o = record {
  frame = f;
  outcome = o.outcome;
  what = record { message = m; crit = f.crit; values = values_in t s o.spans };
  noted = o.noted;
}

abbrev pub verdict_of : List Row → Message → Frame → List ℕ → Read Opening → Verdict
verdict_of t m f s (Ok o) = understood (understood_by t m f s o)
verdict_of t m f s (Err x) = refused (Stopped x)

-- the reader reads every message
abbrev pub every : Message → Bool
every m = true

module _ (e : Edition) (among : Message → Bool) where
  abbrev pub of_those : List ℕ → Frame → Option Message → Verdict
  of_those s f (Some m) = pick (among m) (verdict_of (table_of e m) m f s (opened_at (table_of e m) (container_of e m) s f.from)) (refused NotAmong)
  of_those s f None = refused NotAmong

  abbrev pub framed : List ℕ → Read Frame → Verdict
  framed s (Ok f) = of_those s f (named_by e f.kind f.code)
  framed s (Err x) = refused (Stopped x)

  -- over 8,192 octets; the frame; a message that passes; what is inside
  unfoldable pub read_of : List ℕ → Verdict
  read_of s = pick (ltb 8192 (length s)) (refused TooLong) (framed s (frame_at s))
