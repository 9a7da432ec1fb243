-- The call, the reader, the writer, the setup and the shown name as a process in C has them; reading and writing in any edition.
use Rattle.std.specs.Prelude.{ℕ, ◌-◌, ◌≡◌, List, leb, length}
use Rattle.lists.specs.Lists.{pick}
use Rattle.octets.specs.declared.Stop.TheVariants.{Fault, Extension}
use Rattle.editions.specs.declared.Edition.{Edition}
use Rattle.verdicts.specs.declared.Refusal.{Refusal}
use Rattle.verdicts.specs.declared.Refusal.TheVariants.{TooLong, Stopped, NotAmong}
use Rattle.verdicts.specs.declared.Outcome.{Outcome}
use Rattle.verdicts.specs.declared.Outcome.TheVariants.{Accepted, Misplaced, Rejected}
use Rattle.verdicts.specs.Verdict.{Verdict, refused, understood, every, read_of}
use Rattle.meaning.specs.Value.{Record}
use Rattle.layout.specs.Record.{record_out, written, name_refused}
use Rattle.plan.specs.Written as plan
use Rattle.plan.specs.Written.{Writing, written_in}
use Rattle.answers.specs.Answers.{numbered}
use Rattle.calls.specs.Call.{Back}
use Rattle.setup.specs.Setup.{setup_number, SetupDone}
use Rattle.shown.specs.declared.Part.{Part}
use Rattle.link.specs.declared.Answer.{Answer}
use Rattle.link.specs.declared.Part as own

-- what a call comes back with, in numbers: the number and place of the answer, the reply's length, how long to wait, and what is left in the unit and the room
pub record CallHanded (b : Back) (r : Answer) (t d : List ℕ) : Type 0 where
  pub answer : r.answer ≡ (numbered b.answer).number
  pub place : r.place ≡ (numbered b.answer).place
  pub octets : r.octets ≡ length b.reply
  pub bit : r.bit ≡ 0
  pub wait : r.wait ≡ (numbered b.answer).wait
  pub unit : t ≡ b.unit
  pub room : d ≡ b.room

-- ---- reading and writing

-- an answer in numbers, and what is left in the room
pub record HandedBack : Type 0 where
  pub answer : Answer
  pub room : List ℕ

abbrev pub handed_back : ℕ → ℕ → ℕ → List ℕ → HandedBack
handed_back n place octets d = record { answer = record { answer = n; place = place; octets = octets; bit = 0; wait = 0 }; room = d }

-- 01's number of a refusal, and the octet at fault
abbrev pub refusal_number : Refusal → ℕ
refusal_number TooLong = 1
refusal_number (Stopped (Fault p)) = 2
refusal_number (Stopped (Extension p)) = 3
refusal_number NotAmong = 4

abbrev pub refusal_place : Refusal → ℕ
refusal_place TooLong = 0
refusal_place (Stopped (Fault p)) = p.octet
refusal_place (Stopped (Extension p)) = p.octet
refusal_place NotAmong = 0

-- 01's number of an outcome
abbrev pub outcome_number : Outcome → ℕ
outcome_number Accepted = 0
outcome_number (Misplaced k) = 5
outcome_number Rejected = 5

-- the record stands in front of the room, or does not fit
unfoldable pub recorded : Edition → ℕ → Record → List ℕ → HandedBack
recorded e n r d = pick (leb 2662 (length d)) (handed_back n 0 2662 (record_out e r d)) (handed_back 10 0 0 d)

-- there is a record where the message was understood, its elements rejected or not
abbrev pub verdict_as : Edition → List ℕ → Verdict → HandedBack
verdict_as e d (refused x) = handed_back (refusal_number x) (refusal_place x) 0 d
verdict_as e d (understood u) = recorded e (outcome_number u.outcome) u.what d

unfoldable pub read_for : Edition → List ℕ → List ℕ → HandedBack
read_for e s d = verdict_as e d (read_of e every s)

abbrev pub written_as : Writing → HandedBack
written_as w = handed_back (plan.written_number w.answer) 0 (plan.put_of w.answer) w.room

unfoldable pub allowed_for : Edition → List ℕ → List ℕ → List ℕ → HandedBack
allowed_for e s values d = written_as (written_in d (written e s values))

-- 12 comes before 11 and 10
unfoldable pub write_for : Edition → List ℕ → List ℕ → List ℕ → HandedBack
write_for e s values d = pick (name_refused e s values) (handed_back 12 0 0 d) (allowed_for e s values d)

-- what a setup comes back with, in numbers
pub record SetupHanded (b : SetupDone) (r : Answer) (t d : List ℕ) : Type 0 where
  pub answer : r ≡ (handed_back (setup_number b.answer) 0 (length b.request) d).answer
  pub unit : t ≡ b.unit
  pub room : d ≡ b.room

-- a part of the request, or of the label, in numbers
abbrev pub part_for : Part → own.Part
part_for p = record { of_label = pick p.of_label 1 0; from = p.span.from; octets = p.span.to - p.span.from }

-- this answer, and this room at exit
pub record Put (g : HandedBack) (r : Answer) (d : List ℕ) : Type 0 where
  pub answer : r ≡ g.answer
  pub room : d ≡ g.room
