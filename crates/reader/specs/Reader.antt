-- Scaffolding: no demand speaks of it. What the reader answers, and what it leaves in the room, by the verdict on the octets.
use Rattle.std.specs.Prelude.{ℕ, ◌≡◌, List, leb, length, Result, Ok, Err}
use Rattle.lists.specs.Lists.{pick}
use Rattle.editions.specs.declared.Edition.{Edition}
use Rattle.verdicts.specs.Verdict.{Verdict, refused, understood}
use Rattle.layout.specs.Record.{record_out}
use Rattle.verdicts.specs.declared.Outcome.{Outcome}
use Rattle.reader.specs.declared.Unread.{Unread}
use Rattle.reader.specs.declared.Unread.TheVariants.{Refused, NoRoom}

abbrev pub answer_to : Verdict → ℕ → Result Outcome Unread
answer_to (refused x) n = Err (Refused x)
answer_to (understood u) n = pick (leb 2662 n) (Ok u.outcome) (Err NoRoom)

-- nothing is put for octets that are refused, nor into a room that is too small
abbrev pub left_in : Edition → Verdict → List ℕ → List ℕ
left_in e (refused x) d = d
left_in e (understood u) d = record_out e u.what d

-- the answer to a verdict in a room d is r, and m is what is left there
abbrev pub Answers : Edition → Verdict → List ℕ → Result Outcome Unread → List ℕ → Type 0
Answers e v d r m = (r ≡ answer_to v (length d)) × (m ≡ left_in e v d)
