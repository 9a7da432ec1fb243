-- What writing leaves: an answer, and the room.
use Rattle.plan.specs.declared.Unwritten.{Unwritten}
use Rattle.plan.specs.declared.Unwritten.TheVariants.{NoRoom, NotWritten}
use Rattle.std.specs.Prelude.{ℕ, ◌+◌, ◌≡◌, List, ◌++◌, ltb, leb, length, drop, Err, Result, None, Ok, Some}
use Rattle.lists.specs.Lists.{pick}
use Rattle.editions.specs.declared.Code.{Code}
use Rattle.meaning.specs.Written.{Encoded, octets, none}
use Rattle.plan.specs.Plan.{message_size, opening_octets, Plan}

abbrev pub Written : Type 0
Written = Result ℕ Unwritten

-- 01's number of each case, and the octets put
abbrev pub written_number : Written → ℕ
written_number (Ok n) = 0
written_number (Err NoRoom) = 10
written_number (Err NotWritten) = 11

abbrev pub put_of : Written → ℕ
put_of (Ok n) = n
put_of (Err NoRoom) = 0
put_of (Err NotWritten) = 0

pub record Writing : Type 0 where
  pub answer : Written
  pub room : List ℕ

abbrev pub kept : Written → List ℕ → Writing
kept r l = record { answer = r; room = l }

abbrev pub in_front : List ℕ → List ℕ → Writing
in_front l os = record { answer = Ok (length os); room = os ++ drop (length os) l }

-- octets that fit stand in front, and the rest is kept; else all of the room is kept
unfoldable pub written_in : List ℕ → Encoded → Writing
written_in l none = kept (Err NotWritten) l
written_in l (octets os) = pick (leb (length os) (length l)) (in_front l os) (kept (Err NoRoom) l)

-- this answer, and this room at exit
pub record Writes (w : Writing) (r : Written) (m : List ℕ) : Type 0 where
  pub answer : r ≡ w.answer
  pub room : m ≡ w.room

-- what stands before the elements, if the whole message is written and fits
unfoldable pub begun_in : List ℕ → Code → Plan → Writing
begun_in l c None = kept (Err NotWritten) l
begun_in l c (Some (n, q)) = pick (ltb 8192 (message_size q)) (kept (Err NotWritten) l) (pick (ltb (length l) (message_size q)) (kept (Err NoRoom) l) (in_front l (opening_octets c (q + 3) n)))
