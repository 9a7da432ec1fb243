-- The judging of a message: a refusal with its answer and reply, or a request of which nothing is absent. The unit is not looked at.
use Rattle.editions.specs.declared.Message.{Message}
use Rattle.std.specs.Prelude.{ℕ, Bool, false, not, ◌&&◌, List, [], ltb, length, Result, Ok, Err, None, Option, Some}
use Rattle.octets.specs.Read.{Read}
use Rattle.identity.specs.declared.Item.{Item}
use Rattle.entries.specs.declared.Entry.{Entry}
use Rattle.frames.specs.declared.Frame.{Frame}
use Rattle.frames.specs.Frame.{frame_at}
use Rattle.editions.specs.declared.Edition.{Edition}
use Rattle.editions.specs.Editions.{named_by}
use Rattle.verdicts.specs.Verdict.{Verdict, refused, understood, Understood, read_of}
use Rattle.requests.specs.declared.Request.{Request}
use Rattle.requests.specs.Requests.{ask_of, asks, answers_setup, seen, items_in}
use Rattle.replies.specs.Replies.{Replied, silent, replied}
use Rattle.carry.specs.declared.Answer.{Answer}
use Rattle.carry.specs.declared.Answer.TheVariants as answer
use Rattle.carry.specs.Carry.{Ruling, ruling, refusal}

-- a request, the items of a partial reset, and what replies are made of besides: the frame and what is noted
pub record Accepted : Type 0 where
  pub request : Request
  pub items : List Item
  pub frame : Frame
  pub noted : List Entry

-- a refusal, with its reply
pub record Refused : Type 0 where
  pub answer : Answer
  pub reply : Replied

abbrev pub Judged : Type 0
Judged = Result Accepted Refused

module _ (e : Edition) where
  abbrev pub ruled : Understood → Ruling → Judged
  ruled u (Ok q) = Ok (record { request = q; items = items_in u.what; frame = u.frame; noted = u.noted })
  ruled u (Err r) = Err (record { answer = answer.Rejected; reply = replied e u.frame [] u.noted r })

  -- what is not read is refused without a reply
  unfoldable pub judged_by : Verdict → Judged
  judged_by (refused x) = Err (record { answer = refusal x; reply = silent })
  judged_by (understood u) = ruled u (ruling (ask_of u.what.message) (seen u.what.values) u.outcome)

  -- among the messages that ask
  abbrev pub verdict : List ℕ → Verdict
  verdict s = read_of e asks s

  abbrev pub judged : List ℕ → Judged
  judged s = judged_by (verdict s)

  -- ---- a message that by its frame answers a setup request, whatever is inside

  abbrev pub is_answer : Option Message → Bool
  is_answer (Some m) = answers_setup (ask_of m)
  is_answer None = false

  abbrev pub framed_answer : Read Frame → Bool
  framed_answer (Ok f) = is_answer (named_by e f.kind f.code)
  framed_answer (Err x) = false

  unfoldable pub setup_answer : List ℕ → Bool
  setup_answer s = not (ltb 8192 (length s)) && framed_answer (frame_at s)
