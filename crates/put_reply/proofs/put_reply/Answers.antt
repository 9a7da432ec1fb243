-- `put_reply::put_reply` meets its contract: the message of its parts is what it says; without octets nothing is put. Assumes nothing.
use mathlib.Core.Path.{sym, ◌∙◌}
use mathlib.Core.List.{map}
use Rattle.item_words.specs.Words.{item_of}
use Rattle.entry_words.specs.EntryWords.{entry_by}
use Rattle.put_reply.proofs.Replies.{said_none, said_by_lem, sends_none, sends_as}
use Rattle.put_reply.proofs.put_reply.Goals as goal

pub returns-in_default : goal.returns-in_default
returns-in_default c = let a = c.args in sends_none a.room.now a.e (said_none a.f (map item_of a.kept.now) (map entry_by a.noted.now) a.e a.r (sym c.message_of.ensures ∙ c.in_default.is))

pub returns : goal.returns
returns c = let a = c.args in rw c.sent_as.ensures (sends_as a.room.now a.e _ (said_by_lem a.f a.kept.now a.noted.now a.e a.r (sym c.message_of.ensures ∙ c.in-Some.is) c.parts_of-p.ensures) c.put_parts.ensures)
