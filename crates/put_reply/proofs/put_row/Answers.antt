-- `put_reply::put_row` meets its contract: what stands before the value, and the value. Assumes nothing.
use mathlib.Core.List.{map}
use Rattle.octets.proofs.Writing.{wrote_then}
use Rattle.item_words.specs.Words.{item_of}
use Rattle.entry_words.specs.EntryWords.{entry_by}
use Rattle.plan.proofs.Steps.{wrote_as}
use Rattle.plan.proofs.Messages.{element_is}
use Rattle.put_reply.specs.Parts.{value_by}
use Rattle.put_reply.proofs.put_row.Goals as goal

pub returns : goal.returns
returns c =
    let a = c.args in
    let v = value_by (map item_of a.kept.now) (map entry_by a.noted.now) c.in-Some.part in
    rw c.in-Some.is (wrote_as (element_is a.row v c.requires.1 (rw c.in-Some.is at c.requires.2) c.requires.3) (wrote_then c.put_front-value.ensures c.put_part.ensures))
