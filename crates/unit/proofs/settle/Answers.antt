-- the reply does not fit; or it stands, and then the table
use Rattle.std.proofs.Common.{refl, map, take}
use Rattle.item_words.specs.Words.{item_of}
use Rattle.entry_words.specs.EntryWords.{entry_by}
use Rattle.unit.specs.Unit.{unit_in}
use Rattle.replies.specs.Replies.{Replied, replied}
use Rattle.calls.specs.Decided.{Decided, changed}
use Rattle.unit.proofs.Laws.{sent_put, no_room_lem, done}
use Rattle.unit.proofs.settle.Goals as goal

pub returns-in-Some : goal.returns-in-Some
returns-in-Some c =
    let a = c.args in
    let h = a.h.now in
    let is = map item_of (take 256 a.kept.now) in
    let reply : Replied = replied h.edition h.frame (map item_of a.kept.now) (map entry_by a.noted.now) a.d.reply in
    let made : Decided = changed (unit_in a.n a.unit.now) is reply a.d.change in
    let g = c.finish.ensures reply in
    rw g.back (done h.edition a.unit.now a.room.now made (sent_put h.edition a.room.now (unit_in a.n a.unit.now) is reply a.d.change c.in-Some.is c.put_reply.ensures) refl g.unit)

pub returns-in-None : goal.returns-in-None
returns-in-None c =
    let a = c.args in
    let h = a.h.now in
    let is = map item_of (take 256 a.kept.now) in
    let reply : Replied = replied h.edition h.frame (map item_of a.kept.now) (map entry_by a.noted.now) a.d.reply in
    let made : Decided = changed (unit_in a.n a.unit.now) is reply a.d.change in
    rw c.hand_back.ensures (no_room_lem h.edition a.unit.now a.room.now made (sent_put h.edition a.room.now (unit_in a.n a.unit.now) is reply a.d.change c.in-None.is c.put_reply.ensures))
