-- For the public function: any two results that its statement allows are equal, with what is left in the room.
-- Assumes nothing.
use mathlib.Core.Path.{refl}
use Rattle.lists.proofs.Unique.{Determined, ◌same◌, ◌&◌}
use Rattle.put_reply.proofs.put_reply.Kinds as put_reply'
use Rattle.put_reply.proofs.put_reply.Reads as put_reply

pub put_reply_is : Determined put_reply'.ps put_reply'.r put_reply.Asked put_reply.Learnt
put_reply_is κs a p x y e f = (e.answer same f.answer) & refl & refl & refl & refl & refl & (e.room same f.room) & refl
