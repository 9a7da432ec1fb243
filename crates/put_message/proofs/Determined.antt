-- For each public function: any two results that its statement allows are equal, with what is left in the room.
-- Assumes nothing.
use mathlib.Core.Path.{refl}
use Rattle.lists.proofs.Unique.{Determined, ◌same◌, ◌&◌}
use Rattle.put_message.proofs.write.Kinds as write'
use Rattle.put_message.proofs.write.Reads as write

pub write_is : Determined write'.ps write'.r write.Asked write.Learnt
write_is κs a p x y e f = (e.answer same f.answer) & refl & refl & refl & (e.room same f.room) & refl
