use Rattle.reader.proofs.Slots.{part_is}
use Rattle.reader.proofs.is_part.Goals as goal

pub returns : goal.returns
returns c = rw (c.unwrap_or.ensures, c.flag_at.ensures) (part_is _ _ c.requires)
