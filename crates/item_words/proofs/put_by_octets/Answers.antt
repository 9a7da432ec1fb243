-- `item_words::put_by_octets` meets its contract: the runs of octets that are put are those of the item, whichever identities it has. Assumes nothing.
use Rattle.put_values.specs.Put.{crit_of}
use Rattle.octets.proofs.Writing.{wrote_then}
use Rattle.item_words.proofs.Written.{word_octets}
use Rattle.item_words.proofs.put_by_octets.Goals as goal

pub returns : goal.returns
returns c = rw (← word_octets (crit_of c.args.crit) c.args.w c.there-a.ensures.0 c.there-b.ensures.0 c.crit_octet.ensures)
    (wrote_then (wrote_then (wrote_then (wrote_then c.put_three-size.ensures c.put_octet-marks.ensures) c.put_octet-mme.ensures) c.put_half-mce.ensures) c.put_half.ensures)
