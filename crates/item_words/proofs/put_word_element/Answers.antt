-- an item with both identities is put at once
use Rattle.put_values.specs.Put.{crit_of}
use Rattle.item_words.proofs.Written.{full_octets_lem, if_nine}
use Rattle.item_words.proofs.put_word_element.Goals as goal

pub returns-then-is_nine : goal.returns-then-is_nine
returns-then-is_nine c =
    let h = if_nine c.is_nine.result _ _ _ _ c.if-is_nine.true c.is_nine.ensures in
    rw (← full_octets_lem (crit_of c.args.crit) c.args.w h.0 h.1 c.crit_octet.ensures) c.put_full.ensures
