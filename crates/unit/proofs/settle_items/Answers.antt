-- in a partial reset the words kept say the items that have an identity; nothing else looks at items
use Rattle.std.proofs.Common.{sym, ◌∙◌, ℕ, [], map}
use lib.ListN.{length-replicate}
use lib.Seq.{length-take-le}
use Rattle.rows.specs.Table.{rows_in}
use Rattle.entry_words.specs.EntryWords.{entry_by}
use Rattle.unit.specs.Unit.{unit_in}
use Rattle.unit.specs.Heard.{items_heard, applied_with}
use Rattle.unit.proofs.Items.{items_fit, kept_from}
use Rattle.unit.proofs.Laws.{applied_kept, applied_any, settled_as}
use Rattle.unit.proofs.settle_items.Goals as goal

pub slice_bounds-words-end : goal.slice_bounds-words-end
slice_bounds-words-end c =
    let h = c.args.h.now in
    (kept_from (items_heard h) (items_fit h.message.now h.octets (rows_in h.rows) h.places.now) _ _ _ (length-replicate {A = ℕ} 256 0) c.items_in-all.ensures.0 c.items_in-all.ensures.1 c.keep_identified-kept.ensures.0 c.keep_identified-kept.ensures.1).within

pub slice_bounds-settle-end : goal.slice_bounds-settle-end
slice_bounds-settle-end c =
    let h = c.args.h.now in
    sym (length-take-le _ _ (kept_from (items_heard h) (items_fit h.message.now h.octets (rows_in h.rows) h.places.now) _ _ _ (length-replicate {A = ℕ} 256 0) c.items_in-all.ensures.0 c.items_in-all.ensures.1 c.keep_identified-kept.ensures.0 c.keep_identified-kept.ensures.1).within)

pub returns-then-is_reset : goal.returns-then-is_reset
returns-then-is_reset c =
    let a = c.args in
    let h = a.h.now in
    let k = kept_from (items_heard h) (items_fit h.message.now h.octets (rows_in h.rows) h.places.now) _ _ _ (length-replicate {A = ℕ} 256 0) c.items_in-all.ensures.0 c.items_in-all.ensures.1 c.keep_identified-kept.ensures.0 c.keep_identified-kept.ensures.1 in
    settled_as h.edition a.unit.now a.room.now (applied_with h (map entry_by a.noted.now) (unit_in a.n a.unit.now) a.d)
    (applied_kept h.edition (unit_in a.n a.unit.now) h.frame (items_heard h) (map entry_by a.noted.now) a.d k.reset k.items) c.settle.ensures

pub returns : goal.returns
returns c =
    let a = c.args in
    let h = a.h.now in
    settled_as h.edition a.unit.now a.room.now (applied_with h (map entry_by a.noted.now) (unit_in a.n a.unit.now) a.d)
    (applied_any h.edition (unit_in a.n a.unit.now) h.frame (items_heard h) (map entry_by a.noted.now) a.d [] [] c.requires.reply_value (sym c.is_reset.ensures ∙ c.if-is_reset.false)) c.settle-2.ensures
