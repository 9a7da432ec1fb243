-- where nothing is noted the list is empty; else the words say it
use Rattle.std.proofs.Common.{sym, ◌∙◌, ℕ}
use lib.ListN.{length-replicate}
use lib.Seq.{length-take-le}
use Rattle.rows.specs.Table.{rows_in}
use Rattle.unit.specs.Heard.{noted_heard}
use Rattle.unit.proofs.Noted.{none_noted, noted_within, noted_back}
use Rattle.unit.proofs.settle_noted.Goals as goal

pub returns-then-h-eq0 : goal.returns-then-h-eq0
returns-then-h-eq0 c = let h = c.args.h.now in rw (none_noted (noted_heard h) (sym h.counted ∙ c.if-h-eq0.true)) c.settle_items.ensures

pub slice_bounds-words-end : goal.slice_bounds-words-end
slice_bounds-words-end c = let h = c.args.h.now in noted_within (rows_in h.rows) h.container h.message.now h.frame.from h.fit h.octets (length-replicate {A = ℕ} 256 0) c.noted_into-all.ensures

pub slice_bounds-settle_items-end-2 : goal.slice_bounds-settle_items-end-2
slice_bounds-settle_items-end-2 c = let h = c.args.h.now in sym (length-take-le _ _ (noted_within (rows_in h.rows) h.container h.message.now h.frame.from h.fit h.octets (length-replicate {A = ℕ} 256 0) c.noted_into-all.ensures))

pub returns : goal.returns
returns c = let h = c.args.h.now in rw (noted_back (rows_in h.rows) h.container h.message.now h.frame.from h.fit h.octets (length-replicate {A = ℕ} 256 0) c.noted_into-all.ensures) at c.settle_items-2.ensures
