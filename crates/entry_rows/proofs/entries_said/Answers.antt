-- `entry_rows::entries_said` meets its contract: the words of the rows passed stand in front.
-- Assumes nothing.
use mathlib.Core.List.{List, map, map-append}
use mathlib.Core.Path.{◌∙◌, ap}
use lib.Seq.{sets}
use Rattle.entries.specs.declared.Entry.{Entry}
use Rattle.entry_rows.proofs.Saying.{passed_all, passed_more, said_all}
use Rattle.entry_words.specs.EntryWords.{entry_word}
use Rattle.octets.proofs.Writing.{wrote_then}
use Rattle.entry_rows.proofs.entries_said.Goals as goal

pub loop-i-preserved : goal.loop-i-preserved
loop-i-preserved c = let q = c.entry_word.ensures ∙ ap entry_word c.row_at-e.ensures in
    (_, passed_more c.loop-i.invariant.1 c.loop-i-test.true, rw (map-append, ← q) (wrote_then c.loop-i.invariant.2 c.put-to.ensures))

pub returns : goal.returns
returns c = let s = c.args.s.now in
    let e = c.said_entries-n.ensures in
    (e, c.loop-i.invariant.2.octets ∙ ap (λ (es : List Entry). sets c.args.words.now 0 (map entry_word es)) (passed_all c.loop-i.invariant.1 c.loop-i-test.false ∙ said_all s e))
