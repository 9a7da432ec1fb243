-- `entry_words::list_into` meets its contract: where the gate is passed, the list is known by its number, and all of it is put.
-- Assumes nothing.
use mathlib.Core.List.{map}
use Rattle.entry_words.proofs.Laws.{in_list, taken_all, wrote_known}
use Rattle.entry_words.specs.EntryWords.{entry_word}
use Rattle.entry_words.proofs.list_into.Goals as goal

pub returns : goal.returns
returns c = let a = c.args in
    let e = c.if-not-there.false in
    let l = in_list a.s.now a.at c.in_ok-octet_at.ensures (rw e at c.in_ok-list_gate.ensures) in
    let w = wrote_known (map entry_word) a.words.now 0 c.words_from.new.words c.words_from.result l.1 (rw c.from-n.ensures at c.words_from.ensures) in
    rw (e, c.from-n.ensures) (taken_all a.words.now l.0.value l.2 l.3 w)
