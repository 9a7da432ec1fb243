-- a list that was checked is read, so that its words stand in front
use native.Mathlib.Omega.{arith}
use Rattle.octets.proofs.Got.{number_got}
use Rattle.item_words.proofs.Reading.{in_list, all_taking}
use Rattle.item_words.proofs.items_into.Goals as goal

pub overflow_add-at : goal.overflow_add-at
overflow_add-at c = let h = number_got _ _ _ c.in_ok-n.ensures in omega arith

pub returns : goal.returns
returns c =
    let l = in_list c.args.s.now c.args.at c.in_ok-n.ensures c.in_ok-items_gate.ensures in
    all_taking l.0 c.args.words.now c.words_from.new.words c.words_from.result l.1 l.2 l.3 c.words_from.ensures
