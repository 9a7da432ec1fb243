-- `put_message::put_list` meets its contract: the words in front of the array say the entries. Assumes nothing.
use mathlib.Core.Path.{◌≡◌, ◌∙◌, sym, ap}
use native.Mathlib.Omega.{arith}
use lib.ListN.{length}
use lib.Seq.{length-take-le, length-sets}
use Rattle.plan.proofs.Steps.{wrote_as}
use Rattle.put_message.proofs.Words.{entries_few, words_front, listed_said}
use borrow.Author.Rules.{rules}
use Rattle.put_message.proofs.put_list.Goals as goal

pub slice_bounds-words-end : goal.slice_bounds-words-end
slice_bounds-words-end c = let k : length c.entries_said-n.new.words ≡ 256 = ap length c.entries_said-n.ensures.1 ∙ simp length-sets in omega (arith, c.entries_said-n.ensures.0, entries_few c.args.s.now)

pub slice_bounds-put_listed-end : goal.slice_bounds-put_listed-end
slice_bounds-put_listed-end c = let k : length c.entries_said-n.new.words ≡ 256 = ap length c.entries_said-n.ensures.1 ∙ simp length-sets in sym (length-take-le _ c.entries_said-n.new.words (omega (arith, c.entries_said-n.ensures.0, entries_few c.args.s.now)))

pub returns : goal.returns
returns c = let s = c.args.s.now in wrote_as (listed_said c.args.head s (λ i. (c.shared_slice_known-1.given i).fits) (words_front s c.entries_said-n.ensures.0 _ (search rules) c.entries_said-n.ensures.1)) c.put_listed.ensures
