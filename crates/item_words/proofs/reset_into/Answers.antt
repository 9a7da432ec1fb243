-- the whole interface keeps the words
use Rattle.items.specs.Items.{reset_at}
use Rattle.std.proofs.Common.{rules}
use Rattle.item_words.proofs.reset_into.Goals as goal

pub returns-else-branch : goal.returns-else-branch
unfolding reset_at
returns-else-branch c = let h = c.whole_into.ensures c.args.words.now in search rules
