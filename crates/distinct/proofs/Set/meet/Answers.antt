-- The number's bit of its word; where there is no word nothing is in the set.
use Rattle.std.proofs.Common.{◌≡◌, ◌<◌, ap, length, arith}
use Rattle.lists.proofs.Slices.{length_of}
use borrow.Author.Rules.{rules}
use Rattle.distinct.specs.Bits.{in_set, with_in}
use Rattle.distinct.specs.declared.Met.{Met}
use Rattle.distinct.proofs.Told.{told_word, told_bit, none_in, none_with}
use Rattle.distinct.proofs.Set.meet.Goals as goal

pub returns-then-this-eq0-clause-was : goal.returns-then-this-eq0-clause-was
returns-then-this-eq0-clause-was g c =
    let none : length c.args.self.now.words ≡ g.row.W = search (rules, length_of) in
    none_in g.row.W c.args.self.now.words _ (omega (arith, none))

pub returns-then-this-eq0-clause-with : goal.returns-then-this-eq0-clause-with
returns-then-this-eq0-clause-with g c =
    let none : length c.args.self.now.words ≡ g.row.W = search (rules, length_of) in
    none_with g.row.W c.args.self.now.words _ (omega (arith, none))

pub returns-clause-was : goal.returns-clause-was
unfolding in_set
returns-clause-was g c =
    let some : 0 < g.row.W = omega arith in
    rw (told_word _ _ some, told_bit _ _ some, ap (λ (m : Met). m.was) c.meet-m.ensures) cc

pub returns-clause-with : goal.returns-clause-with
unfolding with_in
returns-clause-with g c =
    let some : 0 < g.row.W = omega arith in
    rw (told_word _ _ some, told_bit _ _ some, ap (λ (m : Met). m.word) c.meet-m.ensures) cc
