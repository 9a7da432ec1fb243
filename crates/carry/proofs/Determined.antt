-- For each public function: any two results that its statement allows are equal.
-- Assumes nothing.
use mathlib.Core.Path.{refl}
use Rattle.lists.proofs.Unique.{Determined, ◌same◌, ◌&◌}
use Rattle.carry.proofs.rule.Kinds as rule'
use Rattle.carry.proofs.rule.Reads as rule
use Rattle.carry.proofs.decide.Kinds as decide'
use Rattle.carry.proofs.decide.Reads as decide
use Rattle.carry.proofs.asked.Kinds as asked'
use Rattle.carry.proofs.asked.Reads as asked

pub rule_is : Determined rule'.ps rule'.r rule.Asked rule.Learnt
rule_is κs a p x y e f = (e same f) & refl

pub decide_is : Determined decide'.ps decide'.r decide.Asked decide.Learnt
decide_is κs a p x y e f = (e same f) & refl

pub asked_is : Determined asked'.ps asked'.r asked.Asked asked.Learnt
asked_is κs a p x y e f = (e same f) & refl
