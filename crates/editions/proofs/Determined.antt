-- For each public function: any two results that its statement allows are equal.
-- Assumes nothing.
use mathlib.Core.Path.{refl}
use Rattle.lists.proofs.Unique.{Determined, DeterminedAs, ◌same◌, ◌&◌}
use Rattle.rows.specs.Table.{rows_in}
use Rattle.editions.proofs.rows_of.Kinds as rows_of'
use Rattle.editions.proofs.rows_of.Reads as rows_of_lem
use Rattle.editions.proofs.code_of.Kinds as code_of'
use Rattle.editions.proofs.code_of.Reads as code_of_lem
use Rattle.editions.proofs.number_of.Kinds as number_of'
use Rattle.editions.proofs.number_of.Reads as number_of_lem
use Rattle.editions.proofs.has_container.Kinds as has_container'
use Rattle.editions.proofs.has_container.Reads as has_container
use Rattle.editions.proofs.message_of.Kinds as message_of'
use Rattle.editions.proofs.message_of.Reads as message_of
use Rattle.editions.proofs.numbered.Kinds as numbered'
use Rattle.editions.proofs.numbered.Reads as numbered

pub rows_of_is : DeterminedAs rows_of'.ps rows_of'.r (λ κs t. rows_in t) rows_of_lem.Asked rows_of_lem.Learnt
rows_of_is κs a p x y e f = (e same f) & refl

pub code_of_is : Determined code_of'.ps code_of'.r code_of_lem.Asked code_of_lem.Learnt
code_of_is κs a p x y e f = (e same f) & refl

pub number_of_is : Determined number_of'.ps number_of'.r number_of_lem.Asked number_of_lem.Learnt
number_of_is κs a p x y e f = (e same f) & refl

pub has_container_is : Determined has_container'.ps has_container'.r has_container.Asked has_container.Learnt
has_container_is κs a p x y e f = (e same f) & refl

pub message_of_is : Determined message_of'.ps message_of'.r message_of.Asked message_of.Learnt
message_of_is κs a p x y e f = (e same f) & refl

pub numbered_is : Determined numbered'.ps numbered'.r numbered.Asked numbered.Learnt
numbered_is κs a p x y e f = (e same f) & refl
