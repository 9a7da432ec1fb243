-- For each public function: any two results that its statement allows are equal.
use mathlib.Core.Path.{refl}
use Rattle.lists.proofs.Unique.{Determined, ◌&◌, ◌same◌}
use Rattle.table.proofs.no_association.Kinds as no_association'
use Rattle.table.proofs.no_association.Reads as no_association
use Rattle.table.proofs.empty.Kinds as empty'
use Rattle.table.proofs.empty.Reads as empty
use Rattle.table.proofs.names.Kinds as names'
use Rattle.table.proofs.names.Reads as names
use Rattle.table.proofs.start.Kinds as start'
use Rattle.table.proofs.start.Reads as start
use Rattle.table.proofs.stop.Kinds as stop'
use Rattle.table.proofs.stop.Reads as stop

pub no_association_is : Determined no_association'.ps no_association'.r no_association.Asked no_association.Learnt
no_association_is κs a p x y e f = (e same f) & refl

pub empty_is : Determined empty'.ps empty'.r empty.Asked empty.Learnt
empty_is κs a p x y e f = (e same f) & refl

pub names_is : Determined names'.ps names'.r names.Asked names.Learnt
names_is κs a p x y e f = (e same f) & refl

pub start_is : Determined start'.ps start'.r start.Asked start.Learnt
start_is κs a p x y e f = (e same f) & refl

pub stop_is : Determined stop'.ps stop'.r stop.Asked stop.Learnt
stop_is κs a p x y e f = (e same f) & refl
