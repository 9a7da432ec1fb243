-- Scaffolding: no demand speaks of it. The criticalities of the envelopes of items, as numbers: reject in a RESET, ignore in an acknowledgement.
use Rattle.std.specs.Prelude.{ℕ}
use Rattle.items.specs.Written.{reset_crit, acknowledgement_crit}
use Rattle.put_values.specs.declared.Criticality.{Criticality}
use Rattle.put_values.specs.declared.Criticality.TheVariants as criticality

abbrev pub crit_of : Criticality → ℕ
crit_of criticality.Reject = reset_crit
crit_of criticality.Ignore = acknowledgement_crit
