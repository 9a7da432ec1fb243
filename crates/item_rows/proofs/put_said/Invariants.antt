use lib.ListN.{take}
use Rattle.items.specs.Written.{item_element_octets}
use Rattle.put_values.specs.Put.{crit_of}
use Rattle.layout.specs.Record.{lists_in}
use Rattle.octets.specs.Write.{Wrote}
use Rattle.octets.specs.Many.{each_octets}
use Rattle.item_rows.proofs.put_said.Given as goal

abbrev pub invariant-loop-i : goal.invariant-loop-i
invariant-loop-i l = Wrote l.initial.room l.initial.next (each_octets (item_element_octets (crit_of l.crit)) (take l.i (lists_in l.s).items)) l.room l.next
