use Prim.Native.Nat.{◌+◌, ◌*◌}
use mathlib.Core.Path.{◌≡◌}
use lib.ListN.{drop}
use Rattle.rows.specs.Table.{rows_in}
use Rattle.record_form.specs.BadNames.{slots_bad}
use Rattle.record_form.proofs.are_slots_bad.Given as goal

abbrev pub invariant-loop-i : goal.invariant-loop-i
invariant-loop-i l = slots_bad l.values (drop l.i (rows_in l.rows)) (drop (2 + 8 * l.i) l.s) ≡ slots_bad l.values (rows_in l.rows) (drop 2 l.s)
