use Prim.Native.Nat.{◌+◌, ◌*◌}
use mathlib.Core.Path.{◌≡◌}
use mathlib.Core.Bool.{false}
use lib.ListN.{drop}
use Rattle.rows.specs.Table.{rows_in}
use Rattle.record_form.specs.Form.{form_from}
use Rattle.record_form.proofs.form_of.Given as goal

abbrev pub invariant-loop-i : goal.invariant-loop-i
invariant-loop-i l = form_from l.items l.entries (drop l.i (rows_in l.rows)) (drop (2 + 8 * l.i) l.s) ≡ form_from false false (rows_in l.rows) (drop 2 l.s)
