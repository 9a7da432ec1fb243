-- Only Criticality Diagnostics announce entries.
use native.Mathlib.Omega.{arith}
use borrow.Author.Tests.{lt-ltb, le-ltb}
use Rattle.diagnostics.specs.Diagnostics.{diagnostics_at}
use Rattle.meaning.specs.Reading.{read_as}
use Rattle.reader.proofs.Slots.{got_of}
use Rattle.reader.proofs.Begin.{no_entries_there, diagnostics_entries, no_entries}
use Rattle.reader.proofs.entries_from.Goals as goal

pub returns-then-v-eq0 : goal.returns-then-v-eq0
returns-then-v-eq0 c = no_entries_there _ _ _ (le-ltb 0 c.args.v.to (omega arith))

pub list_from-requires : goal.list_from-requires
unfolding read_as
list_from-requires c = got_of (diagnostics_at _ _ _) _ (rw c.in-Diagnostics.is at (c.requires (lt-ltb 0 c.args.v.to (omega arith))).value)

pub returns-in-Diagnostics : goal.returns-in-Diagnostics
returns-in-Diagnostics c = rw c.in-Diagnostics.is (diagnostics_entries c.args.s.now c.args.v c.in-Diagnostics.t c.list_from.result (lt-ltb 0 c.args.v.to (omega arith)) c.list_from.ensures)

pub returns-in_default : goal.returns-in_default
returns-in_default c = no_entries _ _ _ c.in_default.not-Diagnostics
