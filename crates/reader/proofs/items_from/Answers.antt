-- By the kind: of a part of the interface behind its first octet, of an acknowledgement with it.
use mathlib.Core.Path.{◌≡◌, sym}
use mathlib.Core.Bool.{true}
use lib.Dec.{ltb}
use native.Mathlib.Omega.{arith}
use borrow.Author.Tests.{lt-ltb, le-ltb}
use Rattle.items.specs.Items.{items_at, reset_at}
use Rattle.meaning.specs.Reading.{read_as}
use Rattle.reader.proofs.Slots.{got_some, got_of}
use Rattle.reader.proofs.Begin.{no_items_there, reset_items, list_items, no_items}
use Rattle.reader.proofs.items_from.Goals as goal

pub returns-then-v-eq0 : goal.returns-then-v-eq0
returns-then-v-eq0 c = no_items_there _ _ _ (le-ltb 0 c.args.v.to (omega arith))

pub is_part-requires : goal.is_part-requires
unfolding read_as
is_part-requires c = got_of (reset_at _ _) _ (rw c.in-ResetType.is at (c.requires (lt-ltb 0 c.args.v.to (omega arith))).value)

pub returns-in-ResetType : goal.returns-in-ResetType
returns-in-ResetType c =
    let p : ltb 0 c.args.v.to ≡ true = lt-ltb 0 c.args.v.to (omega arith) in
    rw (c.in-ResetType.is, c.then_some.ensures) (reset_items _ _ _ p c.is_part.ensures)

pub returns-in-Acknowledged : goal.returns-in-Acknowledged
unfolding read_as
returns-in-Acknowledged c =
    let p : ltb 0 c.args.v.to ≡ true = lt-ltb 0 c.args.v.to (omega arith) in
    let x = got_some (items_at _ _) (got_of (items_at _ _) _ (rw c.in-Acknowledged.is at (c.requires p).value)) in
    rw c.in-Acknowledged.is (list_items _ _ x.0 p (sym x.1))

pub returns-in_default : goal.returns-in_default
returns-in_default c = no_items _ _ _ (c.in_default.not-ResetType, c.in_default.not-Acknowledged)
