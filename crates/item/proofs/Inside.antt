-- Where an item stands.
-- Assumes nothing.
use mathlib.Core.Path.{◌≡◌, sym}
use mathlib.Core.Bool.{Bool, true, false}
use mathlib.Core.List.{List}
use Prim.Native.Nat.{ℕ, ◌+◌, ◌≤◌}
use native.Mathlib.Omega.{arith}
use lib.ListN.{length, take}
use lib.Seq.{length-take-le}
use Rattle.std.specs.Prelude.{Ok}
use Rattle.octets.specs.Field.{plain_at, same_at, open_at}
use Rattle.octets.specs.declared.Span.{Span}
use Rattle.octets.proofs.Chain.{then_got}
use Rattle.octets.proofs.Got.{plain_got, wanted_got, open_in}
use Rattle.item.specs.Item.{behind, item_marks_at}
use Rattle.item.specs.declared.Marks.{Marks}

pub marks_in_lem : (s : List ℕ) (at : ℕ) {h : Marks} → Ok h ≡ item_marks_at s at → at + 1 ≤ length s
unfolding item_marks_at
marks_in_lem s at q = (plain_got s at 0 (then_got (plain_at s at 0) _ q).1).0

pub behind_le : (there : Bool) (at : ℕ) → behind there at ≤ at + 2
behind_le false at = omega arith
behind_le true at = omega arith

-- the id of an envelope stands inside
pub id_in : (s : List ℕ) (at v : ℕ) {u : Unit} → Ok u ≡ same_at v s at → at + 2 ≤ length s
id_in s at v q = (wanted_got s at v q).0

-- the octets up to the end of an open value are as many as its end says
pub ends_in : (s : List ℕ) (at : ℕ) {v : Span} → Ok v ≡ open_at s at → v.to ≡ length (take v.to s)
ends_in s at {v} q = sym (length-take-le v.to s (open_in s at q).2)
