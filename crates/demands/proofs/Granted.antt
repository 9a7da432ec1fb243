-- A decision that accepts is carried out wherever the room has 8,192 octets: no reply is longer.
-- Assumes nothing.
use Prim.Native.Nat.{ℕ, ◌≤◌}
use mathlib.Core.Path.{◌≡◌, refl, ap, ◌∙◌}
use mathlib.Core.Bool.{Bool, true, false}
use mathlib.Core.List.{List}
use native.Mathlib.Omega.{arith}
use borrow.Author.Tests.{leb-true}
use lib.ListN.{length}
use Rattle.lists.proofs.Tests.{and_right}
use Rattle.editions.specs.declared.Edition.{Edition}
use Rattle.editions.specs.Editions.{table_of}
use Rattle.meaning.specs.Written.{message_octets, elements_good, is_written, encoded}
use Rattle.units.specs.Unit.{Unit, is_unit, read_unit}
use Rattle.replies.specs.Replies.{Replied, silent, says, reply_octets}
use Rattle.calls.specs.Decided.{Decided, keeps, changes, fails}
use Rattle.calls.specs.Call.{Call, reply_of, decided_on}
use Rattle.demands.specs.Answered.{number_of}
use Rattle.demands.proofs.Done.{number, fitting}

module _ (e : Edition) where
  said_small : (r : Replied) → length (reply_octets e r) ≤ 8192
  unfolding reply_octets encoded
  said_small silent = omega arith
  said_small (says w) = by (is_written e w) refl
    where
      by : (b : Bool) → is_written e w ≡ b → length (reply_octets e (says w)) ≤ 8192
      by true f = rw f (leb-true (length (message_octets e w)) 8192 (and_right (elements_good (table_of e w.message) w.values) _ f))
      by false f = rw f (omega arith)

  reply_small : (x : Decided) → length (reply_of e x) ≤ 8192
  reply_small (keeps a r) = said_small r
  reply_small (changes u r) = said_small r
  reply_small (fails u w r) = said_small r

  pub granted : (t : List ℕ) (c : Call) (u : Unit) → read_unit t ≡ is_unit u → 8192 ≤ length c.room
      → {x : Decided} → decided_on e u c ≡ x → number x ≡ 0 → number_of e t c ≡ 0
  granted t c u i b q h = let k = reply_small (decided_on e u c) in fitting e t c u i (omega arith) ∙ ap number q ∙ h
