-- Every message stands among all (listed), by computing: a line for each. So a test that none of them fails, each passes (every).
--     first_listed      the first that passes a test is one of those it was sought among
-- Assumes nothing.
use Rattle.std.specs.Prelude.{Some}
use mathlib.Core.Path.{◌≡◌, refl}
use mathlib.Core.Bool.{Bool, true, false, not, ◌&&◌}
use mathlib.Core.List.{List, [], ◌∷◌, ◌++◌, Memᴰ}
use Prim.Native.Nat.{ℕ}
use native.Mathlib.Omega.{arith}
use borrow.Author.Tests.{not-false}
use lib.Dec.{eqb}
use Rattle.lists.specs.Lists.{pick, some}
use Rattle.lists.proofs.Some.{none_at}
use Rattle.editions.specs.declared.Edition.TheVariants.{Release18, Warnings}
use Rattle.editions.specs.declared.Message.{Message}
use Rattle.editions.specs.declared.Message.TheVariants as message
use Rattle.editions.specs.Editions.{printed, messages_of, first_of}

abbrev pub all_messages : List Message
all_messages = messages_of Release18 ++ messages_of Warnings

-- of one number, kind and code
abbrev same : Message → Message → Bool
same m x = eqb (printed m).number (printed x).number && (eqb (printed m).code.kind (printed x).code.kind && eqb (printed m).code.code (printed x).code.code)

found : (m : Message) → first_of (same m) all_messages ≡ Some m
unfolding first_of printed
found message.StartRequest = refl
found message.StartResponse = refl
found message.StartFailure = refl
found message.StopRequest = refl
found message.StopResponse = refl
found message.Reset = refl
found message.ResetAcknowledge = refl
found message.ErrorIndication = refl
found message.SetupRequest = refl
found message.SetupResponse = refl
found message.SetupFailure = refl
found message.StopWarningRequest = refl
found message.StopWarningResponse = refl
found message.WarningErrorIndication = refl

-- the first that passes is one of them
pub first_listed : (p : Message → Bool) (m : Message) (ms : List Message) → first_of p ms ≡ Some m → Memᴰ m ms
unfolding first_of
first_listed p m [] q = let z : ◌≡◌ {A = ℕ} 0 1 = cc in absurd (omega arith)
first_listed p m (x ∷ ms) q = by (p x) (first_listed p m ms) q
  where
    by : (b : Bool) → (first_of p ms ≡ Some m → Memᴰ m ms) → pick b (Some x) (first_of p ms) ≡ Some m → Memᴰ m (x ∷ ms)
    by true go q = let h : m ≡ x = cc in Memᴰ.head h
    by false go q = Memᴰ.tail (go q)

listed : (m : Message) → Memᴰ m all_messages
listed m = first_listed (same m) m all_messages (found m)

pub every : (p : Message → Bool) → some (λ (m : Message). not (p m)) all_messages ≡ false → (m : Message) → p m ≡ true
every p h m = not-false (p m) (none_at (λ (x : Message). not (p x)) (listed m) h)
