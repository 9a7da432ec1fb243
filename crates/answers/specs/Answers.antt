-- 01's and 02's number of each answer of the table call, with its place, the octet at fault for 2 and 3, 0 otherwise,
-- and how many seconds to wait: those of a setup that failed with a Time to Wait, 0 otherwise.
use Rattle.std.specs.Prelude.{ℕ, None, Option, Some}
use Rattle.octets.specs.declared.Stop.TheVariants.{Fault, Extension}
use Rattle.values.specs.Values.{seconds}
use Rattle.carry.specs.declared.Answer.{Answer}
use Rattle.carry.specs.declared.Answer.TheVariants.{CarriedOut, TooLong, Stopped, NoRequest, Rejected, MmeHeld, OfferHeld, PairNotHeld, Full, NoRoom, NoneOpen, SetupFailed, NoUnit}

pub record Numbered : Type 0 where
  pub number : ℕ
  pub place : ℕ
  pub wait : ℕ

abbrev plain : ℕ → Numbered
plain n = record { number = n; place = 0; wait = 0 }

-- beside no Time to Wait it is 0, which no number means
abbrev pub wait_of : Option ℕ → ℕ
wait_of (Some v) = seconds v
wait_of None = 0

abbrev pub numbered : Answer → Numbered
numbered CarriedOut = plain 0
numbered TooLong = plain 1
numbered (Stopped (Fault p)) = record { number = 2; place = p.octet; wait = 0 }
numbered (Stopped (Extension p)) = record { number = 3; place = p.octet; wait = 0 }
numbered NoRequest = plain 4
numbered Rejected = plain 5
numbered MmeHeld = plain 6
numbered OfferHeld = plain 7
numbered PairNotHeld = plain 8
numbered Full = plain 9
numbered NoRoom = plain 10
numbered NoneOpen = plain 14
numbered (SetupFailed w) = record { number = 0; place = 0; wait = wait_of w }
numbered NoUnit = plain 21
