-- Two names which differ have octets which differ.
-- Assumes nothing.
use mathlib.Core.Path.{sym, ap}
use mathlib.Core.List.{List}
use Prim.Native.Nat.{ℕ}
use Rattle.std.specs.Prelude.{Ok}
use Rattle.octets.specs.Read.{◌>>=◌}
use Rattle.octets.specs.Stands.{StaysDifferent}
use Rattle.octets.proofs.Chain.{past}
use Rattle.octets.proofs.Different.{ends_different}
use Rattle.names.specs.Names.{name_at, part_in}
use Rattle.names.specs.Written.{name_octets, GoodName}
use Rattle.names.proofs.Back.{name_back}

pub names : StaysDifferent GoodName name_octets
names = ends_different _ name_octets (λ s at. name_at s at >>= λ v. Ok (part_in s v.from v.to))
    (λ s at os g h. past _ _ (name_back s at os g h).0 (ap (λ (x : List ℕ). Ok x) (sym (name_back s at os g h).1)))
