-- Scaffolding: no demand speaks of it. Identities of one series that are alike.
use Rattle.std.specs.Prelude.{Bool, ℕ, eqb}
use Rattle.identity.specs.declared.MmeId.{MmeId}
use Rattle.identity.specs.declared.MceId.{MceId}

-- they have one number
abbrev pub alike : {I : Type 0} → (I → ℕ) → I → I → Bool
alike number x y = eqb (number x) (number y)

abbrev pub same_mme : MmeId → MmeId → Bool
same_mme = alike (λ (x : MmeId). x.0)

abbrev pub same_mce : MceId → MceId → Bool
same_mce = alike (λ (x : MceId). x.0)
