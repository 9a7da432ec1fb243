-- The two series of identities.
use Rattle.std.specs.Prelude.{ℕ, ◌≡◌, refl}
use Rattle.identity.specs.declared.MmeId.{MmeId}
use Rattle.identity.specs.declared.MceId.{MceId}

-- a number says one identity, and an identity one number
pub record Numbering {I : Type 0} (numbered : ℕ → I) (number : I → ℕ) : Type 0 where
  pub back : (v : ℕ) → number (numbered v) ≡ v
  pub again : (x : I) → numbered (number x) ≡ x

abbrev pub mme_numbering : Numbering {I = MmeId} (λ v. record { 0 = v }) (λ x. x.0)
mme_numbering = record { back = λ _. refl; again = λ _. refl }

abbrev pub mce_numbering : Numbering {I = MceId} (λ v. record { 0 = v }) (λ x. x.0)
mce_numbering = record { back = λ _. refl; again = λ _. refl }
