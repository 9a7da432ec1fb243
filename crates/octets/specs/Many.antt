-- Several of one kind, each from where the last ended.
use Rattle.std.specs.Prelude.{ℕ, zero, suc, List, [], ◌∷◌, ◌++◌, Ok}
use Rattle.octets.specs.declared.Part.{Part}
use Rattle.octets.specs.Read.{Read, ◌>>=◌}

unfoldable pub many : {A : Type 0} → (ℕ → Read (Part A)) → ℕ → ℕ → Read (Part (List A))
many one zero at = Ok (record { value = []; next = at })
many one (suc n) at = do
  x ← one at
  xs ← many one n x.next
  Ok (record { value = x.value ∷ xs.value; next = xs.next })

-- the octets of each, one after another
abbrev pub each_octets : {A : Type 0} → (A → List ℕ) → List A → List ℕ
each_octets octets [] = []
each_octets octets (v ∷ vs) = octets v ++ each_octets octets vs

-- each is good
abbrev pub Each : {A : Type 0} → (A → Type 0) → List A → Type 0
Each Good [] = Unit
Each Good (v ∷ vs) = Good v × Each Good vs
