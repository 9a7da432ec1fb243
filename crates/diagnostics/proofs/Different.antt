-- Criticality Diagnostics which differ have octets which differ.
-- Assumes nothing.
use mathlib.Core.Path.{◌≡◌, ◌∙◌, sym, ap}
use mathlib.Core.List.{List}
use Prim.Native.Nat.{ℕ, ◌≤◌}
use native.Mathlib.Nat.{zero-add}
use Rattle.std.specs.Prelude.{Ok}
use Rattle.octets.specs.Stands.{StaysDifferent}
use Rattle.octets.proofs.Chain.{same_got}
use Rattle.octets.proofs.Stood.{stands_alone}
use Rattle.diagnostics.specs.Diagnostics.{Diagnostics, diagnostics_at}
use Rattle.diagnostics.specs.Written.{diagnostics_octets, GoodDiagnostics}
use Rattle.diagnostics.proofs.Back.{diagnostics_back}

pub diagnostics : (n : ℕ) → n ≤ 4 → StaysDifferent (GoodDiagnostics n) diagnostics_octets
diagnostics n l v w a b e = same_got (alone v a ∙ (ap (λ (s : List ℕ). diagnostics_at n s 0) e ∙ sym (alone w b)))
  where
    alone : (d : Diagnostics) → GoodDiagnostics n d → Ok d ≡ diagnostics_at n (diagnostics_octets d) 0
    alone d g = diagnostics_back (diagnostics_octets d) n l 0 d g (stands_alone (diagnostics_octets d)) (sym (zero-add _))
