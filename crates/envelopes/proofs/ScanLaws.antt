-- A run of elements, element after element.
--     envelope_in                        an element's value stands inside
--     scan_none, scan_more               no element, an element more
--     scan_cut, scan_bad                 one that cannot be read, a value that cannot
--     heads_none, heads_one              the elements, likewise
-- Assumes nothing.
use mathlib.Core.Path.{◌≡◌, ◌∙◌, refl, sym, ap}
use mathlib.Core.List.{List, [], ◌∷◌}
use Prim.Native.Nat.{ℕ, suc, ◌+◌, ◌-◌, ◌<◌, ◌≤◌}
use native.Mathlib.Omega.{arith}
use lib.ListN.{length, take}
use Rattle.std.specs.Prelude.{Ok, Err}
use Rattle.octets.specs.Read.{◌>>=◌, ◌>>◌}
use Rattle.octets.specs.Field.{number_at, open_at}
use Rattle.octets.specs.declared.Stop.{Stop}
use Rattle.octets.proofs.Chain.{past, halt, then_got, same_got}
use Rattle.octets.proofs.Got.{open_in}
use Rattle.kinds.specs.Kinds.{legible_at}
use Rattle.rows.specs.declared.Row.{Row}
use Rattle.envelopes.specs.declared.Head.{Head}
use Rattle.rows.specs.Table.{kind_of}
use Rattle.envelopes.specs.Envelope.{criticality_at, envelope_at, scan_at, heads_at}

-- an element's value stands inside
pub envelope_in : (s : List ℕ) (at : ℕ) {h : Head} → Ok h ≡ envelope_at s at → (at + 3 < h.value.from) × (h.value.from < h.value.to) × (h.value.to ≤ length s)
unfolding envelope_at
envelope_in s at {h} q =
    let a = then_got (number_at 2 s at) _ q in
    let b = then_got (criticality_at s (at + 2)) _ a.2 in
    let d = then_got (open_at s (at + 3)) _ b.2 in
    let e : d.0 ≡ h.value = ap (λ (x : Head). x.value) (sym (same_got d.2)) in
    rw e at (open_in s (at + 3) d.1)

module _ (t : List Row) (s : List ℕ) (m at : ℕ) where
  pub scan_none : m ≡ 0 → Ok at ≡ scan_at t s m at
  unfolding scan_at
  scan_none h = rw h

  scan_suc : (n : ℕ) → (envelope_at s at >>= λ h. legible_at (kind_of t h.id) (take h.value.to s) h.value.from >> scan_at t s n h.value.to) ≡ scan_at t s (suc n) at
  unfolding scan_at
  scan_suc n = refl

  scan_one : (m ≡ 0 → ⊥) → (envelope_at s at >>= λ h. legible_at (kind_of t h.id) (take h.value.to s) h.value.from >> scan_at t s (m - 1) h.value.to) ≡ scan_at t s m at
  scan_one h = let k : suc (m - 1) ≡ m = omega arith in scan_suc (m - 1) ∙ ap (λ (n : ℕ). scan_at t s n at) k

  pub scan_cut : (m ≡ 0 → ⊥) → {x : Stop} → Err x ≡ envelope_at s at → Err x ≡ scan_at t s m at
  scan_cut e q = halt _ q ∙ scan_one e

  module _ (e : m ≡ 0 → ⊥) (h : Head) (q : Ok h ≡ envelope_at s at) where
    pub scan_bad : {x : Stop} → Err x ≡ legible_at (kind_of t h.id) (take h.value.to s) h.value.from → Err x ≡ scan_at t s m at
    scan_bad r = past _ h q (halt _ r) ∙ scan_one e

    pub scan_more : Ok tt ≡ legible_at (kind_of t h.id) (take h.value.to s) h.value.from → scan_at t s (m - 1) h.value.to ≡ scan_at t s m at
    scan_more r = past _ h q (past _ tt r refl) ∙ scan_one e

  heads_suc : (n : ℕ) (h : Head) → Ok h ≡ envelope_at s at → heads_at s (suc n) at ≡ h ∷ heads_at s n h.value.to
  unfolding heads_at
  heads_suc n h q = rw (← q)

  pub heads_one : (m ≡ 0 → ⊥) → (h : Head) → Ok h ≡ envelope_at s at → heads_at s m at ≡ h ∷ heads_at s (m - 1) h.value.to
  heads_one e h q = let k : suc (m - 1) ≡ m = omega arith in ap (λ (n : ℕ). heads_at s n at) (sym k) ∙ heads_suc (m - 1) h q

  pub heads_none : m ≡ 0 → heads_at s m at ≡ []
  unfolding heads_at
  heads_none h = rw h
