-- Several of one kind, read into the front of an array.
--     many_none, many_one, many_stop   what a loop that reads them knows
--     many_back                        reading what was written, one after another, gives them
--     many_again                       what was read, written one after another, is the same octets
--     many_each                        as many were read as there should be, and each is good
-- Assumes nothing.
use mathlib.Core.Path.{◌≡◌, ◌∙◌, refl, sym, ap, subst}
use mathlib.Core.List.{List, [], ◌∷◌, ◌++◌, append_assoc, append-nil}
use Prim.Native.Nat.{ℕ, zero, suc, ◌+◌, ◌-◌, ◌≤◌}
use native.Mathlib.Omega.{arith}
use native.Mathlib.Nat.{add-zero}
use lib.ListN.{length, length-append}
use Rattle.std.specs.Prelude.{Ok, Err}
use Rattle.octets.specs.Read.{Read, ◌>>=◌}
use Rattle.octets.specs.Many.{many, each_octets, Each}
use Rattle.octets.specs.declared.Part.{Part}
use Rattle.octets.specs.Stands.{Stands}
use Rattle.octets.specs.declared.Stop.{Stop}
use Rattle.octets.proofs.Chain.{past, then_got, same_got}
use Rattle.octets.proofs.Stood.{stands_none, stands_join, stands_split}

-- ys before what is read
abbrev pub before : {A : Type 0} → List A → Read (Part (List A)) → Read (Part (List A))
before ys (Ok p) = Ok (record { value = ys ++ p.value; next = p.next })
before ys (Err x) = Err x

pub before_none : {A : Type 0} (r : Read (Part (List A))) → before [] r ≡ r
before_none (Ok p) = refl
before_none (Err x) = refl

module _ {A : Type 0} (one : ℕ → Read (Part A)) (ys : List A) (m at : ℕ) where
  pub many_none : m ≡ 0 → Ok (record { value = ys; next = at }) ≡ before ys (many one m at)
  unfolding many
  many_none h = rw (h, append-nil ys)

  pub many_stop : (m ≡ 0 → ⊥) → (x : Stop) → Err x ≡ one at → Err x ≡ before ys (many one m at)
  unfolding many
  many_stop h x q = let k : m ≡ suc (m - 1) = omega arith in rw (k, ← q)

  pub many_one : (m ≡ 0 → ⊥) → (p : Part A) → Ok p ≡ one at → before (ys ++ p.value ∷ []) (many one (m - 1) p.next) ≡ before ys (many one m at)
  unfolding many
  many_one h p q = subst (λ (n : ℕ). before (ys ++ p.value ∷ []) (many one (m - 1) p.next) ≡ before ys (many one n at)) k (suc_one (m - 1))
    where
      k : suc (m - 1) ≡ m
      k = omega arith

      both : (r : Read (Part (List A))) → before (ys ++ p.value ∷ []) r ≡ before ys (r >>= λ xs. Ok (record { value = p.value ∷ xs.value; next = xs.next }))
      both (Ok v) = rw (append_assoc ys (p.value ∷ []) v.value)
      both (Err x) = refl

      suc_one : (n : ℕ) → before (ys ++ p.value ∷ []) (many one n p.next) ≡ before ys (many one (suc n) at)
      suc_one n = rw (← q) (both (many one n p.next))

pub many_each : {A : Type 0} (one : ℕ → Read (Part A)) (Good : A → Type 0) → ((at : ℕ) (p : Part A) → Ok p ≡ one at → Good p.value)
    → (n at : ℕ) (p : Part (List A)) → Ok p ≡ many one n at → (length p.value ≡ n) × Each Good p.value
unfolding many
many_each {A} one Good good zero at p q = subst (λ (x : Part (List A)). (length x.value ≡ zero) × Each Good x.value) (sym (same_got q)) (refl, tt)
many_each {A} one Good good (suc n) at p q =
    let a = then_got (one at) _ q in
    let b = then_got (many one n a.0.next) _ a.2 in
    let r = many_each one Good good n a.0.next b.0 b.1 in
    subst (λ (x : Part (List A)). (length x.value ≡ suc n) × Each Good x.value) (sym (same_got b.2)) (ap suc r.0, (good at a.0 a.1, r.1))

module _ {A : Type 0} (s : List ℕ) (one : ℕ → Read (Part A)) (octets : A → List ℕ) where
  pub many_back : (Good : A → Type 0)
      → ((at : ℕ) (v : A) → Good v → Stands s at (octets v) → Ok (record { value = v; next = at + length (octets v) }) ≡ one at)
      → (vs : List A) (at : ℕ) → Each Good vs → Stands s at (each_octets octets vs)
      → Ok (record { value = vs; next = at + length (each_octets octets vs) }) ≡ many one (length vs) at
  unfolding many
  many_back Good back [] at g h = rw add-zero
  many_back Good back (v ∷ vs) at g h =
      let t = stands_split (octets v) (each_octets octets vs) h in
      let e : at + length (octets v) + length (each_octets octets vs) ≡ at + length (octets v ++ each_octets octets vs) = rw length-append (omega arith) in
      past _ _ (back at v g.0 t.0) (past _ _ (many_back Good back vs (at + length (octets v)) g.1 t.1) (rw e))

  -- the list ends at next, and its octets stand before that
  Written : ℕ → ℕ → Part (List A) → Type 0
  Written n at p = (length p.value ≡ n) × Stands s at (each_octets octets p.value) × (p.next ≡ at + length (each_octets octets p.value))

  written_more : (n at : ℕ) (v : A) (next : ℕ) (p : Part (List A)) → Stands s at (octets v) → next ≡ at + length (octets v) → Written n next p
      → Written (suc n) at (record { value = v ∷ p.value; next = p.next })
  unfolding Written
  written_more n at v next p h k y =
      let z : at + length (octets v) + length (each_octets octets p.value) ≡ at + length (octets v ++ each_octets octets p.value) = rw length-append (omega arith) in
      (ap suc y.0, stands_join {vs = octets v} {ws = each_octets octets p.value} h (rw k at y.1), y.2 ∙ (rw k z))

  pub many_again : ((at : ℕ) (p : Part A) → Ok p ≡ one at → Stands s at (octets p.value) × (p.next ≡ at + length (octets p.value)))
      → (n at : ℕ) (p : Part (List A)) → at ≤ length s → Ok p ≡ many one n at
      → (length p.value ≡ n) × Stands s at (each_octets octets p.value) × (p.next ≡ at + length (each_octets octets p.value))
  unfolding many Written
  many_again again zero at p r q = subst (Written zero at) (sym (same_got q)) (refl, stands_none r, sym (add-zero at))
  many_again again (suc n) at p r q =
      let a = then_got (one at) _ q in
      let b = then_got (many one n a.0.next) _ a.2 in
      let x = again at a.0 a.1 in
      let room = x.0.room in
      let k = x.1 in
      subst (Written (suc n) at) (sym (same_got b.2)) (written_more n at a.0.value a.0.next b.0 x.0 k (many_again again n a.0.next b.0 (omega arith) b.1))
