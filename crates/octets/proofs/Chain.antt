-- Readings one after another.
--     past       what was read, and then the rest
--     halt       where the first stops, all stop
--     told       a reader's answer, known by its contract and by the arm of a match on it
--     then_got   where all gave something, the first did, and so did the rest
-- Assumes nothing.
use mathlib.Core.Path.{◌≡◌, ◌∙◌, refl, sym, ap, subst}
use Rattle.std.specs.Prelude.{Ok, Err}
use Rattle.octets.specs.Read.{Read, ◌>>=◌}
use Rattle.octets.specs.declared.Stop.{Stop}

pub past : {A B : Type 0} {x : Read A} (go : A → Read B) {z : Read B} (a : A) → Ok a ≡ x → z ≡ go a → z ≡ x >>= go
past go a q r = r ∙ ap (λ (y : Read _). y >>= go) q

pub halt : {A B : Type 0} {x : Read A} (go : A → Read B) {p : Stop} → Err p ≡ x → Err p ≡ x >>= go
halt go q = ap (λ (y : Read _). y >>= go) q

-- x is what a call gave, k its arm
pub told : {E A : Type 0} (found : E → Read A) {x k : E} {r : Read A} → x ≡ k → found x ≡ r → found k ≡ r
told found q r = ap found (sym q) ∙ r

pub got_stop : {A B : Type 0} {a : A} {p : Stop} → Ok a ≡ Err p → B
got_stop {A} {B} {a} {p} q = absurd (subst (λ (r : Read A). Yes r) q tt)
  where
    Yes : Read A → Type 0
    Yes (Ok x) = Unit
    Yes (Err x) = ⊥

pub then_got : {A B : Type 0} (r : Read A) (go : A → Read B) {b : B} → Ok b ≡ r >>= go → (a : A) × (Ok a ≡ r) × (Ok b ≡ go a)
then_got (Ok a) go q = (a, refl, q)
then_got (Err x) go q = got_stop q

pub same_got : {A : Type 0} {a b : A} → ◌≡◌ {A = Read A} (Ok a) (Ok b) → a ≡ b
same_got q = cc
