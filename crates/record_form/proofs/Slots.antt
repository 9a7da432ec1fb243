-- A slot is that of what it says: by its first octet, what stands behind it, and zeros.
-- Assumes nothing.
use Rattle.std.specs.Prelude.{None, Option, Some}
use mathlib.Core.Path.{◌≡◌, ◌∙◌, refl, sym, ap}
use mathlib.Core.Bool.{Bool, true, false, not, ◌&&◌, and-true}
use mathlib.Core.List.{List, [], ◌∷◌, ◌++◌}
use Prim.Native.Nat.{ℕ, ◌+◌, ◌*◌, ◌-◌, ◌/◌, ◌%◌, ◌≤◌, ◌<◌}
use native.Mathlib.Omega.{arith}
use borrow.Author.Tests.{lt-ltb, ltb-true, eq-eqb, ne_eqb, eqb-true, eqb-false}
use lib.Dec.{ltb, eqb}
use lib.ListN.{length, take, get_or, replicate}
use Rattle.lists.specs.Lists.{pick}
use Rattle.lists.proofs.Tests.{both_ways}
use Rattle.octets.specs.Write.{number_octets}
use Rattle.octets.specs.Stands.{Octets}
use Rattle.lent.specs.Lent.{same}
use Rattle.rows.specs.declared.Kind.{Kind}
use Rattle.rows.specs.declared.Kind.TheVariants as kind
use Rattle.layout.specs.Record.{slot_of, slot_says, head_slot_octets}
use Rattle.record_form.specs.Form.{mark_of, used_by, maybe_good, head_good, rest_good, slot_good}
use Rattle.record_form.specs.BadNames.{name_bad, slot_bad}
use Rattle.record_form.proofs.Zeros.{eqb_sym}

pub used_small : (k : Kind) → used_by k ≤ 8
used_small kind.Carried = omega arith
used_small kind.Mme = omega arith
used_small kind.Mce = omega arith
used_small kind.Tmgi = omega arith
used_small kind.OneOctet = omega arith
used_small kind.TwoOctets = omega arith
used_small kind.Cause = omega arith
used_small kind.Wait = omega arith
used_small kind.Name = omega arith
used_small kind.ResetType = omega arith
used_small kind.Acknowledged = omega arith
used_small (kind.Diagnostics t) = omega arith

eqb_self : (a : ℕ) → eqb a a ≡ true
eqb_self a = eq-eqb a a refl

-- two octets are those of the number that they say
two_same : (a b : ℕ) → a < 256 → b < 256 → number_octets 2 (a * 256 + (b * 1 + 0)) ≡ a ∷ b ∷ []
unfolding number_octets
two_same a b h k =
    let x : (a * 256 + (b * 1 + 0)) / 256 % 256 ≡ a = omega arith in
    let y : (a * 256 + (b * 1 + 0)) / 1 % 256 ≡ b = omega arith in
    λ i. x i ∷ y i ∷ []

-- ---- the head of diagnostics

abbrev number_then : Option ℕ → ℕ → ℕ → Bool → Bool
number_then (Some v) x y z = eqb 1 x && (eqb v y && z)
number_then None x y z = eqb 0 x && (eqb 0 y && z)

number_then_lem : (x y : ℕ) (z : Bool) → number_then (pick (eqb x 0) None (Some y)) x y z ≡ (maybe_good x y && z)
number_then_lem x y z = by (eqb x 0) refl
  where
    by : (b : Bool) → eqb x 0 ≡ b → number_then (pick b None (Some y)) x y z ≡ (pick b (eqb y 0) (eqb x 1) && z)
    by true e = rw (eq-eqb 0 x (sym (eqb-true x 0 e)), eqb_sym y 0)
    by false e = rw (eqb_self y, eqb_sym x 1)

listed_then : (h : ℕ) → (eqb (pick (not (eqb h 0)) 1 0) h && true) ≡ ltb h 2
listed_then h = and-true (eqb (pick (not (eqb h 0)) 1 0) h) ∙ by (eqb h 0) refl
  where
    by : (b : Bool) → eqb h 0 ≡ b → eqb (pick (not b) 1 0) h ≡ ltb h 2
    by true e = let z = eqb-true h 0 e in rw z
    by false e =
        let z = eqb-false h 0 e in
        both_ways (eqb 1 h) (ltb h 2) (λ f. let o = eqb-true 1 h f in lt-ltb h 2 (omega arith)) (λ f. let o = ltb-true h 2 f in eq-eqb 1 h (omega arith))

module _ (b c d e f g h : ℕ) where
  head_same : (x y z : Option ℕ) (l : Bool) → let os = head_slot_octets (record { code = x; trigger = y; crit = z; listed = l }) in
      same (os ++ replicate (8 - length (1 ∷ os)) 0) (b ∷ c ∷ d ∷ e ∷ f ∷ g ∷ h ∷ [])
      ≡ number_then x b c (number_then y d e (number_then z f g (eqb (pick l 1 0) h && true)))
  unfolding same
  head_same (Some u) (Some v) (Some w) true = refl
  head_same (Some u) (Some v) (Some w) false = refl
  head_same (Some u) (Some v) None true = refl
  head_same (Some u) (Some v) None false = refl
  head_same (Some u) None (Some w) true = refl
  head_same (Some u) None (Some w) false = refl
  head_same (Some u) None None true = refl
  head_same (Some u) None None false = refl
  head_same None (Some v) (Some w) true = refl
  head_same None (Some v) (Some w) false = refl
  head_same None (Some v) None true = refl
  head_same None (Some v) None false = refl
  head_same None None (Some w) true = refl
  head_same None None (Some w) false = refl
  head_same None None None true = refl
  head_same None None None false = refl

-- ---- a slot of eight octets

module _ (a b c d e f g h : ℕ) (q : List ℕ) (bo : b < 256) (co : c < 256) (dx : d < 256) (eo : e < 256) where
  abbrev eight : List ℕ
  eight = a ∷ b ∷ c ∷ d ∷ e ∷ f ∷ g ∷ h ∷ q

  place : b * 256 + (c * 1 + 0) + (d * 256 + (e * 1 + 0)) - (b * 256 + (c * 1 + 0)) ≡ d * 256 + (e * 1 + 0)
  place = omega arith

  parts : (k : Kind) → (a ≡ 0 → ⊥) → slot_good k eight ≡ (eqb a (mark_of k a) && rest_good k eight)
  unfolding slot_good slot_says slot_of rest_good head_good same
  parts kind.Carried z = rw (ne_eqb a 0 z, place, two_same b c bo co, two_same d e dx eo) (simp (eqb_self, and-true, eqb_sym 1 a))
  parts kind.Mme z = rw (ne_eqb a 0 z, two_same b c bo co) (simp (eqb_self, and-true, eqb_sym 1 a))
  parts kind.Mce z = rw (ne_eqb a 0 z, two_same b c bo co) (simp (eqb_self, and-true, eqb_sym 1 a))
  parts kind.Tmgi z = rw (ne_eqb a 0 z) (simp (eqb_self, and-true, eqb_sym 1 a))
  parts kind.OneOctet z = rw (ne_eqb a 0 z) (simp (eqb_self, and-true, eqb_sym 1 a))
  parts kind.TwoOctets z = rw (ne_eqb a 0 z, two_same b c bo co) (simp (eqb_self, and-true, eqb_sym 1 a))
  parts kind.Cause z = rw (ne_eqb a 0 z) (simp (eqb_self, and-true, eqb_sym 1 a))
  parts kind.Wait z = rw (ne_eqb a 0 z) (simp (eqb_self, and-true, eqb_sym 1 a))
  parts kind.Name z = rw (ne_eqb a 0 z, place, two_same b c bo co, two_same d e dx eo) (simp (eqb_self, and-true, eqb_sym 1 a))
  parts kind.ResetType z = by (eqb a 2) refl
    where
      by : (x : Bool) → eqb a 2 ≡ x → slot_good kind.ResetType eight ≡ (eqb a (mark_of kind.ResetType a) && rest_good kind.ResetType eight)
      by true i = rw (ne_eqb a 0 z, i) (simp (and-true, eqb_sym 2 a, i))
      by false i = rw (ne_eqb a 0 z, i) (simp (and-true, eqb_sym 1 a))
  parts kind.Acknowledged z = rw (ne_eqb a 0 z) (simp (and-true, eqb_sym 1 a))
  parts (kind.Diagnostics t) z =
      rw (ne_eqb a 0 z, eqb_sym 1 a)
      (ap (eqb a 1 &&◌) (head_same b c d e f g h (pick (eqb b 0) None (Some c)) (pick (eqb d 0) None (Some e)) (pick (eqb f 0) None (Some g)) (not (eqb h 0))
      ∙ rw (number_then_lem b c, number_then_lem d e, number_then_lem f g, listed_then h)))

module _ (k : Kind) (p : List ℕ) (l : 8 ≤ length p) (o : Octets p) where
  pub slot_there : (get_or p 0 0 ≡ 0 → ⊥) → slot_good k p ≡ (eqb (get_or p 0 0) (mark_of k (get_or p 0 0)) && rest_good k p)
  slot_there z = by p l o z
    where
      by : (p : List ℕ) → 8 ≤ length p → Octets p → (get_or p 0 0 ≡ 0 → ⊥) → slot_good k p ≡ (eqb (get_or p 0 0) (mark_of k (get_or p 0 0)) && rest_good k p)
      by (a ∷ b ∷ c ∷ d ∷ e ∷ f ∷ g ∷ h ∷ q) l o z = parts a b c d e f g h q (o 1) (o 2) (o 3) (o 4) k z
      by (a ∷ b ∷ c ∷ d ∷ e ∷ f ∷ g ∷ []) l o z = absurd (omega arith)
      by (a ∷ b ∷ c ∷ d ∷ e ∷ f ∷ []) l o z = absurd (omega arith)
      by (a ∷ b ∷ c ∷ d ∷ e ∷ []) l o z = absurd (omega arith)
      by (a ∷ b ∷ c ∷ d ∷ []) l o z = absurd (omega arith)
      by (a ∷ b ∷ c ∷ []) l o z = absurd (omega arith)
      by (a ∷ b ∷ []) l o z = absurd (omega arith)
      by (a ∷ []) l o z = absurd (omega arith)
      by [] l o z = absurd (omega arith)

pub slot_none : (k : Kind) (p : List ℕ) → get_or p 0 0 ≡ 0 → slot_good k p ≡ same (replicate 8 0) (take 8 p)
unfolding slot_good
slot_none k p e = rw (eq-eqb (get_or p 0 0) 0 e)

-- ---- what stands behind eight octets says nothing of their slot

pub front_of : {A : Type 0} (f : List ℕ → A)
    → ((a b c d e f₁ g h : ℕ) (q : List ℕ) → f (a ∷ b ∷ c ∷ d ∷ e ∷ f₁ ∷ g ∷ h ∷ []) ≡ f (a ∷ b ∷ c ∷ d ∷ e ∷ f₁ ∷ g ∷ h ∷ q))
    → (p : List ℕ) → 8 ≤ length p → f (take 8 p) ≡ f p
front_of f is (a ∷ b ∷ c ∷ d ∷ e ∷ x ∷ g ∷ h ∷ q) l = is a b c d e x g h q
front_of f is (a ∷ b ∷ c ∷ d ∷ e ∷ x ∷ g ∷ []) l = absurd (omega arith)
front_of f is (a ∷ b ∷ c ∷ d ∷ e ∷ x ∷ []) l = absurd (omega arith)
front_of f is (a ∷ b ∷ c ∷ d ∷ e ∷ []) l = absurd (omega arith)
front_of f is (a ∷ b ∷ c ∷ d ∷ []) l = absurd (omega arith)
front_of f is (a ∷ b ∷ c ∷ []) l = absurd (omega arith)
front_of f is (a ∷ b ∷ []) l = absurd (omega arith)
front_of f is (a ∷ []) l = absurd (omega arith)
front_of f is [] l = absurd (omega arith)

pub slot_front : (k : Kind) (p : List ℕ) → 8 ≤ length p → slot_good k (take 8 p) ≡ slot_good k p
unfolding slot_good slot_says
slot_front k = front_of (slot_good k) (by k)
  where
    by : (k : Kind) (a b c d e f g h : ℕ) (q : List ℕ) → slot_good k (a ∷ b ∷ c ∷ d ∷ e ∷ f ∷ g ∷ h ∷ []) ≡ slot_good k (a ∷ b ∷ c ∷ d ∷ e ∷ f ∷ g ∷ h ∷ q)
    by kind.Carried a b c d e f g h q = refl
    by kind.Mme a b c d e f g h q = refl
    by kind.Mce a b c d e f g h q = refl
    by kind.Tmgi a b c d e f g h q = refl
    by kind.OneOctet a b c d e f g h q = refl
    by kind.TwoOctets a b c d e f g h q = refl
    by kind.Cause a b c d e f g h q = refl
    by kind.Wait a b c d e f g h q = refl
    by kind.Name a b c d e f g h q = refl
    by kind.ResetType a b c d e f g h q = refl
    by kind.Acknowledged a b c d e f g h q = refl
    by (kind.Diagnostics t) a b c d e f g h q = refl

pub bad_front : (values : List ℕ) (k : Kind) (p : List ℕ) → 8 ≤ length p → slot_bad values k (take 8 p) ≡ slot_bad values k p
unfolding name_bad
bad_front values k = front_of (slot_bad values k) (by k)
  where
    by : (k : Kind) (a b c d e f g h : ℕ) (q : List ℕ) → slot_bad values k (a ∷ b ∷ c ∷ d ∷ e ∷ f ∷ g ∷ h ∷ []) ≡ slot_bad values k (a ∷ b ∷ c ∷ d ∷ e ∷ f ∷ g ∷ h ∷ q)
    by kind.Carried a b c d e f g h q = refl
    by kind.Mme a b c d e f g h q = refl
    by kind.Mce a b c d e f g h q = refl
    by kind.Tmgi a b c d e f g h q = refl
    by kind.OneOctet a b c d e f g h q = refl
    by kind.TwoOctets a b c d e f g h q = refl
    by kind.Cause a b c d e f g h q = refl
    by kind.Wait a b c d e f g h q = refl
    by kind.Name a b c d e f g h q = refl
    by kind.ResetType a b c d e f g h q = refl
    by kind.Acknowledged a b c d e f g h q = refl
    by (kind.Diagnostics t) a b c d e f g h q = refl
