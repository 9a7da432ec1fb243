-- Two values which differ have octets which differ.
--     stays_different   wherever reading what was written gives the value
--     ends_different    and where it does, if nothing stands behind it
--     numbers, lengths, open_values, fields: the fields of this crate
-- Assumes nothing.
use mathlib.Core.Path.{◌≡◌, ◌∙◌, refl, sym, ap, subst}
use mathlib.Core.List.{List, [], ◌∷◌, ◌++◌, map}
use Prim.Native.Nat.{ℕ, ◌+◌, ◌*◌, ◌-◌, ◌/◌, ◌%◌, ◌^◌, ◌<◌}
use lib.ListN.{length, drop}
use lib.Seq.{drop-append_seam}
use lib.Pow.{high, low}
use Rattle.std.specs.Prelude.{Ok}
use Rattle.octets.specs.Read.{Read, ◌>>=◌}
use Rattle.octets.specs.Field.{number_at, length_at}
use Rattle.packed.specs.Packed.{Field, packed_in, Fit}
use Rattle.octets.specs.Write.{number_octets, length_octets}
use Rattle.octets.specs.Stands.{Stands, Fills, StaysDifferent}
use Rattle.octets.specs.declared.Part.{Part}
use Rattle.packed.proofs.Packed.{packed_below}
use Rattle.octets.proofs.Chain.{past, same_got}
use Rattle.octets.proofs.Stood.{stands_alone, stands_around, fills_alone}
use Rattle.octets.proofs.Back.{number_back, length_back}

pub stays_different : {A : Type 0} (Good : A → Type 0) (octets : A → List ℕ) (reading : List ℕ → ℕ → Read A)
    → ((s : List ℕ) (at : ℕ) (v : A) → Good v → Stands s at (octets v) → Ok v ≡ reading s at) → StaysDifferent Good octets
stays_different Good octets reading back v w a b e =
    same_got (back (octets v) 0 v a (stands_alone (octets v)) ∙ sym (back (octets v) 0 w b (subst (λ (x : List ℕ). Stands x 0 (octets w)) (sym e) (stands_alone (octets w)))))

pub ends_different : {A : Type 0} (Good : A → Type 0) (octets : A → List ℕ) (reading : List ℕ → ℕ → Read A)
    → ((s : List ℕ) (at : ℕ) (v : A) → Good v → Fills s at (octets v) → Ok v ≡ reading s at) → StaysDifferent Good octets
ends_different {A} Good octets reading back v w a b e = same_got (alone v a ∙ (ap (λ (s : List ℕ). reading s 0) e ∙ sym (alone w b)))
  where
    alone : (x : A) → Good x → Ok x ≡ reading (octets x) 0
    alone x g = back (octets x) 0 x g (fills_alone (octets x))

pub numbers : (k : ℕ) → StaysDifferent (λ v. v < 256 ^ k) (number_octets k)
numbers k = stays_different _ (number_octets k) (number_at k) (number_back k)

pub lengths : StaysDifferent (λ n. n < 16384) length_octets
lengths = stays_different _ length_octets (λ s at. length_at s at >>= λ n. Ok n.value) (λ s at n b h. past _ _ (length_back s at n b h) refl)

-- a length and the octets that it counts
pub open_values : StaysDifferent (λ vs. length vs < 16384) (λ vs. length_octets (length vs) ++ vs)
open_values v w a b e =
    let n : length v ≡ length w = ap (λ (x : (Part ℕ)). x.value) (same_got (size v a ∙ (ap (λ (s : List ℕ). length_at s 0) e ∙ sym (size w b)))) in
    sym (drop-append_seam (length_octets (length v)) v)
    ∙ (ap (drop (length (length_octets (length v)))) (e ∙ rw n) ∙ drop-append_seam (length_octets (length v)) w)
  where
    size : (vs : List ℕ) → length vs < 16384 → Ok (record { value = length vs; next = 0 + length (length_octets (length vs)) }) ≡ length_at (length_octets (length vs) ++ vs) 0
    size vs h = length_back (length_octets (length vs) ++ vs) 0 (length vs) h (stands_around [] (length_octets (length vs)) vs)

halves : (k a b p q : ℕ) → p < 2 ^ k → q < 2 ^ k → a * 2 ^ k + p ≡ b * 2 ^ k + q → (a ≡ b) × (p ≡ q)
halves k a b p q h g e = (
  sym (high a k h) ∙ (ap (λ (n : ℕ). n / 2 ^ k) e ∙ high b k g),
  sym (low a k h) ∙ (ap (λ (n : ℕ). n % 2 ^ k) e ∙ low b k g),
)

-- fields of the same widths
pub fields : (r : ℕ) (fs gs : List Field) → Fit r fs → Fit r gs → map (λ (f : Field). f.width) fs ≡ map (λ (f : Field). f.width) gs
    → packed_in r fs ≡ packed_in r gs → fs ≡ gs
unfolding packed_in
fields r [] [] a b e q = refl
fields r [] (g ∷ gs) a b e q = cc
fields r (f ∷ fs) [] a b e q = cc
fields r (f ∷ fs) (g ∷ gs) a b e q =
    let w : g.width ≡ f.width = cc in
    let t : map (λ (f : Field). f.width) fs ≡ map (λ (f : Field). f.width) gs = cc in
    let c : Fit (r - f.width) gs = rw w at b.2 in
    let h = halves (r - f.width) f.value g.value _ _ (packed_below (r - f.width) fs a.2) (packed_below (r - f.width) gs c) (rw w at q) in
    let i : fs ≡ gs = fields (r - f.width) fs gs a.2 c t h.1 in
    λ j. record { width = sym w j; value = h.0 j } ∷ i j
