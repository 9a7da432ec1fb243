-- What was read, written again, is the same octets.
-- Assumes nothing.
use mathlib.Core.Path.{◌≡◌, refl, sym, subst}
use mathlib.Core.Bool.{false}
use mathlib.Core.List.{List, [], ◌∷◌}
use Prim.Native.Nat.{ℕ, ◌+◌}
use native.Mathlib.Omega.{arith}
use lib.ListN.{length, get_or}
use Rattle.std.specs.Prelude.{Ok}
use Rattle.octets.specs.Read.{Read}
use Rattle.octets.specs.Field.{bits_at, plain_at, choice_at, pad_at, number_at, string_at, ends_at}
use Rattle.packed.specs.Packed.{◌bits◌, bit, packed}
use Rattle.octets.specs.Write.{number_octets}
use Rattle.octets.specs.Stands.{Stands, Fills, Octets}
use Rattle.octets.proofs.Chain.{then_got, same_got}
use Rattle.octets.proofs.Got.{plain_got, choice_got}
use Rattle.octets.proofs.Stood.{stands_join}
use Rattle.octets.proofs.Back.{length_number}
use Rattle.octets.proofs.Again.{packed_again, pad_zero, number_again, string_again, fills_again}
use Rattle.identity.specs.Identity.{Numbering, mme_numbering, mce_numbering}
use Rattle.identity.specs.declared.MmeId.{MmeId}
use Rattle.identity.specs.declared.MceId.{MceId}
use Rattle.identity.specs.declared.Tmgi.{Tmgi}
use Rattle.values.specs.declared.Cause.{Cause}
use Rattle.values.specs.Values.{whole_at, identity_at, mme_at, mce_at, one_at, two_at, tmgi_at, bits_of_root, root_of, cause_at, wait_at}
use Rattle.values.specs.Written.{mme_octets, mce_octets, one_octets, two_octets, tmgi_octets, cause_octets, wait_octets}
use Rattle.values.proofs.Roots.{root_width}
use Rattle.values.proofs.Back.{cause_octets_lem, wait_octets_lem}

whole_again : (k : ℕ) (s : List ℕ) (at : ℕ) {v : ℕ} → Octets s → Ok v ≡ whole_at k s at → Fills s at (number_octets k v)
whole_again k s at {v} o q =
    let a = then_got (number_at k s at) _ q in
    let b = then_got (ends_at s (at + k)) _ a.2 in
    subst (λ (x : ℕ). Fills s at (number_octets k x)) (sym (same_got b.2)) (fills_again s at k (number_again k s at o a.1) (length_number k a.0) b.1)

three : (l : List ℕ) → length l ≡ 3 → l ≡ get_or l 0 0 ∷ get_or l 1 0 ∷ get_or l 2 0 ∷ []
three [] e = absurd (omega arith)
three (a ∷ []) e = absurd (omega arith)
three (a ∷ b ∷ []) e = absurd (omega arith)
three (a ∷ b ∷ c ∷ []) e = refl
three (a ∷ b ∷ c ∷ d ∷ l) e = absurd (omega arith)

module _ (s : List ℕ) (at : ℕ) (o : Octets s) where
  pub identity_again : {I : Type 0} {numbered : ℕ → I} {number : I → ℕ} → Numbering numbered number → {v : I} → Ok v ≡ identity_at numbered s at → Fills s at (number_octets 2 (number v))
  unfolding identity_at two_at
  identity_again {I} {number = number} n q =
      let a = then_got (whole_at 2 s at) _ q in
      subst (λ (x : I). Fills s at (number_octets 2 (number x))) (sym (same_got a.2)) (rw (n.back a.0) (whole_again 2 s at o a.1))

  pub mme_again : {v : MmeId} → Ok v ≡ mme_at s at → Fills s at (mme_octets v)
  mme_again = identity_again mme_numbering

  pub mce_again : {v : MceId} → Ok v ≡ mce_at s at → Fills s at (mce_octets v)
  mce_again = identity_again mce_numbering

  pub one_again : {v : ℕ} → Ok v ≡ one_at s at → Fills s at (one_octets v)
  unfolding one_at
  one_again q = whole_again 1 s at o q

  pub two_again : {v : ℕ} → Ok v ≡ two_at s at → Fills s at (two_octets v)
  unfolding two_at
  two_again q = whole_again 2 s at o q

  pub tmgi_again : {t : Tmgi} → Ok t ≡ tmgi_at s at → Fills s at (tmgi_octets t)
  unfolding tmgi_at tmgi_octets
  tmgi_again {t} q =
      let a = then_got (plain_at s at 0) _ q in
      let b = then_got (pad_at s at 1) _ a.2 in
      let c = then_got (string_at 3 s (at + 1)) _ b.2 in
      let d = then_got (string_at 3 s (at + 4)) _ c.2 in
      let e = then_got (ends_at s (at + 7)) _ d.2 in
      filled c.0 d.0 a.1 b.1 c.1 d.1 e.1 e.2
    where
      of : List ℕ → List ℕ → Tmgi
      of p v = record { plmn = record { 0 = get_or p 0 0; 1 = get_or p 1 0; 2 = get_or p 2 0 }; service = record { 0 = get_or v 0 0; 1 = get_or v 1 0; 2 = get_or v 2 0 } }

      filled : (p v : List ℕ) → Ok tt ≡ plain_at s at 0 → Ok tt ≡ pad_at s at 1 → Ok p ≡ string_at 3 s (at + 1) → Ok v ≡ string_at 3 s (at + 4) → Ok tt ≡ ends_at s (at + 7)
          → ◌≡◌ {A = Read Tmgi} (Ok t) (Ok (of p v)) → Fills s at (tmgi_octets t)
      filled p v a b c d e q =
          let x = plain_got s at 0 a in
          let f : Stands s at (packed (1 bits bits_at s at 0 1 ∷ []) ∷ []) = packed_again s at (1 ∷ []) o x.0 (omega arith) (pad_zero s at 1 (omega arith) (omega arith) b) in
          let g : Stands s at (packed (bit false ∷ []) ∷ []) = rw x.1 at f in
          let k : at + 1 + 3 ≡ at + 4 = omega arith in
          let m = string_again 3 s (at + 1) c in
          let n = string_again 3 s (at + 4) d in
          subst (λ (y : Tmgi). Fills s at (tmgi_octets y)) (sym (same_got q))
          (fills_again s at 7 (stands_join g (stands_join (rw (three p m.0) at m.1) (rw k (rw (three v n.0) at n.1)))) refl e)

  pub cause_again : {c : Cause} → Ok c ≡ cause_at s at → Fills s at (cause_octets c)
  unfolding cause_at
  cause_again {c} q =
      let a = then_got (plain_at s at 0) _ q in
      let b = then_got (choice_at 5 3 s at 1) _ a.2 in
      let d = then_got (plain_at s at 4) _ b.2 in
      let e = then_got (choice_at (root_of b.0) (bits_of_root b.0) s at 5) _ d.2 in
      let f = then_got (pad_at s at (5 + bits_of_root b.0)) _ e.2 in
      let n = then_got (ends_at s (at + 1)) _ f.2 in
      let i = (root_width b.0).0 in
      let x = plain_got s at 0 a.1 in
      let y = choice_got s at 5 3 1 b.1 in
      let z = plain_got s at 4 d.1 in
      let v = choice_got s at (root_of b.0) (bits_of_root b.0) 5 e.1 in
      let k : 5 + bits_of_root b.0 ≡ 1 + (3 + (1 + (bits_of_root b.0 + 0))) = omega arith in
      let f' : Stands s at (packed (1 bits bits_at s at 0 1 ∷ 3 bits bits_at s at 1 3 ∷ 1 bits bits_at s at 4 1 ∷ bits_of_root b.0 bits bits_at s at 5 (bits_of_root b.0) ∷ []) ∷ []) =
      packed_again s at (1 ∷ 3 ∷ 1 ∷ bits_of_root b.0 ∷ []) o x.0 (omega arith) (rw k at (pad_zero s at (5 + bits_of_root b.0) (omega arith) (omega arith) f.1)) in
      let h : Stands s at (packed (bit false ∷ 3 bits b.0 ∷ bit false ∷ bits_of_root b.0 bits e.0 ∷ []) ∷ []) = rw (x.1, ← y.1, z.1, ← v.1) at f' in
      subst (λ (r : Cause). Fills s at (cause_octets r)) (sym (same_got n.2)) (rw (cause_octets_lem (record { group = b.0; value = e.0 }) v.2) (fills_again s at 1 h refl n.1))

  pub wait_again : {v : ℕ} → Ok v ≡ wait_at s at → Fills s at (wait_octets v)
  unfolding wait_at
  wait_again {v} q =
      let a = then_got (plain_at s at 0) _ q in
      let b = then_got (choice_at 6 3 s at 1) _ a.2 in
      let d = then_got (pad_at s at 4) _ b.2 in
      let e = then_got (ends_at s (at + 1)) _ d.2 in
      let x = plain_got s at 0 a.1 in
      let y = choice_got s at 6 3 1 b.1 in
      let f : Stands s at (packed (1 bits bits_at s at 0 1 ∷ 3 bits bits_at s at 1 3 ∷ []) ∷ []) =
      packed_again s at (1 ∷ 3 ∷ []) o x.0 (omega arith) (pad_zero s at 4 (omega arith) (omega arith) d.1) in
      let h : Stands s at (packed (bit false ∷ 3 bits b.0 ∷ []) ∷ []) = rw (x.1, ← y.1) at f in
      subst (λ (r : ℕ). Fills s at (wait_octets r)) (sym (same_got e.2)) (rw (wait_octets_lem b.0 y.2) (fills_again s at 1 h refl e.1))
