-- Reading what was written gives the value, where it ends with what encloses it.
-- Assumes nothing.
use mathlib.Core.Path.{◌≡◌, refl, sym, ap}
use mathlib.Core.Bool.{false}
use mathlib.Core.List.{List, [], ◌∷◌, ◌++◌}
use Prim.Native.Nat.{ℕ, ◌+◌, ◌^◌, ◌<◌}
use native.Mathlib.Omega.{arith}
use native.Mathlib.Nat.{lt_of_lt_of_le}
use borrow.Author.Tests.{lt-ltb}
use lib.ListN.{length}
use Rattle.std.specs.Prelude.{Ok}
use Rattle.packed.specs.Packed.{◌bits◌, bit, packed, Fit}
use Rattle.octets.specs.Write.{number_octets}
use Rattle.octets.specs.Stands.{Stands, Fills}
use Rattle.octets.proofs.Chain.{past}
use Rattle.octets.proofs.Stood.{stands_split}
use Rattle.octets.proofs.Back.{length_number, number_back, string_back, choice_back, plain_back, rest_back, ends_back}
use Rattle.identity.specs.Identity.{Numbering, mme_numbering, mce_numbering}
use Rattle.identity.specs.declared.MmeId.{MmeId}
use Rattle.identity.specs.declared.MceId.{MceId}
use Rattle.identity.specs.declared.Tmgi.{Tmgi}
use Rattle.values.specs.declared.Cause.{Cause}
use Rattle.values.specs.Values.{whole_at, identity_at, mme_at, mce_at, one_at, two_at, tmgi_at, bits_of_root, root_of, cause_at, wait_at}
use Rattle.values.specs.Written.{mme_octets, mce_octets, one_octets, two_octets, tmgi_octets, cause_octet, cause_octets, GoodCause, wait_octet, wait_octets}
use Rattle.values.proofs.Roots.{root_width, root_group}

whole_back : (k : ℕ) (s : List ℕ) (at v : ℕ) → v < 256 ^ k → Fills s at (number_octets k v) → Ok v ≡ whole_at k s at
whole_back k s at v b h = let l = length_number k v in let e = h.ends in past _ v (number_back k s at v b h.stands) (past _ tt (ends_back s (at + k) (omega arith)) refl)

pub cause_octets_lem : (c : Cause) → GoodCause c → cause_octets c ≡ cause_octet c ∷ []
unfolding cause_octets
cause_octets_lem c good = rw (lt-ltb c.value (root_of c.group) good)

pub wait_octets_lem : (v : ℕ) → v < 6 → wait_octets v ≡ wait_octet v ∷ []
unfolding wait_octets
wait_octets_lem v good = rw (lt-ltb v 6 good)

module _ (s : List ℕ) (at : ℕ) where
  pub identity_back : {I : Type 0} {numbered : ℕ → I} {number : I → ℕ} → Numbering numbered number → (v : I) → number v < 65536 → Fills s at (number_octets 2 (number v)) → Ok v ≡ identity_at numbered s at
  unfolding identity_at two_at
  identity_back {number = number} n v b h = past _ (number v) (whole_back 2 s at (number v) b h) (ap Ok (sym (n.again v)))

  pub mme_back : (v : MmeId) → v.0 < 65536 → Fills s at (mme_octets v) → Ok v ≡ mme_at s at
  mme_back = identity_back mme_numbering

  pub mce_back : (v : MceId) → v.0 < 65536 → Fills s at (mce_octets v) → Ok v ≡ mce_at s at
  mce_back = identity_back mce_numbering

  pub one_back : (v : ℕ) → v < 256 → Fills s at (one_octets v) → Ok v ≡ one_at s at
  unfolding one_at
  one_back v b h = whole_back 1 s at v b h

  pub two_back : (v : ℕ) → v < 65536 → Fills s at (two_octets v) → Ok v ≡ two_at s at
  unfolding two_at
  two_back v b h = whole_back 2 s at v b h

  pub tmgi_back : (t : Tmgi) → Fills s at (tmgi_octets t) → Ok t ≡ tmgi_at s at
  unfolding tmgi_octets tmgi_at
  tmgi_back t h =
      let p : List ℕ = t.plmn.0 ∷ t.plmn.1 ∷ t.plmn.2 ∷ [] in
      let v : List ℕ = t.service.0 ∷ t.service.1 ∷ t.service.2 ∷ [] in
      let a = stands_split (packed (bit false ∷ []) ∷ []) (p ++ v) h.stands in
      let e = h.ends in
      let b = stands_split p v a.1 in
      let k : at + 1 + 3 ≡ at + 4 = omega arith in
      past _ tt (plain_back s at [] [] (omega arith, omega arith, tt) (omega arith) a.0)
      (past _ tt (rest_back s at (bit false ∷ []) (omega arith, omega arith, tt) (omega arith) (omega arith) a.0)
      (past _ p (string_back s (at + 1) p b.0)
      (past _ v (rw k at (string_back s (at + 1 + 3) v b.1))
      (past _ tt (ends_back s (at + 7) (omega arith)) refl))))

  pub cause_back : (c : Cause) → GoodCause c → Fills s at (cause_octets c) → Ok c ≡ cause_at s at
  unfolding cause_at
  cause_back c good f =
      let z : cause_octets c ≡ cause_octet c ∷ [] = cause_octets_lem c good in
      let h : Stands s at (cause_octet c ∷ []) = rw z at f.stands in
      let e : length s ≡ at + 1 = rw z at f.ends in
      let g : ℕ = c.group in
      let v : ℕ = c.value in
      let w : ℕ = bits_of_root g in
      let i = (root_width g).0 in
      let n = root_group g good in
      let fit : Fit 8 (bit false ∷ 3 bits g ∷ bit false ∷ w bits v ∷ []) =
      (omega arith, omega arith, (omega arith, omega arith, (omega arith, omega arith, (omega arith, lt_of_lt_of_le good (root_width g).1, tt)))) in
      let k : 1 + (3 + (1 + (w + 0))) ≡ 5 + w = omega arith in
      past _ tt (plain_back s at [] (3 bits g ∷ bit false ∷ w bits v ∷ []) fit (omega arith) h)
      (past _ g (choice_back s at (bit false ∷ []) (3 bits g) (bit false ∷ w bits v ∷ []) fit (omega arith) h 5 n)
      (past _ tt (plain_back s at (bit false ∷ 3 bits g ∷ []) (w bits v ∷ []) fit (omega arith) h)
      (past _ v (choice_back s at (bit false ∷ 3 bits g ∷ bit false ∷ []) (w bits v) [] fit (omega arith) h (root_of g) good)
      (past _ tt (rw k at (rest_back s at (bit false ∷ 3 bits g ∷ bit false ∷ w bits v ∷ []) fit (omega arith) (omega arith) h))
      (past _ tt (ends_back s (at + 1) (omega arith)) refl)))))

  pub wait_back : (v : ℕ) → v < 6 → Fills s at (wait_octets v) → Ok v ≡ wait_at s at
  unfolding wait_at
  wait_back v good f =
      let z : wait_octets v ≡ wait_octet v ∷ [] = wait_octets_lem v good in
      let h : Stands s at (wait_octet v ∷ []) = rw z at f.stands in
      let e : length s ≡ at + 1 = rw z at f.ends in
      let fit : Fit 8 (bit false ∷ 3 bits v ∷ []) = (omega arith, omega arith, (omega arith, omega arith, tt)) in
      past _ tt (plain_back s at [] (3 bits v ∷ []) fit (omega arith) h)
      (past _ v (choice_back s at (bit false ∷ []) (3 bits v) [] fit (omega arith) h 6 good)
      (past _ tt (rest_back s at (bit false ∷ 3 bits v ∷ []) fit (omega arith) (omega arith) h)
      (past _ tt (ends_back s (at + 1) (omega arith)) refl)))
