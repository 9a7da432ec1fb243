-- What was read is a value that has octets.
-- Assumes nothing.
use mathlib.Core.Path.{◌≡◌, sym, subst}
use mathlib.Core.List.{List}
use Prim.Native.Nat.{ℕ, ◌+◌, ◌^◌, ◌<◌}
use Rattle.std.specs.Prelude.{Ok}
use Rattle.octets.specs.Field.{plain_at, choice_at, pad_at, number_at, ends_at}
use Rattle.octets.specs.Stands.{Octets}
use Rattle.octets.proofs.Chain.{then_got, same_got}
use Rattle.octets.proofs.Got.{number_got, choice_got}
use Rattle.octets.proofs.Again.{value_below}
use Rattle.identity.specs.Identity.{Numbering, mme_numbering, mce_numbering}
use Rattle.identity.specs.declared.MmeId.{MmeId}
use Rattle.identity.specs.declared.MceId.{MceId}
use Rattle.values.specs.declared.Cause.{Cause}
use Rattle.values.specs.Values.{whole_at, identity_at, mme_at, mce_at, one_at, two_at, root_of, bits_of_root, cause_at, wait_at}
use Rattle.values.specs.Written.{GoodCause}

whole_good : (k : ℕ) (s : List ℕ) (at : ℕ) {v : ℕ} → Octets s → Ok v ≡ whole_at k s at → v < 256 ^ k
whole_good k s at {v} o q =
    let a = then_got (number_at k s at) _ q in
    let b = then_got (ends_at s (at + k)) _ a.2 in
    subst (λ (x : ℕ). x < 256 ^ k) (sym (same_got b.2)) (rw (number_got s at k a.1).1 (value_below k s at o))

module _ (s : List ℕ) (at : ℕ) where
  pub identity_good : {I : Type 0} {numbered : ℕ → I} {number : I → ℕ} → Numbering numbered number → {v : I} → Octets s → Ok v ≡ identity_at numbered s at → number v < 65536
  unfolding identity_at two_at
  identity_good {I} {number = number} n o q =
      let a = then_got (whole_at 2 s at) _ q in
      subst (λ (x : I). number x < 65536) (sym (same_got a.2)) (rw (n.back a.0) (whole_good 2 s at o a.1))

  pub mme_good : {v : MmeId} → Octets s → Ok v ≡ mme_at s at → v.0 < 65536
  mme_good = identity_good mme_numbering

  pub mce_good : {v : MceId} → Octets s → Ok v ≡ mce_at s at → v.0 < 65536
  mce_good = identity_good mce_numbering

  pub one_good : {v : ℕ} → Octets s → Ok v ≡ one_at s at → v < 256
  unfolding one_at
  one_good o q = whole_good 1 s at o q

  pub two_good : {v : ℕ} → Octets s → Ok v ≡ two_at s at → v < 65536
  unfolding two_at
  two_good o q = whole_good 2 s at o q

  pub cause_good : {c : Cause} → Ok c ≡ cause_at s at → GoodCause c
  unfolding cause_at
  cause_good q =
      let a = then_got (plain_at s at 0) _ q in
      let b = then_got (choice_at 5 3 s at 1) _ a.2 in
      let d = then_got (plain_at s at 4) _ b.2 in
      let e = then_got (choice_at (root_of b.0) (bits_of_root b.0) s at 5) _ d.2 in
      let f = then_got (pad_at s at (5 + bits_of_root b.0)) _ e.2 in
      let n = then_got (ends_at s (at + 1)) _ f.2 in
      subst GoodCause (sym (same_got n.2)) (choice_got s at (root_of b.0) (bits_of_root b.0) 5 e.1).2

  pub wait_good : {v : ℕ} → Ok v ≡ wait_at s at → v < 6
  unfolding wait_at
  wait_good q =
      let a = then_got (plain_at s at 0) _ q in
      let b = then_got (choice_at 6 3 s at 1) _ a.2 in
      let d = then_got (pad_at s at 4) _ b.2 in
      let e = then_got (ends_at s (at + 1)) _ d.2 in
      subst (λ (x : ℕ). x < 6) (sym (same_got e.2)) (choice_got s at 6 3 1 b.1).2
