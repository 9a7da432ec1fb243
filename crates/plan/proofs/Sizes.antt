-- The size of a value: that of its octets, or 0 where it has none.
-- Assumes nothing.
use mathlib.Core.Path.{◌≡◌, sym}
use mathlib.Core.Bool.{true, false}
use mathlib.Core.List.{List}
use Prim.Native.Nat.{ℕ}
use lib.ListN.{length}
use Rattle.octets.proofs.Back.{length_number}
use Rattle.identity.specs.declared.MmeId.{MmeId}
use Rattle.identity.specs.declared.MceId.{MceId}
use Rattle.meaning.specs.Value.{Value, mme, mce}
use Rattle.meaning.specs.Written.{octets_of, has_octets}
use Rattle.plan.specs.Plan.{size_of}

pub size_has : (v : Value (List ℕ)) {n : ℕ} → has_octets v ≡ true → n ≡ length (octets_of v) → n ≡ size_of v
unfolding size_of
size_has v e h = rw e h

pub size_none : (v : Value (List ℕ)) → has_octets v ≡ false → 0 ≡ size_of v
unfolding size_of
size_none v e = rw e

pub mme_size : (v : MmeId) → 2 ≡ size_of (mme v)
unfolding size_of has_octets octets_of
mme_size v = sym (length_number 2 v.0)

pub mce_size : (v : MceId) → 2 ≡ size_of (mce v)
unfolding size_of has_octets octets_of
mce_size v = sym (length_number 2 v.0)
