-- The elements of a list, written one after another.
--     each_more, each_take   the octets of one element more
--     wrote_more             one element more is written
--     each_size              elements of one size
-- Assumes nothing.
use mathlib.Core.Path.{◌≡◌, ◌∙◌, sym, ap}
use mathlib.Core.List.{List, [], ◌∷◌, ◌++◌, append_assoc, append-nil}
use Prim.Native.Nat.{ℕ, ◌+◌, ◌*◌, ◌<◌}
use native.Mathlib.Nat.{mul-zero, mul-suc}
use native.Mathlib.Omega.{arith}
use lib.ListN.{length, take, get_or, length-append}
use Rattle.lists.proofs.Slices.{take_next}
use Rattle.octets.specs.Many.{each_octets}
use Rattle.octets.specs.Write.{Wrote}
use Rattle.octets.proofs.Writing.{wrote_then}

module _ {A : Type 0} (octets : A → List ℕ) where
  each_more : (vs : List A) (v : A) → each_octets octets (vs ++ v ∷ []) ≡ each_octets octets vs ++ octets v
  each_more [] v = append-nil (octets v)
  each_more (w ∷ vs) v = ap (octets w ++◌) (each_more vs v) ∙ sym (append_assoc (octets w) (each_octets octets vs) (octets v))

  pub each_take : (l : List A) (i : ℕ) (d : A) → i < length l → each_octets octets (take (i + 1) l) ≡ each_octets octets (take i l) ++ octets (get_or l i d)
  each_take l i d h = rw (take_next l i d h) (each_more (take i l) (get_or l i d))

  pub wrote_more : (l : List A) (i : ℕ) (d : A) {s m k : List ℕ} {at r q : ℕ} → i < length l
      → Wrote s at (each_octets octets (take i l)) m r → Wrote m r (octets (get_or l i d)) k q → Wrote s at (each_octets octets (take (i + 1) l)) k q
  wrote_more l i d h a b = rw (each_take l i d h) (wrote_then a b)

  pub each_size : (k : ℕ) → ((a : A) → length (octets a) ≡ k) → (l : List A) → length (each_octets octets l) ≡ k * length l
  each_size k size [] = sym (mul-zero k)
  each_size k size (a ∷ l) = rw (length-append (octets a) (each_octets octets l), size a, each_size k size l, mul-suc k (length l)) (omega arith)
