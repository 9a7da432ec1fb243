-- A list as rows with zeros behind them, put one after another: the count, the rows, the rest. No list is zeros.
-- Assumes nothing.
use mathlib.Core.Path.{◌≡◌, ◌∙◌, refl, sym, ap, subst}
use mathlib.Core.Bool.{true, false}
use mathlib.Core.List.{List, [], ◌∷◌, ◌++◌, append_assoc, append-nil}
use Prim.Native.Nat.{ℕ, ◌+◌, ◌-◌, ◌*◌}
use native.Mathlib.Nat.{sub-zero}
use lib.ListN.{length, replicate, replicate-append-replicate}
use Rattle.std.specs.Prelude.{Ok, Err}
use Rattle.std.specs.Result.{is_err}
use Rattle.octets.specs.Read.{Read, ◌>>◌, checked, or_none}
use Rattle.octets.specs.Field.{ends_at}
use Rattle.entries.specs.declared.Entry.{Entry}
use Rattle.entries.specs.Entries.{maybe_list_at}
use Rattle.octets.specs.Many.{each_octets}
use Rattle.octets.specs.Write.{Wrote, number_octets}
use Rattle.octets.specs.declared.Stop.{Stop}
use Rattle.octets.proofs.EachWritten.{each_size}
use Rattle.octets.proofs.Writing.{wrote_then}
use Rattle.layout.specs.Rows.{list_octets}

module _ {A : Type 0} (row : A → List ℕ) where
  pub rows_more : (l : List A) (a : A) → each_octets row (l ++ a ∷ []) ≡ each_octets row l ++ row a
  rows_more [] a = append-nil (row a)
  rows_more (b ∷ l) a = ap (row b ++◌) (rows_more l a) ∙ sym (append_assoc (row b) (each_octets row l) (row a))

  pub no_rows : (n : ℕ) → replicate (2 + n) 0 ≡ list_octets n row []
  unfolding number_octets
  no_rows n = rw (sub-zero n) (sym (replicate-append-replicate {A = ℕ} 2 n 0))

  -- rows of w octets, up to n
  pub wrote_rows : (w n : ℕ) → ((a : A) → length (row a) ≡ w) → (l : List A) {s m k t : List ℕ} {at r p q : ℕ}
      → Wrote s at (number_octets 2 (length l)) m r → Wrote m r (each_octets row l) k p → Wrote k p (replicate (n - w * length l) 0) t q → Wrote s at (list_octets n row l) t q
  wrote_rows w n size l a b c = wrote_then a (wrote_then b (rw (each_size row w size l) c))

module _ {A : Type 0} (row : A → List ℕ) (n : ℕ) {x : Read (List A)} {s m : List ℕ} {at r : ℕ} where
  pub wrote_list : (l : List A) → Ok l ≡ x → Wrote s at (list_octets n row l) m r → Wrote s at (list_octets n row (or_none x)) m r
  wrote_list l q w = subst (λ (y : Read (List A)). Wrote s at (list_octets n row (or_none y)) m r) q w

  pub wrote_stop : {e : Stop} → Err e ≡ x → Wrote s at (replicate (2 + n) 0) m r → Wrote s at (list_octets n row (or_none x)) m r
  wrote_stop q w = subst (λ (y : Read (List A)). Wrote s at (list_octets n row (or_none y)) m r) q (rw (no_rows row n) at w)

-- ---- what a gate tells

pub none_there : (s : List ℕ) (at : ℕ) → or_none (maybe_list_at false s at) ≡ []
none_there s at = by (ends_at s at)
  where
    by : (r : Read Unit) → or_none {A = Entry} (r >> Ok []) ≡ []
    by (Ok u) = refl
    by (Err x) = refl

pub passed : {A : Type 0} (x : Read A) → is_err (checked x) ≡ false → ◌≡◌ {A = Read Unit} (Ok tt) (checked x)
passed (Ok a) q = refl
passed (Err x) q = cc

pub wrote_unread : {A : Type 0} (row : A → List ℕ) (n : ℕ) (x : Read (List A)) → is_err (checked x) ≡ true → {s m : List ℕ} {at r : ℕ}
    → Wrote s at (replicate (2 + n) 0) m r → Wrote s at (list_octets n row (or_none x)) m r
wrote_unread row n (Ok l) q w = cc
wrote_unread row n (Err e) q w = rw (no_rows row n) at w
