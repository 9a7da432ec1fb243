-- The characters of a name, one by one and all together.
--     chars_none, -more, -stop   what a loop over them knows
--     chars_all, chars_pass      they are read exactly if each is printable
-- Assumes nothing.
use mathlib.Core.Path.{◌≡◌, refl}
use mathlib.Core.Bool.{Bool, true, false, ◌&&◌}
use mathlib.Core.List.{List}
use Prim.Native.Nat.{ℕ, zero, suc, ◌+◌, ◌-◌, ◌<◌, ◌≤◌}
use native.Mathlib.Nat.{add-zero}
use native.Mathlib.Omega.{arith}
use borrow.Author.Tests.{le-ltb}
use lib.ListN.{length, get_or}
use lib.Seq.{slice, slice_empty}
use Rattle.lists.proofs.Slices.{slice_next}
use Rattle.std.specs.Prelude.{Ok, Err}
use Rattle.std.specs.Result.{is_ok}
use Rattle.octets.specs.Read.{Read, no_meaning}
use Rattle.names.specs.Names.{printable, all_printable, char_at, chars_at}

pub pass_got : (r : Read Unit) → is_ok r ≡ true → Ok tt ≡ r
pass_got (Ok u) e = refl
pass_got (Err x) e = cc

module _ (s : List ℕ) (i : ℕ) (h : i < length s) where
  pub char_good : printable (get_or s i 0) ≡ true → char_at s i ≡ Ok tt
  unfolding char_at
  char_good e = rw (le-ltb (length s) (i + 1) (omega arith), e)

  pub char_bad : printable (get_or s i 0) ≡ false → char_at s i ≡ Err (no_meaning i)
  unfolding char_at
  char_bad e = rw (le-ltb (length s) (i + 1) (omega arith), e)

-- the characters from i up to an end
module _ (s : List ℕ) (i to : ℕ) where
  pub chars_none : to ≤ i → chars_at (to - i) s i ≡ Ok tt
  chars_none h = let e : to - i ≡ 0 = omega arith in rw e

  pub chars_more : i < to → to ≤ length s → printable (get_or s i 0) ≡ true → chars_at (to - (i + 1)) s (i + 1) ≡ chars_at (to - i) s i
  chars_more h b e =
      let k : to - i ≡ suc (to - (i + 1)) = omega arith in
      rw (k, char_good s i (omega arith) e)

  pub chars_stop : i < to → to ≤ length s → printable (get_or s i 0) ≡ false → chars_at (to - i) s i ≡ Err (no_meaning i)
  chars_stop h b e =
      let k : to - i ≡ suc (to - (i + 1)) = omega arith in
      rw (k, char_bad s i (omega arith) e)

pub chars_all : (n : ℕ) (s : List ℕ) (at : ℕ) → at + n ≤ length s → is_ok (chars_at n s at) ≡ all_printable (slice at (at + n) s)
chars_all zero s at h = rw (add-zero at, slice_empty at s)
chars_all (suc n) s at h =
    let k : at + 1 + n ≡ at + suc n = omega arith in
    rw (slice_next at (at + suc n) s 0 (omega arith) h) (by (printable (get_or s at 0)) refl (rw k at (chars_all n s (at + 1) (omega arith))))
  where
    by : (b : Bool) → printable (get_or s at 0) ≡ b → is_ok (chars_at n s (at + 1)) ≡ all_printable (slice (at + 1) (at + suc n) s)
        → is_ok (chars_at (suc n) s at) ≡ (printable (get_or s at 0) && all_printable (slice (at + 1) (at + suc n) s))
    by true e r = rw (char_good s at (omega arith) e, e) r
    by false e r = rw (char_bad s at (omega arith) e, e)

pub chars_pass : (s : List ℕ) (from to : ℕ) → from ≤ to → to ≤ length s → is_ok (chars_at (to - from) s from) ≡ all_printable (slice from to s)
chars_pass s from to h b = let k : from + (to - from) ≡ to = omega arith in rw k at (chars_all (to - from) s from (omega arith))
