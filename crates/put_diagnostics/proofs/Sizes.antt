-- How many octets Criticality Diagnostics take.
-- Assumes nothing.
use Rattle.std.specs.Prelude.{None, Option, Some}
use mathlib.Core.Path.{◌≡◌, refl, sym, ap}
use mathlib.Core.Bool.{Bool, true, false}
use mathlib.Core.List.{List, [], ◌++◌}
use Prim.Native.Nat.{ℕ, min, ◌+◌, ◌*◌, ◌-◌, ◌/◌, ◌≤◌}
use native.Mathlib.Omega.{arith}
use native.Mathlib.Nat.{add-zero}
use lib.ListN.{length, length-append}
use Rattle.lists.specs.Lists.{pick}
use Rattle.octets.specs.Write.{number_octets}
use Rattle.octets.proofs.Back.{length_number}
use Rattle.entries.specs.declared.Entry.{Entry}
use Rattle.diagnostics.specs.declared.Head.{Head}
use Rattle.diagnostics.specs.Diagnostics.{after}
use Rattle.diagnostics.specs.Written.{has_number, head_octets, entries_octets, entry_list_octets, diagnostics_octets}
use Rattle.diagnostics.proofs.HeadBack.{head_length}
use Rattle.diagnostics.proofs.EntriesBack.{entries_length}
use Rattle.put_diagnostics.specs.Put.{listed_size, bits_for}

pub bits_le : (n : Option ℕ) (w : ℕ) → bits_for n w ≤ w
bits_le (Some v) w = omega arith
bits_le None w = omega arith

after_bits : (n : Option ℕ) (w p : ℕ) → after (has_number n) w p ≡ p + bits_for n w
after_bits (Some v) w p = refl
after_bits None w p = sym (add-zero p)

module _ (h : Head) where
  pub head_size : (6 + bits_for h.code 10 + bits_for h.trigger 2 + bits_for h.crit 2 + 7) / 8 ≡ length (head_octets h)
  head_size =
      rw (← after_bits h.code 10 6, ← after_bits h.trigger 2 (after (has_number h.code) 10 6), ← after_bits h.crit 2 (after (has_number h.trigger) 2 (after (has_number h.code) 10 6)))
      (sym (head_length h))

  pub head_small : length (head_octets h) ≤ 3
  head_small = omega (arith, sym head_size, bits_le h.code 10, bits_le h.trigger 2, bits_le h.crit 2)

pub list_size : (es : List Entry) → length (entry_list_octets true es) ≡ 2 + 3 * length es
list_size es =
    let a = length-append (number_octets 1 (length es - 1)) (entries_octets [] es) in
    let b = length_number 1 (length es - 1) in
    let c = entries_length [] es in
    omega arith

-- Criticality Diagnostics with a list exactly where their head says so
pub listed_length : (h : Head) (es : List Entry) → length (diagnostics_octets (record { head = h; entries = pick h.listed es [] })) ≡ listed_size h (length es)
unfolding diagnostics_octets
listed_length h es = by h.listed
  where
    by : (b : Bool) → length (head_octets h ++ entry_list_octets b (pick b es [])) ≡ length (head_octets h) + pick b (2 + 3 * length es) 0
    by true = let a = length-append (head_octets h) (entry_list_octets true es) in let b = list_size es in omega arith
    by false = length-append (head_octets h) []

-- as far as a number can say it
module _ (h : Head) (n : ℕ) where
  said_as : {b : Bool} → h.listed ≡ b → listed_size h n ≡ length (head_octets h) + pick b (2 + 3 * n) 0
  said_as e = ap (λ (b : Bool). length (head_octets h) + pick b (2 + 3 * n) 0) e

  pub size_no : h.listed ≡ false → length (head_octets h) ≡ min (listed_size h n) 18446744073709551615
  size_no e = omega (arith, said_as e, head_small h)

  pub size_fits : n ≤ 6148914691236517203 → min (listed_size h n) 18446744073709551615 ≡ listed_size h n
  size_fits b = by h.listed refl
    where
      by : (t : Bool) → h.listed ≡ t → min (listed_size h n) 18446744073709551615 ≡ listed_size h n
      by true e = omega (arith, said_as e, head_small h)
      by false e = omega (arith, said_as e, head_small h)
