-- Reading what was written gives the value, where the octets end behind it.
-- Assumes nothing.
use mathlib.Core.Path.{◌≡◌, refl, sym, ap}
use mathlib.Core.Bool.{Bool, true, false}
use mathlib.Core.List.{List, []}
use Prim.Native.Nat.{ℕ, ◌+◌, ◌-◌, ◌≤◌}
use native.Mathlib.Omega.{arith}
use borrow.Author.Tests.{ltb-true, ltb-false}
use lib.Dec.{ltb}
use lib.ListN.{length, length-append, drop_of_length-le}
use Rattle.std.specs.Prelude.{Ok}
use Rattle.octets.specs.Write.{number_octets}
use Rattle.octets.specs.Stands.{Stands}
use Rattle.octets.specs.Many.{Each}
use Rattle.octets.proofs.Chain.{past}
use Rattle.octets.proofs.Stood.{stands_split}
use Rattle.octets.proofs.Back.{number_back, ends_back, length_number}
use Rattle.entries.specs.declared.Entry.{Entry}
use Rattle.diagnostics.specs.Diagnostics.{Diagnostics, diagnostics_at}
use Rattle.entries.specs.Entries.{list_at, maybe_list_at}
use Rattle.diagnostics.specs.Written.{head_octets, entries_octets, entry_list_octets, diagnostics_octets, GoodEntry, GoodDiagnostics}
use Rattle.diagnostics.proofs.HeadBack.{head_back}
use Rattle.diagnostics.proofs.EntriesBack.{entries_length, entries_back}

module _ (s : List ℕ) where
  list_back : (at : ℕ) (b : Bool) (es : List Entry) → b ≡ ltb 0 (length es) → length es ≤ 256 → Each GoodEntry es → Stands s at (entry_list_octets b es) → length s ≡ at + length (entry_list_octets b es)
      → Ok es ≡ maybe_list_at b s at
  unfolding list_at
  list_back at false es t n g h e =
      let l = ltb-false 0 (length es) (sym t) in
      past _ _ (ends_back s at (omega arith)) (ap (λ (x : List Entry). Ok x) (drop_of_length-le es {i = 0} l))
  list_back at true es t n g h e =
      let l = ltb-true 0 (length es) (sym t) in
      let x = stands_split (number_octets 1 (length es - 1)) (entries_octets [] es) h in
      let a = length-append (number_octets 1 (length es - 1)) (entries_octets [] es) in
      let c = length_number 1 (length es - 1) in
      let d : at + length (number_octets 1 (length es - 1)) ≡ at + 1 = omega arith in
      let m : length es - 1 + 1 ≡ length es = omega arith in
      past _ _ (number_back 1 s at (length es - 1) (omega arith) x.0)
      (rw m (entries_back s (at + 1) es l g (rw d at x.1) (omega (arith, entries_length [] es))))

  pub diagnostics_back : (n : ℕ) → n ≤ 4 → (at : ℕ) (d : Diagnostics) → GoodDiagnostics n d → Stands s at (diagnostics_octets d) → length s ≡ at + length (diagnostics_octets d) → Ok d ≡ diagnostics_at n s at
  unfolding diagnostics_at diagnostics_octets
  diagnostics_back n w at d g h e =
      let x = stands_split (head_octets d.head) (entry_list_octets d.head.listed d.entries) h in
      let a = length-append (head_octets d.head) (entry_list_octets d.head.listed d.entries) in
      past _ _ (head_back n w s at d.head g.head x.0)
      (past _ _ (list_back (at + length (head_octets d.head)) d.head.listed d.entries g.listed g.count g.entries x.1 (omega arith)) refl)
