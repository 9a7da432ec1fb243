-- What was read, written again, is the same octets, up to their end; and it is good.
-- Assumes nothing.
use mathlib.Core.Path.{◌≡◌, refl, sym, subst}
use mathlib.Core.Bool.{Bool, true, false}
use mathlib.Core.List.{List, []}
use Prim.Native.Nat.{ℕ, ◌+◌, ◌-◌, ◌≤◌}
use native.Mathlib.Omega.{arith}
use borrow.Author.Tests.{lt-ltb}
use lib.Dec.{ltb}
use lib.ListN.{length, length-append}
use Rattle.std.specs.Prelude.{Ok}
use Rattle.octets.specs.Field.{number_at, ends_at}
use Rattle.octets.specs.Write.{number_octets}
use Rattle.octets.specs.Stands.{Stands, Octets}
use Rattle.octets.specs.Many.{Each}
use Rattle.octets.proofs.Chain.{then_got, same_got}
use Rattle.octets.proofs.Got.{number_got, ends_got}
use Rattle.octets.proofs.Stood.{stands_none, stands_join}
use Rattle.octets.proofs.Back.{length_number}
use Rattle.octets.proofs.Again.{number_again, value_below}
use Rattle.entries.specs.declared.Entry.{Entry}
use Rattle.diagnostics.specs.declared.Head.{Head}
use Rattle.diagnostics.specs.Diagnostics.{Diagnostics, head_at, diagnostics_at}
use Rattle.entries.specs.Entries.{list_at, maybe_list_at}
use Rattle.diagnostics.specs.Written.{head_octets, entries_octets, entry_list_octets, diagnostics_octets, GoodEntry, GoodHead, GoodDiagnostics}
use Rattle.diagnostics.proofs.HeadAgain.{head_again}
use Rattle.diagnostics.proofs.EntriesBack.{entries_length}
use Rattle.diagnostics.proofs.EntriesAgain.{entries_again}

module _ (s : List ℕ) (o : Octets s) where
  record List-again (at : ℕ) (b : Bool) (es : List Entry) : Type 0 where
    octets : Stands s at (entry_list_octets b es)
    ends : length s ≤ at + length (entry_list_octets b es)
    listed : b ≡ ltb 0 (length es)
    count : length es ≤ 256
    good : Each GoodEntry es

  list_again : (at : ℕ) (b : Bool) (es : List Entry) → at ≤ length s → Ok es ≡ maybe_list_at b s at → List-again at b es
  unfolding list_at
  list_again at false es l q =
      let a = then_got (ends_at s at) _ q in
      let x = ends_got s at a.1 in
      subst (List-again at false) (sym (same_got a.2)) (record { octets = stands_none l; ends = omega arith; listed = refl; count = omega arith; good = tt })
  list_again at true es l q =
      let a = then_got (number_at 1 s at) _ q in
      let g = number_got s at 1 a.1 in
      let v = value_below 1 s at o in
      let x = entries_again s o (a.0 + 1) (at + 1) es (omega arith) a.2 in
      let n : length es ≡ a.0 + 1 = x.1 in
      let m : length es - 1 ≡ a.0 = omega arith in
      let c = length_number 1 (length es - 1) in
      let d : at + length (number_octets 1 (length es - 1)) ≡ at + 1 = omega arith in
      let e = length-append (number_octets 1 (length es - 1)) (entries_octets [] es) in
      let k = entries_length [] es in
      let z = x.2 in
      record {
        octets = stands_join {vs = number_octets 1 (length es - 1)} (rw m (number_again 1 s at o a.1)) (rw d x.0);
        ends = omega arith;
        listed = sym (lt-ltb 0 (length es) (omega arith));
        count = omega (arith, g.1);
        good = x.3;
      }

  abbrev pub Again : ℕ → ℕ → Diagnostics → Type 0
  Again n at d = Stands s at (diagnostics_octets d) × (length s ≡ at + length (diagnostics_octets d)) × GoodDiagnostics n d

  joined : (n at next : ℕ) (h : Head) (es : List Entry) → Stands s at (head_octets h) → next ≡ at + length (head_octets h) → GoodHead n h → List-again next h.listed es
      → Again n at (record { head = h; entries = es })
  unfolding diagnostics_octets
  joined n at next h es x e g l =
      let a = length-append (head_octets h) (entry_list_octets h.listed es) in
      let both = stands_join {vs = head_octets h} {ws = entry_list_octets h.listed es} x (rw e at l.octets) in
      let r = both.room in
      let z = l.ends in
      (both, omega arith, record { head = g; entries = l.good; listed = l.listed; count = l.count })

  pub diagnostics_again : (n at : ℕ) (d : Diagnostics) → Ok d ≡ diagnostics_at n s at → Again n at d
  unfolding diagnostics_at
  diagnostics_again n at d q =
      let a = then_got (head_at n s at) _ q in
      let b = then_got (maybe_list_at a.0.value.listed s a.0.next) _ a.2 in
      let x = head_again s o at n a.0 a.1 in
      let r = x.0.room in
      let e = x.1 in
      subst (Again n at) (sym (same_got b.2))
      (joined n at a.0.next a.0.value b.0 x.0 e x.2 (list_again a.0.next a.0.value.listed b.0 (omega arith) b.1))
