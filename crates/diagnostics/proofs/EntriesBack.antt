-- Reading the octets of entries gives the entries.
--     entries_length   how many octets they take
--     entries_back     what is read there, and that pad stands behind
-- Assumes nothing.
use mathlib.Core.Path.{◌≡◌, refl}
use mathlib.Core.Bool.{false}
use mathlib.Core.List.{List, [], ◌∷◌, ◌++◌, append-nil, append_assoc}
use Prim.Native.Nat.{ℕ, suc, ◌+◌, ◌*◌, ◌%◌, ◌<◌, ◌≤◌}
use native.Mathlib.Omega.{arith}
use native.Mathlib.Nat.{add-zero, mod-eq_of_lt, mod-lt}
use borrow.Author.Tests.{eq-eqb, ne_eqb}
use lib.Dec.{eqb}
use lib.ListN.{length, length-append}
use Rattle.std.specs.Prelude.{Ok}
use Rattle.octets.specs.Field.{pad_at}
use Rattle.packed.specs.Packed.{Field, ◌bits◌, bit, widths, packed, Fit}
use Rattle.octets.specs.Write.{number_octets}
use Rattle.octets.specs.Stands.{Stands}
use Rattle.octets.specs.Many.{many, Each}
use Rattle.octets.proofs.Chain.{past}
use Rattle.octets.proofs.Stood.{stands_split}
use Rattle.octets.proofs.Back.{number_back, ends_back, length_number}
use Rattle.entries.specs.declared.Entry.{Entry}
use Rattle.entries.specs.Entries.{begins, crit_at, entry_at, entries_at}
use Rattle.diagnostics.specs.Written.{crit_fields, error_fields, entries_octets, GoodEntry}
use Rattle.diagnostics.proofs.Fields.{widths_join, fit_join, plain_in, choice_in, pad_in}

pub crit_fit : (us : List Field) (v : ℕ) → Fit 8 us → widths us ≤ 2 → Fit 8 (us ++ crit_fields v)
crit_fit us v ok b = fit_join 8 us (crit_fields v) ok (omega arith, omega arith, (omega arith, omega arith, (omega arith, mod-lt v (omega arith), tt)))

pub error_fit : (v : ℕ) → Fit 8 (error_fields v)
error_fit v = (omega arith, omega arith, (omega arith, mod-lt v (omega arith), tt))

pub entries_length : (us : List Field) (es : List Entry) → length (entries_octets us es) ≡ 1 + 3 * length es
unfolding entries_octets
entries_length us [] = refl
entries_length us (e ∷ es) =
    let i = entries_length (error_fields e.error) es in
    let a = length-append (number_octets 2 e.id) (entries_octets (error_fields e.error) es) in
    let n = length_number 2 e.id in
    omega arith

module _ (s : List ℕ) where
  crit_back : (at : ℕ) (us : List Field) (v : ℕ) → Fit 8 us → widths us ≤ 2 → v < 3 → Stands s at (packed (us ++ crit_fields v) ∷ []) → Ok v ≡ crit_at s at (widths us)
  unfolding crit_at
  crit_back at us v ok b l h =
      let fit = crit_fit us v ok b in
      let m : v % 4 ≡ v = mod-eq_of_lt (omega arith) in
      let one = widths_join us (bit false ∷ []) in
      let two = widths_join us (bit false ∷ bit false ∷ []) in
      let all = widths_join us (crit_fields v) in
      past _ _ (plain_in s at _ fit h us (bit false ∷ 2 bits (v % 4) ∷ []) (widths us) (omega arith) refl)
      (past _ _ (plain_in s at _ fit h (us ++ bit false ∷ []) (2 bits (v % 4) ∷ []) (widths us + 1) (omega arith) (append_assoc us (bit false ∷ []) _))
      (past _ _ (rw m at (choice_in s at _ fit h (us ++ bit false ∷ bit false ∷ []) [] (widths us + 2) (omega arith) 2 (v % 4) 3 (append_assoc us (bit false ∷ bit false ∷ []) _) (rw m l)))
      (past _ _ (pad_in s at _ fit h (widths us + 4) (omega arith) (omega arith)) refl)))

  -- the first octet, with what follows in it
  first : (at : ℕ) (us : List Field) (es : List Entry) → Fit 8 us → widths us ≤ 2 → Stands s at (entries_octets us es)
      → (ls : List Field) × Fit 8 (us ++ ls) × Stands s at (packed (us ++ ls) ∷ [])
  unfolding entries_octets
  first at us [] ok b h = let e = append-nil us in ([], rw e ok, rw e h)
  first at us (e ∷ es) ok b h = (crit_fields e.crit, crit_fit us e.crit ok b, (stands_split (packed (us ++ crit_fields e.crit) ∷ []) _ h).0)

  parts : (at : ℕ) (us : List Field) (e : Entry) (es : List Entry) → Stands s at (entries_octets us (e ∷ es))
      → Stands s at (packed (us ++ crit_fields e.crit) ∷ []) × Stands s (at + 1) (number_octets 2 e.id) × Stands s (at + 3) (entries_octets (error_fields e.error) es)
  unfolding entries_octets
  parts at us e es h =
      let x = stands_split (packed (us ++ crit_fields e.crit) ∷ []) (number_octets 2 e.id ++ entries_octets (error_fields e.error) es) h in
      let y = stands_split (number_octets 2 e.id) (entries_octets (error_fields e.error) es) x.1 in
      let n = length_number 2 e.id in
      let d : at + 1 + length (number_octets 2 e.id) ≡ at + 3 = omega arith in
      (x.0, y.0, rw d at y.1)

  entry_back : (from at : ℕ) (us : List Field) (e : Entry) (es : List Entry) → Fit 8 us → widths us ≤ 2 → widths us ≡ begins from at → GoodEntry e
      → Stands s at (entries_octets us (e ∷ es)) → Ok (record { value = e; next = at + 3 }) ≡ entry_at s from at
  unfolding entry_at
  entry_back from at us e es ok b w g h =
      let x = parts at us e es h in
      let z = first (at + 3) (error_fields e.error) es (error_fit e.error) (omega arith) x.2 in
      let m : e.error % 2 ≡ e.error = mod-eq_of_lt g.error in
      past _ _ (rw w at (crit_back at us e.crit ok b g.crit x.0))
      (past _ _ (number_back 2 s (at + 1) e.id g.id x.1)
      (past _ _ (plain_in s (at + 3) _ z.1 z.2 [] _ 0 refl refl)
      (past _ _ (rw m at (choice_in s (at + 3) _ z.1 z.2 (bit false ∷ []) z.0 1 refl 1 (e.error % 2) 2 refl (rw m g.error))) refl)))

  many_entries : (from at : ℕ) (us : List Field) (es : List Entry) → from ≤ at → Fit 8 us → widths us ≤ 2 → widths us ≡ begins from at → Each GoodEntry es
      → Stands s at (entries_octets us es) → Ok (record { value = es; next = at + 3 * length es }) ≡ many (entry_at s from) (length es) at
  unfolding many
  many_entries from at us [] l ok b w g h = rw add-zero
  many_entries from at us (e ∷ es) l ok b w g h =
      let n : eqb (at + 3) from ≡ false = ne_eqb (at + 3) from (λ q. omega arith) in
      let d : at + 3 + 3 * length es ≡ at + 3 * suc (length es) = omega arith in
      past _ _ (entry_back from at us e es ok b w g.0 h)
      (past _ _ (many_entries from (at + 3) (error_fields e.error) es (omega arith) (error_fit e.error) (omega arith) (rw n) g.1 (parts at us e es h).2) (rw d))

  pad_behind : (at : ℕ) (us : List Field) (es : List Entry) → Fit 8 us → widths us ≡ 2 → Stands s at (entries_octets us es) → Ok tt ≡ pad_at s (at + 3 * length es) 2
  unfolding entries_octets
  pad_behind at us [] ok w h = rw add-zero (pad_in s at us ok h 2 w (omega arith))
  pad_behind at us (e ∷ es) ok w h =
      let d : at + 3 + 3 * length es ≡ at + 3 * suc (length es) = omega arith in
      rw d at (pad_behind (at + 3) (error_fields e.error) es (error_fit e.error) refl (parts at us e es h).2)

  pub entries_back : (at : ℕ) (es : List Entry) → 0 < length es → Each GoodEntry es → Stands s at (entries_octets [] es) → length s ≡ at + 1 + 3 * length es
      → Ok es ≡ entries_at (length es) s at
  unfolding entries_at
  entries_back at [] p g h e = absurd (omega arith)
  entries_back at (x ∷ es) p g h e =
      let d : at + 3 + 3 * length es ≡ at + 3 * suc (length es) = omega arith in
      past _ _ (many_entries at at [] (x ∷ es) (omega arith) tt (omega arith) (rw (eq-eqb at at refl)) g h)
      (past _ _ (rw d at (pad_behind (at + 3) (error_fields x.error) es (error_fit x.error) refl (parts at [] x es h).2))
      (past _ _ (ends_back s (at + 3 * suc (length es) + 1) (omega arith)) refl))
