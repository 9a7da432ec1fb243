-- Entries that were read, written again, are the same octets; and they are good.
-- Assumes nothing.
use mathlib.Core.Path.{◌≡◌, ◌∙◌, refl, sym, ap, subst}
use mathlib.Core.Bool.{false}
use mathlib.Core.List.{List, [], ◌∷◌, ◌++◌}
use Prim.Native.Nat.{ℕ, zero, suc, ◌+◌, ◌*◌, ◌%◌, ◌<◌, ◌≤◌}
use native.Mathlib.Omega.{arith}
use native.Mathlib.Nat.{add-zero, mod-eq_of_lt}
use borrow.Author.Tests.{eq-eqb, ne_eqb}
use lib.Dec.{eqb}
use lib.ListN.{length, get_or}
use Rattle.std.specs.Prelude.{Ok}
use Rattle.packed.specs.Packed.{bits_of, Field, ◌bits◌, bit, widths, packed}
use Rattle.octets.specs.Field.{plain_at, choice_at, pad_at, number_at, ends_at}
use Rattle.octets.specs.Write.{number_octets}
use Rattle.octets.specs.Stands.{Stands, Octets}
use Rattle.octets.specs.Many.{many, Each}
use Rattle.octets.specs.declared.Part.{Part}
use Rattle.packed.proofs.Packed.{fields_of}
use Rattle.octets.proofs.Chain.{then_got, same_got}
use Rattle.octets.proofs.Got.{plain_got, choice_got, pad_got, number_got, ends_got}
use Rattle.octets.proofs.Stood.{stands_join}
use Rattle.octets.proofs.Back.{length_number}
use Rattle.octets.proofs.Again.{number_again, value_below}
use Rattle.entries.specs.declared.Entry.{Entry}
use Rattle.entries.specs.Entries.{begins, crit_at, entry_at, entries_at}
use Rattle.diagnostics.specs.Written.{crit_fields, error_fields, entries_octets, GoodEntry}
use Rattle.diagnostics.proofs.Fields.{widths_join, fields_behind, pad_low, octet_again}

module _ (s : List ℕ) (o : Octets s) where
  -- the fields us are what an octet begins with
  record Held (us : List Field) (at : ℕ) : Type 0 where
    ws : List ℕ
    fields : us ≡ fields_of (get_or s at 0) 0 ws
    small : widths us ≤ 2

  crit_again : (at : ℕ) (us : List Field) (v : ℕ) → Held us at → Ok v ≡ crit_at s at (widths us) → Stands s at (packed (us ++ crit_fields v) ∷ []) × (v < 3)
  unfolding crit_at
  crit_again at us v k q =
      let a = then_got (plain_at s at (widths us)) _ q in
      let b = then_got (plain_at s at (widths us + 1)) _ a.2 in
      let c = then_got (choice_at 3 2 s at (widths us + 2)) _ b.2 in
      let d = then_got (pad_at s at (widths us + 4)) _ c.2 in
      let x : ℕ = get_or s at 0 in
      let l = k.small in
      let e : v ≡ c.0 = same_got d.2 in
      let g = choice_got s at 3 2 (widths us + 2) c.1 in
      let all = widths_join us (crit_fields v) in
      let m : (widths us + 4) % 8 ≡ widths us + 4 = mod-eq_of_lt (omega arith) in
      let n : widths (us ++ crit_fields v) ≡ (widths us + 4) % 8 = omega arith in
      let pad = pad_got s at (widths us + 4) (λ z. omega arith) d.1 in
      let first : bit false ≡ 1 bits (bits_of x (widths us) 1) = ap (λ (n : ℕ). 1 bits n) (sym (plain_got s at (widths us) a.1).1) in
      let second : bit false ≡ 1 bits (bits_of x (widths us + 1) 1) = ap (λ (n : ℕ). 1 bits n) (sym (plain_got s at (widths us + 1) b.1).1) in
      let small : v < 3 = rw e g.2 in
      let place : widths us + 2 ≡ widths us + 1 + 1 = omega arith in
      let third : 2 bits (v % 4) ≡ 2 bits (bits_of x (widths us + 1 + 1) 2) =
      ap (λ (n : ℕ). 2 bits n) (mod-eq_of_lt (omega arith) ∙ (e ∙ (g.1 ∙ ap (λ (b : ℕ). bits_of x b 2) place))) in
      let fs = (λ i. us ++ first i ∷ second i ∷ third i ∷ []) ∙ fields_behind x us k.ws (1 ∷ 1 ∷ 2 ∷ []) k.fields in
      (octet_again s o (us ++ crit_fields v) at (k.ws ++ 1 ∷ 1 ∷ 2 ∷ []) fs pad.0 (omega arith) (rw n (pad_low x (widths us + 4) pad.1)), small)

  -- an entry that was read: the octets before those of its type of error, and these as they begin
  record Read-entry (from at : ℕ) (us : List Field) (p : Part Entry) : Type 0 where
    crit : Stands s at (packed (us ++ crit_fields p.value.crit) ∷ [])
    id : Stands s (at + 1) (number_octets 2 p.value.id)
    error : Held (error_fields p.value.error) (at + 3)
    room : at + 4 ≤ length s
    next : p.next ≡ at + 3
    good : GoodEntry p.value

  entry_again : (from at : ℕ) (us : List Field) (p : Part Entry) → Held us at → widths us ≡ begins from at → Ok p ≡ entry_at s from at → Read-entry from at us p
  unfolding entry_at
  entry_again from at us p k w q =
      let a = then_got (crit_at s at (begins from at)) _ q in
      let b = then_got (number_at 2 s (at + 1)) _ a.2 in
      let c = then_got (plain_at s (at + 3) 0) _ b.2 in
      let d = then_got (choice_at 2 1 s (at + 3) 1) _ c.2 in
      let x = crit_again at us a.0 k (rw w a.1) in
      let y = number_got s (at + 1) 2 b.1 in
      let z = choice_got s (at + 3) 2 1 1 d.1 in
      let u : ℕ = get_or s (at + 3) 0 in
      let first : bit false ≡ 1 bits (bits_of u 0 1) = ap (λ (n : ℕ). 1 bits n) (sym (plain_got s (at + 3) 0 c.1).1) in
      let second : 1 bits (d.0 % 2) ≡ 1 bits (bits_of u 1 1) = ap (λ (n : ℕ). 1 bits n) (mod-eq_of_lt z.2 ∙ z.1) in
      subst (Read-entry from at us) (sym (same_got d.2)) (record {
        crit = x.0;
        id = number_again 2 s (at + 1) o b.1;
        error = record { ws = 1 ∷ 1 ∷ []; fields = λ i. first i ∷ second i ∷ []; small = omega arith };
        room = omega (arith, z.0);
        next = refl;
        good = record { crit = x.1; id = rw y.1 (value_below 2 s (at + 1) o); error = z.2 };
      })

  -- entries that were read: their octets stand, up to the pad behind the last, and they are good
  pub record Read-entries (at : ℕ) (us : List Field) (n : ℕ) (p : Part (List Entry)) : Type 0 where
    pub octets : Stands s at (entries_octets us p.value)
    pub count : length p.value ≡ n
    pub next : p.next ≡ at + 3 * n
    pub good : Each GoodEntry p.value

  many_again : (from n at : ℕ) (us : List Field) (p : Part (List Entry)) → from ≤ at → Held us at → widths us ≡ begins from at → (n ≡ 0 → widths us ≡ 2)
      → Ok p ≡ many (entry_at s from) n at → Ok tt ≡ pad_at s p.next 2 → Read-entries at us n p
  unfolding many entries_octets
  many_again from zero at us p l k w z q pad =
      let e = same_got q in
      let x = pad_got s at 2 (λ y. omega arith) (subst (λ (y : Part (List Entry)). Ok tt ≡ pad_at s y.next 2) e pad) in
      let t : widths us ≡ 2 = z refl in
      subst (Read-entries at us zero) (sym e) (record {
        octets = octet_again s o us at k.ws k.fields x.0 (omega arith) (rw t (pad_low (get_or s at 0) 2 x.1));
        count = refl;
        next = sym (add-zero at);
        good = tt;
      })
  many_again from (suc n) at us p l k w z q pad =
      let a = then_got (entry_at s from at) _ q in
      let r = entry_again from at us a.0 k w a.1 in
      let b = then_got (many (entry_at s from) n a.0.next) _ a.2 in
      let e = same_got b.2 in
      let f : eqb (at + 3) from ≡ false = ne_eqb (at + 3) from (λ y. omega arith) in
      let i = many_again from n (at + 3) (error_fields a.0.value.error) b.0 (omega arith) r.error (rw f) (λ y. refl) (b.1 ∙ ap (many (entry_at s from) n) r.next)
      (subst (λ (y : Part (List Entry)). Ok tt ≡ pad_at s y.next 2) e pad) in
      let c = length_number 2 a.0.value.id in
      let d : at + 1 + length (number_octets 2 a.0.value.id) ≡ at + 3 = omega arith in
      subst (Read-entries at us (suc n)) (sym e) (record {
        octets = stands_join {vs = packed (us ++ crit_fields a.0.value.crit) ∷ []} r.crit (stands_join {vs = number_octets 2 a.0.value.id} r.id (rw d i.octets));
        count = ap suc i.count;
        next = i.next ∙ omega arith;
        good = (r.good, i.good);
      })

  pub entries_again : (n at : ℕ) (es : List Entry) → 0 < n → Ok es ≡ entries_at n s at
      → Stands s at (entries_octets [] es) × (length es ≡ n) × (length s ≤ at + 3 * n + 1) × Each GoodEntry es
  unfolding entries_at
  entries_again n at es h q =
      let a = then_got (many (entry_at s at) n at) _ q in
      let b = then_got (pad_at s a.0.next 2) _ a.2 in
      let c = then_got (ends_at s (a.0.next + 1)) _ b.2 in
      let none : Held [] at = record { ws = []; fields = refl; small = omega arith } in
      let r = many_again at n at [] a.0 (omega arith) none (rw (eq-eqb at at refl)) (λ z. omega arith) a.1 b.1 in
      let e = same_got c.2 in
      let x = ends_got s (a.0.next + 1) c.1 in
      let y = r.next in
      (rw e r.octets, rw e r.count, omega arith, rw e r.good)
