-- The fields before the list that were read, written again, are the same octets; and they are good.
-- Assumes nothing.
use mathlib.Core.Path.{◌≡◌, ◌∙◌, refl, sym, ap, subst}
use mathlib.Core.Bool.{Bool, true, false}
use mathlib.Core.List.{List, [], ◌∷◌, ◌++◌, map, append-nil}
use Prim.Native.Nat.{ℕ, ◌+◌, ◌/◌, ◌%◌, ◌≤◌}
use native.Mathlib.Omega.{arith}
use native.Mathlib.Nat.{add-zero, mod-eq_of_lt, mod-one}
use borrow.Author.Tests.{ltb-true, ltb-false, eqb-true, eqb-false}
use lib.Dec.{ltb, eqb}
use lib.ListN.{length, get_or, drop_of_length-le}
use Rattle.std.specs.Prelude.{Ok, Option}
use Rattle.packed.specs.Packed.{bits_of, Field, ◌bits◌, bit, widths, packed}
use Rattle.octets.specs.Field.{choice_at, pad_at, number_at}
use Rattle.octets.specs.Write.{number_octets}
use Rattle.octets.specs.Stands.{Stands, Octets}
use Rattle.octets.specs.declared.Part.{Part}
use Rattle.packed.proofs.Packed.{fields_of}
use Rattle.octets.proofs.Chain.{then_got, same_got}
use Rattle.octets.proofs.Got.{flag_got, plain_got, choice_got, pad_got, number_got}
use Rattle.octets.proofs.Stood.{stands_none, stands_join}
use Rattle.octets.proofs.Back.{length_number}
use Rattle.octets.proofs.Again.{number_again, value_below}
use Rattle.diagnostics.specs.declared.Head.{Head}
use Rattle.diagnostics.specs.declared.Marks.{Marks}
use Rattle.diagnostics.specs.Diagnostics.{after, behind_code, behind_trigger, behind_crit, marks_at, code_at, maybe_at, head_at}
use Rattle.diagnostics.specs.Written.{has_number, marks_of, marks, present_number, octet_of, pairs, with_code, head_octets, Under, GoodHead}
use Rattle.diagnostics.proofs.Fields.{bits_mod, pair_small, fields_behind, bit_again, pad_low, octet_again}
use Rattle.diagnostics.proofs.Pairs.{Begun, begun_none, begun_more, begun_marks, more, more_width, octet_some}
use Rattle.diagnostics.proofs.HeadBack.{head_length}

module _ (s : List ℕ) (o : Octets s) (at : ℕ) where
  -- the fields us are what stands in the octet up to p bits behind the begin
  record Held (us : List Field) (p : ℕ) : Type 0 where
    begun : Begun us p
    ws : List ℕ
    fields : us ≡ fields_of (get_or s (at + p / 8) 0) 0 ws
    room : at + p / 8 ≤ length s

  held_none : (p : ℕ) → p % 8 ≡ 0 → at + p / 8 ≤ length s → Held [] p
  held_none p e h = record { begun = begun_none p e; ws = []; fields = refl; room = h }

  held_end : (us : List Field) (p : ℕ) → Held us p → Ok tt ≡ pad_at s (at + p / 8) p → Stands s (at + p / 8) (octet_of us)
  held_end us p k q = by (eqb (p % 8) 0) refl
    where
      by : (t : Bool) → eqb (p % 8) 0 ≡ t → Stands s (at + p / 8) (octet_of us)
      by true e =
          let z = eqb-true (p % 8) 0 e in
          let l = k.begun.octet in
          let n : octet_of us ≡ [] = drop_of_length-le (octet_of us) {i = 0} (omega arith) in
          rw n (stands_none k.room)
      by false e =
          let n = eqb-false (p % 8) 0 e in
          let x = pad_got s (at + p / 8) p n q in
          let w = k.begun.width in
          rw (octet_some us (omega arith)) (octet_again s o us (at + p / 8) k.ws k.fields x.0 (omega arith) (rw w (pad_low (get_or s (at + p / 8) 0) p x.1)))

  -- what is held up to p bits, and so written, if what follows is
  Held-then : (us : List Field) (p : ℕ) (q : ℕ) → List ℕ → Type 0
  Held-then us p q vs =
      (ws : List Field) × Held ws q × ((xs : List ℕ) → Stands s (at + q / 8) (pairs ws xs) → Stands s (at + p / 8) (pairs us (vs ++ xs)))

  held_number : (n : ℕ) (m : Bool) (y : Option ℕ) (us : List Field) (p : ℕ) → Held us p → Ok y ≡ maybe_at n m s at p
      → (m ≡ has_number y) × Under n y × Held-then us p (after m 2 p) (present_number y)
  unfolding maybe_at Held-then pairs
  held_number n false y us p k q = subst (λ (x : Option ℕ). (false ≡ has_number x) × Under n x × Held-then us p p (present_number x)) (sym (same_got q)) (refl, tt, (us, k, λ xs h. h))
  held_number n true y us p k q =
      let t = then_got (choice_at n 2 s (at + p / 8) p) _ q in
      let g = choice_got s (at + p / 8) n 2 p t.1 in
      subst (λ (x : Option ℕ). (true ≡ has_number x) × Under n x × Held-then us p (p + 2) (present_number x)) (sym (same_got t.2))
      (refl, g.2, by t.0 g.0 g.1 (ltb (widths (more us t.0)) 8) refl)
    where
      held_more : (v : ℕ) → v ≡ bits_of (get_or s (at + p / 8) 0) p 2 → more us v ≡ fields_of (get_or s (at + p / 8) 0) 0 (k.ws ++ 2 ∷ [])
      held_more v e =
          let x : ℕ = get_or s (at + p / 8) 0 in
          let l = pair_small x p in
          let m : v % 4 ≡ bits_of x (widths us) 2 = mod-eq_of_lt (omega arith) ∙ (e ∙ (sym (bits_mod x p 2) ∙ ap (λ (b : ℕ). bits_of x b 2) (sym k.begun.width))) in
          ap (λ (n : ℕ). us ++ 2 bits n ∷ []) m ∙ fields_behind x us k.ws (2 ∷ []) k.fields

      by : (v : ℕ) → at + p / 8 + 1 ≤ length s → v ≡ bits_of (get_or s (at + p / 8) 0) p 2 → (b : Bool) → ltb (widths (more us v)) 8 ≡ b → Held-then us p (p + 2) (v ∷ [])
      by v r e true h =
          let c = ltb-true (widths (more us v)) 8 h in
          let w = more_width k.begun v in
          let d : at + p / 8 ≡ at + (p + 2) / 8 = omega arith in (
            more us v,
            record {
              begun = begun_more k.begun v c;
              ws = k.ws ++ 2 ∷ [];
              fields = rw d at (held_more v e);
              room = omega arith;
            },
            λ xs g. rw (h, d) g,
          )
      by v r e false h =
          let c = ltb-false (widths (more us v)) 8 h in
          let w = more_width k.begun v in
          let n = k.begun.even in
          let d : at + p / 8 + 1 ≡ at + (p + 2) / 8 = omega arith in
          let a : widths (more us v) ≡ 8 = omega arith in
          let y = octet_again s o (more us v) (at + p / 8) (k.ws ++ 2 ∷ []) (held_more v e) r (omega arith) (rw a (mod-one _)) in
          ([], held_none (p + 2) (omega arith) (omega arith), λ xs g. rw h (stands_join {vs = packed (more us v) ∷ []} {ws = pairs [] xs} y (rw d g)))

  -- the marks are the first six bits
  Six : List Field → Type 0
  Six us = (at + 1 ≤ length s) × (us ≡ fields_of (get_or s at 0) 0 (1 ∷ 1 ∷ 1 ∷ 1 ∷ 1 ∷ 1 ∷ []))

  held_marks : (m : Marks) → Ok m ≡ marks_at s at → Six (map bit (marks m))
  unfolding marks_at Six
  held_marks m q =
      let a = then_got _ _ q in
      let b = then_got _ _ a.2 in
      let c = then_got _ _ b.2 in
      let d = then_got _ _ c.2 in
      let e = then_got _ _ d.2 in
      let f = then_got _ _ e.2 in
      let x : ℕ = get_or s at 0 in
      let first : bit false ≡ 1 bits (bits_of x 0 1) = ap (λ (n : ℕ). 1 bits n) (sym (plain_got s at 0 a.1).1) in
      let last : bit false ≡ 1 bits (bits_of x 5 1) = ap (λ (n : ℕ). 1 bits n) (sym (plain_got s at 5 f.1).1) in
      let code = bit_again x 1 b.0 (flag_got s at 1 b.1).1 in
      let trigger = bit_again x 2 c.0 (flag_got s at 2 c.1).1 in
      let crit = bit_again x 3 d.0 (flag_got s at 3 d.1).1 in
      let listed = bit_again x 4 e.0 (flag_got s at 4 e.1).1 in (
        (plain_got s at 0 a.1).0,
        ap (λ (y : Marks). map bit (marks y)) (same_got f.2) ∙ (λ i. first i ∷ code i ∷ trigger i ∷ crit i ∷ listed i ∷ last i ∷ []),
      )

  -- what is held behind the marks and a code, and so written, if what follows is
  Coded : Bool → Marks → Option ℕ → Type 0
  Coded b m c =
      (us : List Field) × Held us (after b 10 6) × ((xs : List ℕ) → Stands s (at + after b 10 6 / 8) (pairs us xs) → Stands s at (with_code c (map bit (marks m)) xs))

  held_code : (b : Bool) (c : Option ℕ) (m : Marks) → Six (map bit (marks m)) → Ok c ≡ code_at b s at → (b ≡ has_number c) × Under 256 c × Coded b m c
  unfolding code_at Six Coded
  held_code false c m x q =
      let r = x.0 in
      subst (λ (y : Option ℕ). (false ≡ has_number y) × Under 256 y × Coded false m y) (sym (same_got q)) (
        refl,
        tt,
        (
          map bit (marks m),
          record { begun = begun_marks m; ws = 1 ∷ 1 ∷ 1 ∷ 1 ∷ 1 ∷ 1 ∷ []; fields = rw add-zero x.1; room = omega arith },
          λ xs h. rw add-zero at h,
        ),
      )
  held_code true c m x q =
      let a = then_got (pad_at s at 6) _ q in
      let t = then_got (number_at 1 s (at + 1)) _ a.2 in
      let g = number_got s (at + 1) 1 t.1 in
      let w = (begun_marks m).width in
      let z = pad_low (get_or s at 0) 6 (pad_got s at 6 (λ e. omega arith) a.1).1 in
      let first = octet_again s o (map bit (marks m)) at (1 ∷ 1 ∷ 1 ∷ 1 ∷ 1 ∷ 1 ∷ []) x.1 x.0 (omega arith) (rw w z) in
      let l = length_number 1 t.0 in
      let e : at + 1 + length (number_octets 1 t.0) ≡ at + 2 = omega arith in
      let r = g.0 in
      subst (λ (y : Option ℕ). (true ≡ has_number y) × Under 256 y × Coded true m y) (sym (same_got t.2)) (
        refl,
        rw g.1 (value_below 1 s (at + 1) o),
        (
          [],
          held_none 16 refl (omega arith),
          λ xs h. stands_join {vs = packed (map bit (marks m)) ∷ []} {ws = number_octets 1 t.0 ++ pairs [] xs} first
              (stands_join {vs = number_octets 1 t.0} {ws = pairs [] xs} (number_again 1 s (at + 1) o t.1) (rw e h)),
        ),
      )

  -- a head that was read: its octets stand, up to the next place, and it is good
  abbrev pub Again : ℕ → Part Head → Type 0
  Again n p = Stands s at (head_octets p.value) × (p.next ≡ at + length (head_octets p.value)) × GoodHead n p.value

  joined : (n : ℕ) (m : Marks) (c t k : Option ℕ) → Ok m ≡ marks_at s at → Ok c ≡ code_at m.code s at
      → Ok t ≡ maybe_at n m.trigger s at (behind_code m) → Ok k ≡ maybe_at 3 m.crit s at (behind_trigger m)
      → Ok tt ≡ pad_at s (at + behind_crit m / 8) (behind_crit m)
      → Again n (record { value = record { code = c; trigger = t; crit = k; listed = m.listed }; next = at + (behind_crit m + 7) / 8 })
  unfolding head_octets Held-then Coded pairs
  joined n m c t k qm qc qt qk qp =
      let x = held_code m.code c m (held_marks m qm) qc in
      let y = held_number n m.trigger t x.2.0 (behind_code m) x.2.1 qt in
      let z = held_number 3 m.crit k y.2.0 (behind_trigger m) y.2.1 qk in
      let h : Head = record { code = c; trigger = t; crit = k; listed = m.listed } in
      let e : m ≡ marks_of h = λ i. record { code = x.0 i; trigger = y.0 i; crit = z.0 i; listed = m.listed } in
      let last = rw (append-nil (present_number k)) at (z.2.2 [] (held_end z.2.0 (behind_crit m) z.2.1 qp)) in (
        subst (λ (y : Marks). Stands s at (with_code c (map bit (marks y)) (present_number t ++ present_number k))) e (x.2.2 (present_number t ++ present_number k) (y.2.2 (present_number k) last)),
        ap (λ (y : Marks). at + (behind_crit y + 7) / 8) e ∙ ap (λ (y : ℕ). at + y) (sym (head_length h)),
        record { code = x.1; trigger = y.1; crit = z.1 },
      )

  pub head_again : (n : ℕ) (p : Part Head) → Ok p ≡ head_at n s at → Again n p
  unfolding head_at
  head_again n p q =
      let a = then_got (marks_at s at) _ q in
      let b = then_got (code_at a.0.code s at) _ a.2 in
      let c = then_got (maybe_at n a.0.trigger s at (behind_code a.0)) _ b.2 in
      let d = then_got (maybe_at 3 a.0.crit s at (behind_trigger a.0)) _ c.2 in
      let e = then_got (pad_at s (at + behind_crit a.0 / 8) (behind_crit a.0)) _ d.2 in
      subst (Again n) (sym (same_got e.2)) (joined n a.0 b.0 c.0 d.0 a.1 b.1 c.1 d.1 e.1)
