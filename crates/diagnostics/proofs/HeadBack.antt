-- Reading the octets of the fields before the list gives these fields.
-- Assumes nothing.
use mathlib.Core.Path.{◌≡◌, refl, sym}
use mathlib.Core.Bool.{Bool, true, false}
use mathlib.Core.List.{List, [], ◌∷◌, ◌++◌, map, append-nil, append_assoc}
use Prim.Native.Nat.{ℕ, ◌+◌, ◌*◌, ◌/◌, ◌%◌, ◌<◌, ◌≤◌}
use native.Mathlib.Omega.{arith}
use native.Mathlib.Nat.{add-zero, mod-eq_of_lt}
use borrow.Author.Tests.{ltb-true, ltb-false, eqb-false}
use lib.Dec.{ltb, eqb}
use lib.ListN.{length, length-append}
use Rattle.lists.specs.Lists.{pick}
use Rattle.std.specs.Prelude.{Ok, None, Option, Some}
use Rattle.octets.specs.Field.{pad_at}
use Rattle.packed.specs.Packed.{Field, ◌bits◌, bit, widths, packed, Fit}
use Rattle.octets.specs.Write.{number_octets}
use Rattle.octets.specs.Stands.{Stands}
use Rattle.octets.proofs.Chain.{past}
use Rattle.octets.proofs.Stood.{stands_split}
use Rattle.octets.proofs.Back.{number_back, length_number}
use Rattle.diagnostics.specs.declared.Head.{Head}
use Rattle.diagnostics.specs.declared.Marks.{Marks}
use Rattle.diagnostics.specs.Diagnostics.{after, behind_crit, marks_at, code_at, maybe_at, head_at}
use Rattle.diagnostics.specs.Written.{has_number, marks_of, marks, present_number, octet_of, pairs, with_code, head_octets, Under, GoodHead}
use Rattle.diagnostics.proofs.Pairs.{Begun, begun_none, begun_more, begun_marks, more, more_width, more_fit, octet_some, pairs_length}
use Rattle.diagnostics.proofs.Fields.{bits_width, flag_in, plain_in, choice_in, pad_in}

-- ---- numbers of two bits each

module _ (s : List ℕ) where
  -- the octet that has begun, with what follows in it
  whole : (q : ℕ) (us : List Field) (vs : List ℕ) (p : ℕ) → Begun us p → 0 < p % 8 → Stands s q (pairs us vs)
      → (ls : List Field) × Fit 8 (us ++ ls) × Stands s q (packed (us ++ ls) ∷ [])
  unfolding pairs
  whole q us [] p b n h =
      let w = b.width in
      let e = append-nil us in
      ([], rw e b.fit, rw (e, ← octet_some us (omega arith)) h)
  whole q us (v ∷ vs) p b n h = by (ltb (widths (more us v)) 8) refl h (λ l k. whole q (more us v) vs (p + 2) (begun_more b v l) (let w = more_width b v in omega arith) k)
    where
      by : (t : Bool) → ltb (widths (more us v)) 8 ≡ t → Stands s q (pick t (pairs (more us v) vs) (packed (more us v) ∷ pairs [] vs))
          → (widths (more us v) < 8 → Stands s q (pairs (more us v) vs) → (ls : List Field) × Fit 8 (more us v ++ ls) × Stands s q (packed (more us v ++ ls) ∷ []))
          → (ls : List Field) × Fit 8 (us ++ ls) × Stands s q (packed (us ++ ls) ∷ [])
      by true e k i =
          let x = i (ltb-true (widths (more us v)) 8 e) k in
          let a = append_assoc us (2 bits (v % 4) ∷ []) x.0 in
          (2 bits (v % 4) ∷ x.0, rw a at x.1, rw a at x.2)
      by false e k i = (2 bits (v % 4) ∷ [], more_fit b v, (stands_split (packed (more us v) ∷ []) (pairs [] vs) k).0)

  module _ (at : ℕ) where
    -- what is known where a number was read: the next begins where it ends
    Next : ℕ → List ℕ → Type 0
    Next p vs = (us : List Field) × Begun us p × Stands s (at + p / 8) (pairs us vs)

    number_next : (n : ℕ) → n ≤ 4 → (y : Option ℕ) (vs : List ℕ) (us : List Field) (p : ℕ) → Under n y → Begun us p → Stands s (at + p / 8) (pairs us (present_number y ++ vs))
        → (Ok y ≡ maybe_at n (has_number y) s at p) × Next (after (has_number y) 2 p) vs
    unfolding maybe_at pairs Next
    number_next n w None vs us p g b h = (refl, (us, b, h))
    number_next n w (Some v) vs us p g b h = by (ltb (widths (more us v)) 8) refl h
      where
        read : (fs ls : List Field) → us ++ 2 bits (v % 4) ∷ ls ≡ fs → Fit 8 fs → Stands s (at + p / 8) (packed fs ∷ []) → Ok (Some v) ≡ maybe_at n true s at p
        read fs ls e ok k =
            let m : v % 4 ≡ v = mod-eq_of_lt (omega arith) in
            past _ v (rw m at (choice_in s (at + p / 8) fs ok k us ls p b.width 2 (v % 4) n e (rw m g))) refl

        by : (t : Bool) → ltb (widths (more us v)) 8 ≡ t → Stands s (at + p / 8) (pick t (pairs (more us v) vs) (packed (more us v) ∷ pairs [] vs))
            → (Ok (Some v) ≡ maybe_at n true s at p) × Next (p + 2) vs
        by true e k =
            let l = ltb-true (widths (more us v)) 8 e in
            let m = more_width b v in
            let c = begun_more b v l in
            let d : at + p / 8 ≡ at + (p + 2) / 8 = omega arith in
            let x = whole (at + p / 8) (more us v) vs (p + 2) c (omega arith) k in
            (read _ x.0 (sym (append_assoc us (2 bits (v % 4) ∷ []) x.0)) x.1 x.2, (more us v, c, rw d at k))
        by false e k =
            let l = ltb-false (widths (more us v)) 8 e in
            let m = more_width b v in
            let o = b.even in
            let d : at + p / 8 + 1 ≡ at + (p + 2) / 8 = omega arith in
            let x = stands_split (packed (more us v) ∷ []) (pairs [] vs) k in
            (read _ [] refl (more_fit b v) x.0, ([], begun_none (p + 2) (omega arith), rw d at x.1))

    pad_end : (us : List Field) (p : ℕ) → Begun us p → Stands s (at + p / 8) (pairs us []) → Ok tt ≡ pad_at s (at + p / 8) p
    unfolding pad_at pairs
    pad_end us p b h = by (eqb (p % 8) 0) refl
      where
        by : (t : Bool) → eqb (p % 8) 0 ≡ t → Ok tt ≡ pad_at s (at + p / 8) p
        by true e = rw e
        by false e =
            let n = eqb-false (p % 8) 0 e in
            let w = b.width in
            let o : octet_of us ≡ packed us ∷ [] = octet_some us (omega arith) in
            pad_in s (at + p / 8) us b.fit (rw o at h) p w (omega arith)

-- ---- the marks, the code, and all before the list

module _ (s : List ℕ) (at : ℕ) where
  marks_back : (m : Marks) (ls : List Field) → Fit 8 (map bit (marks m) ++ ls) → Stands s at (packed (map bit (marks m) ++ ls) ∷ []) → Ok m ≡ marks_at s at
  unfolding marks_at
  marks_back m ls ok h =
      past _ _ (plain_in s at _ ok h [] _ 0 refl refl)
      (past _ _ (flag_in s at _ ok h (map bit (false ∷ [])) _ 1 refl m.code refl)
      (past _ _ (flag_in s at _ ok h (map bit (false ∷ m.code ∷ [])) _ 2 (bits_width (false ∷ m.code ∷ [])) m.trigger refl)
      (past _ _ (flag_in s at _ ok h (map bit (false ∷ m.code ∷ m.trigger ∷ [])) _ 3 (bits_width (false ∷ m.code ∷ m.trigger ∷ [])) m.crit refl)
      (past _ _ (flag_in s at _ ok h (map bit (false ∷ m.code ∷ m.trigger ∷ m.crit ∷ [])) _ 4 (bits_width (false ∷ m.code ∷ m.trigger ∷ m.crit ∷ [])) m.listed refl)
      (past _ _ (plain_in s at _ ok h (map bit (false ∷ m.code ∷ m.trigger ∷ m.crit ∷ m.listed ∷ [])) ls 5 (bits_width (false ∷ m.code ∷ m.trigger ∷ m.crit ∷ m.listed ∷ [])) refl)
      refl)))))

  code_back : (c : Option ℕ) (m : Marks) (vs : List ℕ) → Under 256 c → Stands s at (with_code c (map bit (marks m)) vs)
      → (Ok m ≡ marks_at s at) × (Ok c ≡ code_at (has_number c) s at) × Next s at (after (has_number c) 10 6) vs
  unfolding code_at Next
  code_back None m vs g h =
      let x = whole s at (map bit (marks m)) vs 6 (begun_marks m) (omega arith) h in
      (marks_back m x.0 x.1 x.2, refl, (map bit (marks m), begun_marks m, rw add-zero h))
  code_back (Some v) m vs g h =
      let x = stands_split (packed (map bit (marks m)) ∷ []) (number_octets 1 v ++ pairs [] vs) h in
      let y = stands_split (number_octets 1 v) (pairs [] vs) x.1 in
      let b = begun_marks m in
      let l = length_number 1 v in
      let e : at + 1 + length (number_octets 1 v) ≡ at + 2 = omega arith in (
        marks_back m [] b.fit x.0,
        past _ _ (pad_in s at (map bit (marks m)) b.fit x.0 6 b.width (omega (arith, b.width))) (past _ _ (number_back 1 s (at + 1) v g y.0) refl),
        ([], begun_none 16 refl, rw e at y.1),
      )

after_two : (n : Option ℕ) (p : ℕ) → after (has_number n) 2 p ≡ p + 2 * length (present_number n)
after_two (Some v) p = refl
after_two None p = sym (add-zero p)

pub head_length : (h : Head) → length (head_octets h) ≡ (behind_crit (marks_of h) + 7) / 8
unfolding head_octets
head_length h = by h.code (length-append (present_number h.trigger) (present_number h.crit))
  where
    by : (c : Option ℕ) → length (present_number h.trigger ++ present_number h.crit) ≡ length (present_number h.trigger) + length (present_number h.crit)
        → length (with_code c (map bit (marks (marks_of h))) (present_number h.trigger ++ present_number h.crit))
        ≡ (after (has_number h.crit) 2 (after (has_number h.trigger) 2 (after (has_number c) 10 6)) + 7) / 8
    by (Some v) n =
        let e = pairs_length [] (present_number h.trigger ++ present_number h.crit) 16 (begun_none 16 refl) in
        rw (after_two h.crit (after (has_number h.trigger) 2 16), after_two h.trigger 16, length-append, length_number) (omega arith)
    by None n =
        let e = pairs_length (map bit (marks (marks_of h))) (present_number h.trigger ++ present_number h.crit) 6 (begun_marks (marks_of h)) in
        rw (after_two h.crit (after (has_number h.trigger) 2 6), after_two h.trigger 6) (omega arith)

pub head_back : (n : ℕ) → n ≤ 4 → (s : List ℕ) (at : ℕ) (h : Head) → GoodHead n h → Stands s at (head_octets h)
    → Ok (record { value = h; next = at + length (head_octets h) }) ≡ head_at n s at
unfolding head_at head_octets Next
head_back n w s at h g k =
    let c = code_back s at h.code (marks_of h) (present_number h.trigger ++ present_number h.crit) g.code k in
    let t = number_next s at n w h.trigger (present_number h.crit) c.2.0 _ g.trigger c.2.1 c.2.2 in
    let d = number_next s at 3 (omega arith) h.crit [] t.1.0 _ g.crit t.1.1 (rw (append-nil (present_number h.crit)) t.1.2) in
    past _ _ c.0 (past _ _ c.1 (past _ _ t.0 (past _ _ d.0 (past _ _ (pad_end s at d.1.0 _ d.1.1 d.1.2) (rw (head_length h))))))
