-- What was read, written again, is the same octets; a list and a Reset Type where each item's envelope had the criticality that is written.
-- Assumes nothing.
use Rattle.identity.specs.declared.MceId.{MceId}
use Rattle.identity.specs.declared.MmeId.{MmeId}
use mathlib.Core.Path.{◌≡◌, ◌∙◌, refl, sym, ap, subst}
use mathlib.Core.Bool.{Bool, true, false}
use mathlib.Core.List.{List, [], ◌∷◌, ◌++◌}
use Prim.Native.Nat.{ℕ, zero, suc, ◌+◌, ◌-◌, ◌<◌, ◌≤◌}
use native.Mathlib.Omega.{arith}
use borrow.Author.Tests.{eqb-true, eq-eqb}
use lib.Dec.{eqb}
use lib.ListN.{length, get_or, take, length-append}
use lib.Seq.{length-take-le}
use Rattle.lists.specs.Lists.{pick}
use Rattle.std.specs.Prelude.{Ok, Err, Option}
use Rattle.octets.specs.Read.{Read, no_meaning, ◌>>=◌}
use Rattle.packed.specs.Packed.{bits_of, ◌bits◌, bit, packed}
use Rattle.octets.specs.Field.{bits_at, flag_at, plain_at, choice_at, pad_at, number_at, same_at, open_at, ends_at}
use Rattle.octets.specs.Many.{many, each_octets, Each}
use Rattle.octets.specs.declared.Part.{Part}
use Rattle.octets.specs.Write.{number_octets, length_octets}
use Rattle.octets.specs.Stands.{Stands, Fills, Octets}
use Rattle.octets.specs.declared.Span.{Span}
use Rattle.octets.proofs.Chain.{past, then_got, same_got}
use Rattle.octets.proofs.Got.{held, flag_got, plain_got, choice_got, ends_got}
use Rattle.octets.proofs.Stood.{stands_none, stands_join, stands_split, stands_front, octets_front}
use Rattle.octets.proofs.Back.{length_number}
use Rattle.octets.proofs.Again.{packed_again, pad_zero, number_again, open_again, fills_again}
use Rattle.octets.proofs.ManyLaws.{many_again}
use Rattle.identity.specs.Identity.{Numbering, mme_numbering, mce_numbering}
use Rattle.identity.specs.declared.Item.{Item}
use Rattle.item.specs.declared.Marks.{Marks}
use Rattle.item.specs.Item.{maybe_identity_at, maybe_mme_at, maybe_mce_at, behind, item_marks_at, item_at, item_element_at}
use Rattle.items.specs.Items.{items_at, ResetType, part, chosen_reset_at, reset_at}
use Rattle.items.specs.Written.{identity_in, mme_in, mce_in, is_there, maybe_octets, item_octets, item_element_octets, items_octets, reset_crit, reset_octets, envelope_crit_at, crits_at, Marked, Rejecting}
use Rattle.items.proofs.Back.{behind_octets}

-- ---- an item

-- a bit that was read as yes or no
bit_is : (v : ℕ) → v < 2 → 1 bits v ≡ bit (eqb v 1)
bit_is zero h = refl
bit_is (suc zero) h = refl
bit_is (suc (suc v)) h = absurd (omega arith)

bit_small : (x b : ℕ) → bits_of x b 1 < 2
unfolding bits_of
bit_small x b = omega arith

bit_again : (s : List ℕ) (at b : ℕ) {v : Bool} → Ok v ≡ flag_at s at b → 1 bits bits_at s at b 1 ≡ bit v
bit_again s at b q = bit_is (bits_at s at b 1) (bit_small (get_or s at 0) b) ∙ ap bit (sym (flag_got s at b q).1)

marks_again : (s : List ℕ) (at : ℕ) → Octets s → {h : Marks} → Ok h ≡ item_marks_at s at
    → Stands s at (packed (bit false ∷ bit h.mme ∷ bit h.mce ∷ bit false ∷ []) ∷ [])
unfolding item_marks_at
marks_again s at o {h} q =
    let a = then_got (plain_at s at 0) _ q in
    let b = then_got (flag_at s at 1) _ a.2 in
    let c = then_got (flag_at s at 2) _ b.2 in
    let d = then_got (plain_at s at 3) _ c.2 in
    let e = then_got (pad_at s at 4) _ d.2 in
    stood b.0 c.0 a.1 b.1 c.1 d.1 e.1 e.2
  where
    stood : (m c : Bool) → Ok tt ≡ plain_at s at 0 → Ok m ≡ flag_at s at 1 → Ok c ≡ flag_at s at 2 → Ok tt ≡ plain_at s at 3 → Ok tt ≡ pad_at s at 4
        → ◌≡◌ {A = Read Marks} (Ok h) (Ok (record { mme = m; mce = c })) → Stands s at (packed (bit false ∷ bit h.mme ∷ bit h.mce ∷ bit false ∷ []) ∷ [])
    stood m c x y z w p q =
        let r = plain_got s at 0 x in
        let f : Stands s at (packed (1 bits bits_at s at 0 1 ∷ 1 bits bits_at s at 1 1 ∷ 1 bits bits_at s at 2 1 ∷ 1 bits bits_at s at 3 1 ∷ []) ∷ []) =
        packed_again s at (1 ∷ 1 ∷ 1 ∷ 1 ∷ []) o r.0 (omega arith) (pad_zero s at 4 (omega arith) (omega arith) p) in
        subst (λ (k : Marks). Stands s at (packed (bit false ∷ bit k.mme ∷ bit k.mce ∷ bit false ∷ []) ∷ [])) (sym (same_got q))
        (rw (r.1, bit_again s at 1 y, bit_again s at 2 z, (plain_got s at 3 w).1) at f)

-- the number of an identity that was read stands there
maybe_again : {I : Type 0} {numbered : ℕ → I} {number : I → ℕ} → Numbering numbered number → (s : List ℕ) (at : ℕ) → Octets s → (t : Bool) {x : Option I} → at ≤ length s
    → Ok x ≡ maybe_identity_at numbered t s at → (is_there (identity_in number x) ≡ t) × Stands s at (maybe_octets (identity_in number x))
maybe_again {I} {number = number} n s at o false r q =
    subst (λ (x : Option I). (is_there (identity_in number x) ≡ false) × Stands s at (maybe_octets (identity_in number x))) (sym (same_got q)) (refl, stands_none r)
maybe_again {I} {number = number} n s at o true r q =
    let a = then_got (number_at 2 s at) _ q in
    subst (λ (x : Option I). (is_there (identity_in number x) ≡ true) × Stands s at (maybe_octets (identity_in number x))) (sym (same_got a.2))
    (refl, rw (n.back a.0) (number_again 2 s at o a.1))

pub item_again : (s : List ℕ) (at : ℕ) → Octets s → {i : Item} → Ok i ≡ item_at s at → Fills s at (item_octets i)
unfolding item_at item_octets
item_again s at o {i} q =
    let a = then_got (item_marks_at s at) _ q in
    let b = then_got (maybe_mme_at a.0.mme s (at + 1)) _ a.2 in
    let c = then_got (maybe_mce_at a.0.mce s (behind a.0.mme (at + 1))) _ b.2 in
    let d = then_got (ends_at s (behind a.0.mce (behind a.0.mme (at + 1)))) _ c.2 in
    filled a.0 b.0 c.0 a.1 b.1 c.1 d.1 d.2
  where
    filled : (h : Marks) (m : Option MmeId) (c : Option MceId) → Ok h ≡ item_marks_at s at → Ok m ≡ maybe_mme_at h.mme s (at + 1) → Ok c ≡ maybe_mce_at h.mce s (behind h.mme (at + 1))
        → Ok tt ≡ ends_at s (behind h.mce (behind h.mme (at + 1))) → ◌≡◌ {A = Read Item} (Ok i) (Ok (record { mme = m; mce = c })) → Fills s at (item_octets i)
    filled h m c a b k d q =
        let x = mme_in m in
        let y = mce_in c in
        let w = marks_again s at o a in
        let r = w.room in
        let u = maybe_again mme_numbering s (at + 1) o h.mme (omega arith) b in
        let p : behind h.mme (at + 1) ≡ at + 1 + length (maybe_octets x) = ap (λ (t : Bool). behind t (at + 1)) (sym u.0) ∙ behind_octets x (at + 1) in
        let v = maybe_again mce_numbering s (at + 1 + length (maybe_octets x)) o h.mce u.1.room (rw p at k) in
        let l : behind h.mce (behind h.mme (at + 1)) ≡ at + 1 + length (maybe_octets x) + length (maybe_octets y) =
        rw p (ap (λ (t : Bool). behind t (at + 1 + length (maybe_octets x))) (sym v.0) ∙ behind_octets y _) in
        let e = ends_got s _ d in
        let n = length-append (maybe_octets x) (maybe_octets y) in
        let f = stands_join u.1 v.1 in
        let z = f.room in
        let g : Stands s at (packed (bit false ∷ bit (is_there x) ∷ bit (is_there y) ∷ bit false ∷ []) ∷ []) = rw (u.0, v.0) w in
        subst (λ (j : Item). Fills s at (item_octets j)) (sym (same_got q))
        (record { stands = stands_join g f; ends = omega arith })

-- ---- an item in its envelope

same_again : (s : List ℕ) (at v : ℕ) → Octets s → Ok tt ≡ same_at v s at → Stands s at (number_octets 2 v)
unfolding same_at
same_again s at v o q =
    let a = then_got (number_at 2 s at) _ q in
    let e : a.0 ≡ v = eqb-true a.0 v (held (eqb a.0 v) _ _ a.2).0 in
    rw e at (number_again 2 s at o a.1)

crit_again : (s : List ℕ) (at : ℕ) {c : ℕ} → Octets s → Ok c ≡ choice_at 3 2 s at 0 → Ok tt ≡ pad_at s at 2 → Stands s at (packed (2 bits c ∷ []) ∷ [])
crit_again s at o q p =
    let r = choice_got s at 3 2 0 q in
    let f : Stands s at (packed (2 bits bits_at s at 0 2 ∷ []) ∷ []) = packed_again s at (2 ∷ []) o r.0 (omega arith) (pad_zero s at 2 (omega arith) (omega arith) p) in
    rw (← r.1) at f

-- an open value that is an item: where it stands, and that it fills its length
inner_again : (s : List ℕ) (at : ℕ) (v : Span) {i : Item} → Octets s → Ok v ≡ open_at s at → Ok i ≡ item_at (take v.to s) v.from
    → Stands s at (length_octets (length (item_octets i)) ++ item_octets i) × (v.to ≡ at + length (length_octets (length (item_octets i)) ++ item_octets i))
inner_again s at v {i} o q p =
    let a = open_again s at o q in
    let b = item_again (take v.to s) v.from (octets_front s v.to o) p in
    let l = length-take-le v.to s a.ends in
    let e = b.ends in
    let k : v.to - v.from ≡ length (item_octets i) = omega arith in
    let f : v.from ≡ at + length (length_octets (length (item_octets i))) = rw k at a.from in
    let n = length-append (length_octets (length (item_octets i))) (item_octets i) in
    let g : Stands s at (length_octets (length (item_octets i))) = rw k at (stands_split (length_octets (v.to - v.from)) _ a.octets).0 in
    (stands_join g (rw f at (stands_front v.to a.ends b.stands)), omega arith)

-- what it is to have been written: the octets stand, and the next place is behind them
Written : ℕ → List ℕ → ℕ → Part Item → Type 0
Written crit s at p = Stands s at (item_element_octets crit p.value) × (p.next ≡ at + length (item_element_octets crit p.value))

pub item_element_again : (crit : ℕ) (s : List ℕ) (at : ℕ) (p : Part Item) → Octets s → Ok crit ≡ choice_at 3 2 s (at + 2) 0 → Ok p ≡ item_element_at s at
    → Stands s at (item_element_octets crit p.value) × (p.next ≡ at + length (item_element_octets crit p.value))
unfolding item_element_at item_element_octets Written
item_element_again crit s at p o z q =
    let a = then_got (same_at 14 s at) _ q in
    let b = then_got (choice_at 3 2 s (at + 2) 0) _ a.2 in
    let c = then_got (pad_at s (at + 2) 2) _ b.2 in
    let d = then_got (open_at s (at + 3)) _ c.2 in
    let e = then_got (item_at (take d.0.to s) d.0.from) _ d.2 in
    written d.0 e.0 a.1 c.1 d.1 e.1 e.2
  where
    written : (v : Span) (i : Item) → Ok tt ≡ same_at 14 s at → Ok tt ≡ pad_at s (at + 2) 2 → Ok v ≡ open_at s (at + 3) → Ok i ≡ item_at (take v.to s) v.from
        → ◌≡◌ {A = Read (Part Item)} (Ok p) (Ok (record { value = i; next = v.to })) → Written crit s at p
    written v i a c d e q =
        let n : length (number_octets 2 14) ≡ 2 = length_number 2 14 in
        let ls : List ℕ = length_octets (length (item_octets i)) ++ item_octets i in
        let u = inner_again s (at + 3) v o d e in
        let k : at + 2 + 1 ≡ at + 3 = omega arith in
        let w = u.1 in
        let l = length-append (number_octets 2 14) (packed (2 bits crit ∷ []) ∷ ls) in
        let f : Stands s (at + 2) (packed (2 bits crit ∷ []) ∷ ls) = stands_join (crit_again s (at + 2) o z c) (rw k u.0) in
        subst (Written crit s at) (sym (same_got q)) (stands_join (same_again s at 14 o a) (rw n f), omega arith)

-- ---- a list

-- an item whose envelope has this criticality
strict_at : ℕ → List ℕ → ℕ → Read (Part Item)
strict_at crit s at = envelope_crit_at s at >>= λ c. item_element_at s at >>= λ p. pick (eqb c.value crit) (Ok p) (Err (no_meaning at))

strict_again : (crit : ℕ) (s : List ℕ) → Octets s → (at : ℕ) (p : Part Item) → Ok p ≡ strict_at crit s at
    → Stands s at (item_element_octets crit p.value) × (p.next ≡ at + length (item_element_octets crit p.value))
unfolding strict_at envelope_crit_at
strict_again crit s o at p q =
    let a = then_got (envelope_crit_at s at) _ q in
    let b = then_got (item_element_at s at) _ a.2 in
    let c = held (eqb a.0.value crit) _ _ b.2 in
    let d = then_got (choice_at 3 2 s (at + 2) 0) _ a.1 in
    let e = then_got (open_at s (at + 3)) _ d.2 in
    let k : a.0.value ≡ d.0 = ap (λ (x : Part ℕ). x.value) (same_got e.2) in
    let z : d.0 ≡ crit = sym k ∙ eqb-true a.0.value crit c.0 in
    item_element_again crit s at p o (ap (λ (x : ℕ). Ok x) (sym z) ∙ d.1) (c.1 ∙ b.1)

-- an item's envelope ends where its open value does, for both readings of it
item_next : (s : List ℕ) (at : ℕ) {p : Part Item} → Ok p ≡ item_element_at s at → (v : Span) × (Ok v ≡ open_at s (at + 3)) × (p.next ≡ v.to)
unfolding item_element_at
item_next s at {p} q =
    let a = then_got (same_at 14 s at) _ q in
    let b = then_got (choice_at 3 2 s (at + 2) 0) _ a.2 in
    let c = then_got (pad_at s (at + 2) 2) _ b.2 in
    let d = then_got (open_at s (at + 3)) _ c.2 in
    let e = then_got (item_at (take d.0.to s) d.0.from) _ d.2 in
    (d.0, d.1, next d.0 e.0 e.2)
  where
    next : (v : Span) (i : Item) → ◌≡◌ {A = Read (Part Item)} (Ok p) (Ok (record { value = i; next = v.to })) → p.next ≡ v.to
    next v i q = ap (λ (x : Part Item). x.next) (same_got q)

crit_next : (s : List ℕ) (at : ℕ) {c : Part ℕ} → Ok c ≡ envelope_crit_at s at → (v : Span) × (Ok v ≡ open_at s (at + 3)) × (c.next ≡ v.to)
unfolding envelope_crit_at
crit_next s at q =
    let a = then_got (choice_at 3 2 s (at + 2) 0) _ q in
    let b = then_got (open_at s (at + 3)) _ a.2 in
    (b.0, b.1, ap (λ (x : Part ℕ). x.next) (same_got b.2))

same_next : (s : List ℕ) (at : ℕ) {p : Part Item} {c : Part ℕ} → Ok p ≡ item_element_at s at → Ok c ≡ envelope_crit_at s at → c.next ≡ p.next
same_next s at q r =
    let a = item_next s at q in
    let b = crit_next s at r in
    b.2 ∙ (ap (λ (v : Span). v.to) (same_got (b.1 ∙ sym a.1)) ∙ sym a.2)

many_strict : (crit : ℕ) (s : List ℕ) (n at : ℕ) (p : Part (List Item)) (q : Part (List ℕ)) → Ok p ≡ many (item_element_at s) n at → Ok q ≡ many (envelope_crit_at s) n at
    → Each (λ (c : ℕ). c ≡ crit) q.value → Ok p ≡ many (strict_at crit s) n at
unfolding many strict_at
many_strict crit s zero at p q e f g = e
many_strict crit s (suc n) at p q e f g =
    let a = then_got (item_element_at s at) _ e in
    let b = then_got (many (item_element_at s) n a.0.next) _ a.2 in
    let c = then_got (envelope_crit_at s at) _ f in
    let d = then_got (many (envelope_crit_at s) n c.0.next) _ c.2 in
    let h : Each (λ (c : ℕ). c ≡ crit) (c.0.value ∷ d.0.value) = subst (λ (x : Part (List ℕ)). Each (λ (c : ℕ). c ≡ crit) x.value) (same_got d.2) g in
    let k : c.0.next ≡ a.0.next = same_next s at a.1 c.1 in
    let t : Ok a.0 ≡ strict_at crit s at = past _ c.0 c.1 (past _ a.0 a.1 (rw (eq-eqb c.0.value crit h.0))) in
    past _ a.0 t (past _ b.0 (many_strict crit s n a.0.next b.0 d.0 b.1 (d.1 ∙ ap (many (envelope_crit_at s) n) k) h.1) b.2)

pub items_again : (crit : ℕ) (s : List ℕ) (at : ℕ) → Octets s → {is : List Item} → Ok is ≡ items_at s at → Marked crit s at → Fills s at (items_octets crit is)
unfolding items_at items_octets crits_at
items_again crit s at o {is} q w =
    let a = then_got (number_at 1 s at) _ q in
    let b = then_got (many (item_element_at s) (a.0 + 1) (at + 1)) _ a.2 in
    let c = then_got (ends_at s b.0.next) _ b.2 in
    let d = then_got (number_at 1 s at) _ w.1 in
    let e = then_got (many (envelope_crit_at s) (d.0 + 1) (at + 1)) _ d.2 in
    let k : d.0 ≡ a.0 = same_got (d.1 ∙ sym a.1) in
    let all : Each (λ (c : ℕ). c ≡ crit) e.0.value = subst (Each (λ (c : ℕ). c ≡ crit)) (same_got e.2) w.2 in
    filled a.0 b.0 a.1 (many_strict crit s (a.0 + 1) (at + 1) b.0 e.0 b.1 (e.1 ∙ ap (λ (n : ℕ). many (envelope_crit_at s) (n + 1) (at + 1)) k) all) c.1 c.2
  where
    filled : (n : ℕ) (p : Part (List Item)) → Ok n ≡ number_at 1 s at → Ok p ≡ many (strict_at crit s) (n + 1) (at + 1) → Ok tt ≡ ends_at s p.next → ◌≡◌ {A = Read (List Item)} (Ok is) (Ok p.value)
        → Fills s at (items_octets crit is)
    filled n p a b c q =
        let l : length (number_octets 1 n) ≡ 1 = length_number 1 n in
        let h = number_again 1 s at o a in
        let r = h.room in
        let m = many_again s (strict_at crit s) (item_element_octets crit) (strict_again crit s o) (n + 1) (at + 1) p (omega arith) b in
        let k : length p.value - 1 ≡ n = let z = m.0 in omega arith in
        let u = m.1.room in
        let x = m.2 in
        let e = ends_got s p.next c in
        let t = length-append (number_octets 1 n) (each_octets (item_element_octets crit) p.value) in
        subst (λ (ys : List Item). Fills s at (items_octets crit ys)) (sym (same_got q))
        (rw k (record { stands = stands_join h (rw l m.1); ends = omega arith }))

-- ---- a Reset Type

pub reset_again : (s : List ℕ) (at : ℕ) → Octets s → (r : ResetType) → Ok r ≡ reset_at s at → Rejecting r s at → Fills s at (reset_octets r)
unfolding reset_at reset_octets
reset_again s at o r q w =
    let a = then_got (plain_at s at 0) _ q in
    let b = then_got (flag_at s at 1) _ a.2 in
    by b.0 r a.1 b.1 b.2 w
  where
    by : (p : Bool) (r : ResetType) → Ok tt ≡ plain_at s at 0 → Ok p ≡ flag_at s at 1 → Ok r ≡ chosen_reset_at p s at → Rejecting r s at → Fills s at (reset_octets r)
    by false r x y q w =
        let a = then_got (plain_at s at 2) _ q in
        let b = then_got (pad_at s at 3) _ a.2 in
        let c = then_got (ends_at s (at + 1)) _ b.2 in
        let z = plain_got s at 0 x in
        let f : Stands s at (packed (1 bits bits_at s at 0 1 ∷ 1 bits bits_at s at 1 1 ∷ 1 bits bits_at s at 2 1 ∷ []) ∷ []) =
        packed_again s at (1 ∷ 1 ∷ 1 ∷ []) o z.0 (omega arith) (pad_zero s at 3 (omega arith) (omega arith) b.1) in
        let g : Stands s at (packed (bit false ∷ bit false ∷ bit false ∷ []) ∷ []) = rw (z.1, bit_again s at 1 y, (plain_got s at 2 a.1).1) at f in
        subst (λ (k : ResetType). Fills s at (reset_octets k)) (sym (same_got c.2)) (fills_again s at 1 g refl c.1)
    by true r x y q w =
        let a = then_got (pad_at s at 2) _ q in
        let b = then_got (items_at s (at + 1)) _ a.2 in
        let e : r ≡ part b.0 = same_got b.2 in
        let z = plain_got s at 0 x in
        let f : Stands s at (packed (1 bits bits_at s at 0 1 ∷ 1 bits bits_at s at 1 1 ∷ []) ∷ []) =
        packed_again s at (1 ∷ 1 ∷ []) o z.0 (omega arith) (pad_zero s at 2 (omega arith) (omega arith) a.1) in
        let g : Stands s at (packed (bit false ∷ bit true ∷ []) ∷ []) = rw (z.1, bit_again s at 1 y) at f in
        let u = items_again reset_crit s (at + 1) o b.1 (subst (λ (k : ResetType). Rejecting k s at) e w) in
        let n = u.ends in
        subst (λ (k : ResetType). Fills s at (reset_octets k)) (sym e) (record { stands = stands_join g u.stands; ends = omega arith })
