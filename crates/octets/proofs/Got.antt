-- What is known where a field was read: it stands inside the octets, and what was read is what stands there.
-- Assumes nothing.
use mathlib.Core.Path.{◌≡◌, ◌∙◌, refl, sym, ap, subst}
use mathlib.Core.Bool.{Bool, true, false}
use mathlib.Core.List.{List}
use Prim.Native.Nat.{ℕ, ◌+◌, ◌-◌, ◌%◌, ◌<◌, ◌≤◌}
use native.Mathlib.Omega.{arith}
use borrow.Author.Tests.{ltb-true, ltb-false, eqb-true, eqb-false, ne_eqb}
use lib.Dec.{ltb, eqb}
use lib.ListN.{length, get_or}
use lib.Seq.{slice}
use Rattle.lists.specs.Lists.{pick}
use Rattle.std.specs.Prelude.{Ok, Err}
use Rattle.octets.specs.Read.{Read, no_meaning}
use Rattle.octets.specs.Field.{bits_at, there, flag_at, plain_at, choice_at, pad_at, value_at, number_at, string_at, same_at, below_at, long_at, long_length_at, length_at, open_at, ends_at}
use Rattle.octets.specs.declared.Stop.{Stop}
use Rattle.octets.specs.declared.Part.{Part}
use Rattle.octets.specs.declared.Span.{Span}
use Rattle.octets.proofs.Chain.{got_stop, then_got, same_got}

-- a test that leads to a stop did not hold
pub passed : {A : Type 0} (b : Bool) (p : Stop) (x : Read A) {a : A} → Ok a ≡ pick b (Err p) x → (b ≡ false) × (Ok a ≡ x)
passed true p x q = got_stop q
passed false p x q = (refl, q)

-- a test that keeps from a stop held
pub held : {A : Type 0} (b : Bool) (p : Stop) (x : Read A) {a : A} → Ok a ≡ pick b x (Err p) → (b ≡ true) × (Ok a ≡ x)
held true p x q = (refl, q)
held false p x q = got_stop q

pub there_got : {A : Type 0} (n : ℕ) (s : List ℕ) (at : ℕ) (x : Read A) {a : A} → Ok a ≡ there n s at x → (at + n ≤ length s) × (Ok a ≡ x)
there_got n s at x q = let p = passed (ltb (length s) (at + n)) _ _ q in (ltb-false (length s) (at + n) p.0, p.1)

module _ (s : List ℕ) (at : ℕ) where
  pub flag_got : (b : ℕ) {v : Bool} → Ok v ≡ flag_at s at b → (at + 1 ≤ length s) × (v ≡ eqb (bits_at s at b 1) 1)
  unfolding flag_at
  flag_got b q = let p = there_got 1 s at _ q in (p.0, same_got p.1)

  pub plain_got : (b : ℕ) → Ok tt ≡ plain_at s at b → (at + 1 ≤ length s) × (bits_at s at b 1 ≡ 0)
  unfolding plain_at
  plain_got b q =
      let p = there_got 1 s at _ q in
      (p.0, eqb-true (bits_at s at b 1) 0 (held (eqb (bits_at s at b 1) 0) _ _ p.1).0)

  pub choice_got : (n w b : ℕ) {v : ℕ} → Ok v ≡ choice_at n w s at b → (at + 1 ≤ length s) × (v ≡ bits_at s at b w) × (v < n)
  unfolding choice_at
  choice_got n w b {v} q =
      let p = there_got 1 s at _ q in
      let h = held (ltb (bits_at s at b w) n) _ _ p.1 in
      let e : v ≡ bits_at s at b w = same_got h.1 in
      (p.0, e, rw e (ltb-true (bits_at s at b w) n h.0))

  pub pad_got : (b : ℕ) → (b % 8 ≡ 0 → ⊥) → Ok tt ≡ pad_at s at b → (at + 1 ≤ length s) × (bits_at s at b (8 - b % 8) ≡ 0)
  unfolding pad_at
  pad_got b n q =
      let p = there_got 1 s at _ (rw (ne_eqb (b % 8) 0 n) at q) in
      (p.0, eqb-true (bits_at s at b (8 - b % 8)) 0 (held (eqb (bits_at s at b (8 - b % 8)) 0) _ _ p.1).0)

  pub number_got : (k : ℕ) {v : ℕ} → Ok v ≡ number_at k s at → (at + k ≤ length s) × (v ≡ value_at k s at)
  unfolding number_at
  number_got k q = let p = there_got k s at _ q in (p.0, same_got p.1)

  pub string_got : (k : ℕ) {vs : List ℕ} → Ok vs ≡ string_at k s at → (at + k ≤ length s) × (vs ≡ slice at (at + k) s)
  unfolding string_at
  string_got k q = let p = there_got k s at _ q in (p.0, same_got p.1)

  pub wanted_got : (v : ℕ) → Ok tt ≡ same_at v s at → (at + 2 ≤ length s) × (v ≡ value_at 2 s at)
  unfolding same_at
  wanted_got v q =
      let t = then_got (number_at 2 s at) _ q in
      let p = number_got 2 t.1 in
      (p.0, sym (eqb-true t.0 v (held (eqb t.0 v) _ _ t.2).0) ∙ p.1)

  pub below_got : (n : ℕ) {v : ℕ} → Ok v ≡ below_at n s at → (at + 2 ≤ length s) × (v < n)
  unfolding below_at
  below_got n {v} q =
      let t = then_got (number_at 2 s at) _ q in
      let h = held (ltb t.0 n) _ _ t.2 in
      ((number_got 2 t.1).0, rw (← same_got h.1) at (ltb-true t.0 n h.0))

  pub ends_got : Ok tt ≡ ends_at s at → length s ≤ at
  unfolding ends_at
  ends_got q = ltb-false at (length s) (passed (ltb at (length s)) _ _ q).0

-- the two forms of a length
pub data Sized (s : List ℕ) (at : ℕ) : (Part ℕ) → Type 0 where
  short : at + 1 ≤ length s → bits_at s at 0 1 ≡ 0 → Sized s at (record { value = get_or s at 0; next = at + 1 })
  long : at + 2 ≤ length s → (bits_at s at 0 1 ≡ 0 → ⊥) → (bits_at s at 0 2 ≡ 3 → ⊥) → 128 ≤ long_at s at → Sized s at (record { value = long_at s at; next = at + 2 })

pub length_got : (s : List ℕ) (at : ℕ) {n : Part ℕ} → Ok n ≡ length_at s at → Sized s at n
unfolding length_at long_length_at
length_got s at {n} q = let p = there_got 1 s at _ q in one (eqb (bits_at s at 0 1) 0) refl p.0 p.1
  where
    one : (b : Bool) → eqb (bits_at s at 0 1) 0 ≡ b → at + 1 ≤ length s
        → Ok n ≡ pick b (Ok (record { value = get_or s at 0; next = at + 1 })) (pick (eqb (bits_at s at 0 2) 3) (Err (no_meaning at)) (long_length_at s at)) → Sized s at n
    one true e i r = subst (Sized s at) (sym (same_got r)) (short i (eqb-true (bits_at s at 0 1) 0 e))
    one false e i r =
        let p = passed (eqb (bits_at s at 0 2) 3) _ _ r in
        let t = there_got 2 s at _ p.1 in
        let k = passed (ltb (long_at s at) 128) _ _ t.1 in
        subst (Sized s at) (sym (same_got k.1)) (long t.0 (eqb-false (bits_at s at 0 1) 0 e) (eqb-false (bits_at s at 0 2) 3 p.0) (ltb-false (long_at s at) 128 k.0))

pub length_in : (s : List ℕ) (at : ℕ) {n : Part ℕ} → Sized s at n → (at < n.next) × (n.next ≤ length s)
length_in s at (short i e) = (omega arith, i)
length_in s at (long i e d h) = (omega arith, i)

-- an open value begins behind its length, has an octet at least, and ends inside
pub record Inside (s : List ℕ) (at : ℕ) (v : Span) : Type 0 where
  pub size : (Part ℕ)
  pub sized : Ok size ≡ length_at s at
  pub from : v.from ≡ size.next
  pub to : v.to ≡ size.next + size.value
  pub some : 0 < size.value
  pub ends : v.to ≤ length s

pub open_got : (s : List ℕ) (at : ℕ) {v : Span} → Ok v ≡ open_at s at → Inside s at v
unfolding open_at
open_got s at {v} q =
    let t = then_got (length_at s at) _ q in
    let n : (Part ℕ) = t.0 in
    let z = passed (eqb t.0.value 0) _ _ t.2 in
    let e = passed (ltb (length s) (t.0.next + t.0.value)) _ _ z.1 in
    let d : v ≡ record { from = t.0.next; to = t.0.next + t.0.value } = same_got e.1 in
    let i = ltb-false (length s) (t.0.next + t.0.value) e.0 in
    let m = eqb-false t.0.value 0 z.0 in
    record {
      size = t.0;
      sized = t.1;
      from = ap (λ (x : Span). x.from) d;
      to = ap (λ (x : Span). x.to) d;
      some = omega arith;
      ends = rw (ap (λ (x : Span). x.to) d) i;
    }

-- where an open value stands, as its reader's callers ask
pub open_in : (s : List ℕ) (at : ℕ) {v : Span} → Ok v ≡ open_at s at → (at < v.from) × (v.from < v.to) × (v.to ≤ length s)
open_in s at {v} q =
    let i = open_got s at q in
    let l = length_in s at (length_got s at i.sized) in
    let f = i.from in
    let t = i.to in
    let m = i.some in
    (omega arith, omega arith, i.ends)
