-- What an item with both identities reads as, from its nine octets.
-- Assumes nothing.
use mathlib.Core.Path.{◌≡◌, ◌∙◌, refl, subst}
use mathlib.Core.Bool.{Bool, true}
use mathlib.Core.List.{List}
use Prim.Native.Nat.{ℕ, ◌+◌, ◌*◌, ◌/◌, ◌%◌, ◌≤◌}
use native.Mathlib.Omega.{arith}
use borrow.Author.Tests.{lt-ltb, le-ltb, eq-eqb}
use lib.ListN.{length, get_or, take}
use lib.Seq.{length-take-le, get_or-take}
use Rattle.packed.specs.Packed.{bits_of}
use Rattle.std.specs.Prelude.{Ok, Some}
use Rattle.octets.specs.Field.{bits_at, flag_at, plain_at, choice_at, pad_at, value_at, number_at, same_at, length_at, open_at}
use Rattle.octets.proofs.Chain.{past}
use Rattle.octets.proofs.Back.{ends_back}
use Rattle.item.specs.Item.{item_marks_at, item_at, item_element_at}
use Rattle.item_words.specs.Taken.{FullAt, IfFull, worded}

number_here : (k : ℕ) (s : List ℕ) (at : ℕ) → at + k ≤ length s → Ok (value_at k s at) ≡ number_at k s at
unfolding number_at
number_here k s at h = rw (le-ltb (length s) (at + k) h)

marks_here : (t : List ℕ) (a : ℕ) → a + 1 ≤ length t → get_or t a 0 ≡ 96 → Ok (record { mme = true; mce = true }) ≡ item_marks_at t a
unfolding item_marks_at plain_at flag_at pad_at bits_of
marks_here t a h e = rw (le-ltb (length t) (a + 1) h, e)

item_here : (t : List ℕ) (a : ℕ) → length t ≡ a + 5 → get_or t a 0 ≡ 96
    → Ok (record { mme = Some (record { 0 = value_at 2 t (a + 1) }); mce = Some (record { 0 = value_at 2 t (a + 1 + 2) }) }) ≡ item_at t a
unfolding item_at
item_here t a n e =
    past _ _ (marks_here t a (omega arith) e)
    (past _ (Some (record { 0 = value_at 2 t (a + 1) })) (past _ _ (number_here 2 t (a + 1) (omega arith)) refl)
    (past _ (Some (record { 0 = value_at 2 t (a + 1 + 2) })) (past _ _ (number_here 2 t (a + 1 + 2) (omega arith)) refl)
    (past _ tt (ends_back t (a + 1 + 2 + 2) (omega arith)) refl)))

same_here : (s : List ℕ) (at : ℕ) → FullAt s at → Ok tt ≡ same_at 14 s at
unfolding same_at
same_here s at f = let h = f.room in past _ (value_at 2 s at) (number_here 2 s at (omega arith)) (rw (f.first, f.second))

open_here : (s : List ℕ) (at : ℕ) → FullAt s at → Ok (record { from = at + 4; to = at + 9 }) ≡ open_at s (at + 3)
unfolding open_at length_at bits_of
open_here s at f =
    let h = f.room in
    let e : at + 3 + 1 ≡ at + 4 = omega arith in
    let k : at + 4 + 5 ≡ at + 9 = omega arith in
    rw (le-ltb (length s) (at + 3 + 1) (omega arith), f.size, e, k, le-ltb (length s) (at + 9) h)

choice_here : (s : List ℕ) (at : ℕ) → FullAt s at → Ok (bits_at s (at + 2) 0 2) ≡ choice_at 3 2 s (at + 2) 0
unfolding choice_at bits_of
choice_here s at f =
    let h = f.room in
    let c = f.crit in
    rw (le-ltb (length s) (at + 2 + 1) (omega arith), lt-ltb (get_or s (at + 2) 0 / 64 % 4) 3 (omega arith))

pad_here : (s : List ℕ) (at : ℕ) → FullAt s at → Ok tt ≡ pad_at s (at + 2) 2
unfolding pad_at bits_of
pad_here s at f = let h = f.room in let p = f.pad in rw (le-ltb (length s) (at + 2 + 1) (omega arith), eq-eqb (get_or s (at + 2) 0 / 1 % 64) 0 (omega arith))

take_two : (n : ℕ) (s : List ℕ) (a : ℕ) → a + 2 ≤ n → value_at 2 (take n s) a ≡ value_at 2 s a
take_two n s a h = rw (get_or-take n s a 0 (omega arith), get_or-take n s (a + 1) 0 (omega arith))

element_here : (s : List ℕ) (at : ℕ) → FullAt s at
    → Ok (record { value = record { mme = Some (record { 0 = value_at 2 s (at + 4 + 1) }); mce = Some (record { 0 = value_at 2 s (at + 4 + 1 + 2) }) }; next = at + 9 }) ≡ item_element_at s at
unfolding item_element_at
element_here s at f =
    let h = f.room in
    let n : length (take (at + 9) s) ≡ at + 4 + 5 = length-take-le (at + 9) s h ∙ omega arith in
    let m : get_or (take (at + 9) s) (at + 4) 0 ≡ 96 = get_or-take (at + 9) s (at + 4) 0 (omega arith) ∙ f.marks in
    past _ tt (same_here s at f)
    (past _ _ (choice_here s at f)
    (past _ tt (pad_here s at f)
    (past _ _ (open_here s at f)
    (past _ _ (item_here (take (at + 9) s) (at + 4) n m)
    (rw (take_two (at + 9) s (at + 4 + 1) (omega arith), take_two (at + 9) s (at + 4 + 1 + 2) (omega arith)))))))

-- the word of the two numbers that stand there
pub word_here : (s : List ℕ) (at x y : ℕ) → FullAt s at → x ≡ get_or s (at + 5) 0 * 256 + get_or s (at + 6) 0 → y ≡ get_or s (at + 7) 0 * 256 + get_or s (at + 8) 0
    → Ok (record { value = x + 1 + (y + 1) * 4294967296; next = at + 9 }) ≡ worded (item_element_at s at)
word_here s at x y f p q =
    let a : at + 4 + 1 ≡ at + 5 = omega arith in
    let b : at + 5 + 1 ≡ at + 6 = omega arith in
    let c : at + 5 + 2 ≡ at + 7 = omega arith in
    let d : at + 7 + 1 ≡ at + 8 = omega arith in
    let u : x ≡ value_at 2 s (at + 4 + 1) = rw (a, b, p) (omega arith) in
    let v : y ≡ value_at 2 s (at + 4 + 1 + 2) = rw (a, c, d, q) (omega arith) in
    rw (← element_here s at f, u, v)

-- whatever word it is
pub full_passes : (s : List ℕ) (at : ℕ) → FullAt s at → (w : ℕ) × (Ok (record { value = w; next = at + 9 }) ≡ worded (item_element_at s at))
full_passes s at f = (_, word_here s at (get_or s (at + 5) 0 * 256 + get_or s (at + 6) 0) (get_or s (at + 7) 0 * 256 + get_or s (at + 8) 0) f refl refl)

pub if_full : (b : Bool) {s : List ℕ} {at : ℕ} → b ≡ true → IfFull b s at → FullAt s at
if_full b {s} {at} e h = subst (λ (t : Bool). IfFull t s at) e h
