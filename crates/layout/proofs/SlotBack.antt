-- What a slot was written for is what it says, by the kind of its row; so the slots of a record say its values.
-- Assumes nothing.
use Rattle.std.specs.Prelude.{None, Option, Some}
use Prim.Native.Nat.{ℕ, ◌+◌, ◌-◌, ◌<◌}
use mathlib.Core.Path.{◌≡◌, ◌∙◌, refl, sym, ap}
use mathlib.Core.Bool.{Bool, true, false}
use mathlib.Core.List.{List, [], ◌∷◌, ◌++◌, append_assoc}
use native.Mathlib.Nat.{mod-eq_of_lt}
use native.Mathlib.Omega.{arith}
use lib.ListN.{length, drop, replicate}
use lib.Seq.{drop_at}
use Rattle.lists.specs.Lists.{pick}
use Rattle.octets.specs.Field.{value_at}
use Rattle.octets.specs.Write.{number_octets}
use Rattle.octets.specs.Many.{Each, each_octets}
use Rattle.octets.specs.declared.Span.{Span}
use Rattle.lent.proofs.Rows.{value_back}
use Rattle.items.specs.Items.{whole, part}
use Rattle.diagnostics.specs.declared.Head.{Head}
use Rattle.rows.specs.declared.Row.{Row}
use Rattle.meaning.specs.Value.{Value, Given, given, absent, carried, mme, mce, tmgi, one, two, cause, wait, name, reset, list, diagnostics}
use Rattle.meaning.specs.Ranges.{value_kind}
use Rattle.layout.specs.Rows.{unless0}
use Rattle.layout.specs.Record.{place_octets, place_in, Lists, slot_of, slot_octets, head_slot_octets, head_in, slot_says, slots_say}
use Rattle.layout.specs.Held.{PlaceFits, Fits, RowsFit}
use Rattle.layout.proofs.Sizes.{slot_size}

pub two_back : (v : ℕ) (t : List ℕ) → v < 65536 → value_at 2 (number_octets 2 v ++ t) 0 ≡ v
two_back v t h = value_back v t ∙ mod-eq_of_lt h

-- the lists beside a slot are those that its value announces
abbrev pub Agrees : Lists → Value Span → Type 0
Agrees l (carried v) = Unit
Agrees l (mme v) = Unit
Agrees l (mce v) = Unit
Agrees l (tmgi v) = Unit
Agrees l (one v) = Unit
Agrees l (two v) = Unit
Agrees l (cause v) = Unit
Agrees l (wait v) = Unit
Agrees l (name v) = Unit
Agrees l (reset whole) = Unit
Agrees l (reset (part is)) = l.items ≡ is
Agrees l (list is) = l.items ≡ is
Agrees l (diagnostics t d) = pick d.head.listed l.entries [] ≡ d.entries

abbrev pub AgreesGiven : Lists → Given Span → Type 0
AgreesGiven l (given v) = Agrees l v
AgreesGiven l absent = Unit

head_back : (c t k : Option ℕ) (b : Bool) (rest : List ℕ)
    → head_in (1 ∷ head_slot_octets (record { code = c; trigger = t; crit = k; listed = b }) ++ rest) ≡ record { code = c; trigger = t; crit = k; listed = b }
head_back (Some c) (Some t) (Some k) true rest = refl
head_back (Some c) (Some t) (Some k) false rest = refl
head_back (Some c) (Some t) None true rest = refl
head_back (Some c) (Some t) None false rest = refl
head_back (Some c) None (Some k) true rest = refl
head_back (Some c) None (Some k) false rest = refl
head_back (Some c) None None true rest = refl
head_back (Some c) None None false rest = refl
head_back None (Some t) (Some k) true rest = refl
head_back None (Some t) (Some k) false rest = refl
head_back None (Some t) None true rest = refl
head_back None (Some t) None false rest = refl
head_back None None (Some k) true rest = refl
head_back None None (Some k) false rest = refl
head_back None None None true rest = refl
head_back None None None false rest = refl

place_back : (v : Span) (rest : List ℕ) → PlaceFits v → place_in (1 ∷ place_octets v ++ rest) ≡ v
unfolding number_octets
place_back v rest h =
    let from : value_at 2 (number_octets 2 v.from ++ []) 0 ≡ v.from = two_back v.from [] h.0 in
    let size : value_at 2 (number_octets 2 (v.to - v.from) ++ []) 0 ≡ v.to - v.from = two_back (v.to - v.from) [] h.2 in
    let to : value_at 2 (number_octets 2 v.from ++ []) 0 + value_at 2 (number_octets 2 (v.to - v.from) ++ []) 0 ≡ v.to = rw (from, size) (omega (arith, h.1)) in
    λ i. record { from = from i; to = to i }

pub slot_back : (l : Lists) (v : Value Span) (rest : List ℕ) → Fits v → Agrees l v → slot_says l (value_kind v) (slot_of v ++ rest) ≡ v
unfolding slot_of slot_says number_octets
slot_back l (carried v) rest h a = ap (λ (x : Span). carried x) (place_back v rest h)
slot_back l (name v) rest h a = ap (λ (x : Span). name x) (place_back v rest h)
slot_back l (mme v) rest h a = λ i. mme (record { 0 = two_back v.0 [] h i })
slot_back l (mce v) rest h a = λ i. mce (record { 0 = two_back v.0 [] h i })
slot_back l (tmgi v) rest h a = refl
slot_back l (one v) rest h a = refl
slot_back l (two v) rest h a = ap (λ (x : ℕ). two x) (two_back v [] h)
slot_back l (cause v) rest h a = refl
slot_back l (wait v) rest h a = refl
slot_back l (reset whole) rest h a = refl
slot_back l (reset (part is)) rest h a = ap (λ x. reset (part x)) a
slot_back l (list is) rest h a = ap (λ x. list x) a
slot_back l (diagnostics t d) rest h a =
    let e : head_in (1 ∷ head_slot_octets d.head ++ rest) ≡ d.head = head_back d.head.code d.head.trigger d.head.crit d.head.listed rest in
    ap (λ (x : Head). diagnostics t (record { head = x; entries = pick x.listed l.entries [] })) e
    ∙ ap (λ es. diagnostics t (record { head = d.head; entries = es })) a

first_one : (l : Lists) (v : Value Span) (rest : List ℕ) (x : Given Span) → unless0 (slot_of v ++ rest) absent x ≡ x
unfolding slot_of
first_one l (carried v) rest x = refl
first_one l (mme v) rest x = refl
first_one l (mce v) rest x = refl
first_one l (tmgi v) rest x = refl
first_one l (one v) rest x = refl
first_one l (two v) rest x = refl
first_one l (cause v) rest x = refl
first_one l (wait v) rest x = refl
first_one l (name v) rest x = refl
first_one l (reset whole) rest x = refl
first_one l (reset (part is)) rest x = refl
first_one l (list is) rest x = refl
first_one l (diagnostics t d) rest x = refl

-- slots of values of a table's kinds, one after another
pub slots_back : (l : Lists) (t : List Row) (vs : List (Given Span)) (rest : List ℕ) → RowsFit t vs → Each (AgreesGiven l) vs
    → slots_say l t (each_octets slot_octets vs ++ rest) ≡ vs
unfolding slots_say
slots_back l [] [] rest h a = refl
slots_back l [] (v ∷ vs) rest h a = absurd h
slots_back l (r ∷ t) [] rest h a = absurd h
slots_back l (r ∷ t) (given v ∷ vs) rest h a =
    let more = each_octets slot_octets vs ++ rest in
    let pad : List ℕ = replicate (8 - length (slot_of v)) 0 in
    let x : (slot_octets (given v) ++ each_octets slot_octets vs) ++ rest ≡ slot_octets (given v) ++ more = append_assoc (slot_octets (given v)) (each_octets slot_octets vs) rest in
    let b : slot_octets (given v) ++ more ≡ slot_of v ++ (pad ++ more) = append_assoc (slot_of v) pad more in
    let d : drop 8 (slot_octets (given v) ++ more) ≡ more = drop_at (slot_octets (given v)) more 8 (slot_size (given v)) in
    let k : slot_says l r.kind (slot_of v ++ (pad ++ more)) ≡ v = rw (sym h.0.0) (slot_back l v (pad ++ more) h.0.1 a.0) in
    rw (x, d, b, k, first_one l v (pad ++ more) (given v), slots_back l t vs rest h.1 a.1)
slots_back l (r ∷ t) (absent ∷ vs) rest h a = ap (λ xs. absent ∷ xs) (slots_back l t vs rest h.1 a.1)
