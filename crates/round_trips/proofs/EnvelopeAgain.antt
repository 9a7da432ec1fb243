-- What was read around a value, written again, is the same octets: an element's envelope, a message's frame and its count of elements.
-- Assumes nothing.
use mathlib.Core.Path.{◌≡◌, ◌∙◌, refl, sym, ap, subst}
use mathlib.Core.Bool.{Bool, true, false}
use mathlib.Core.List.{List, [], ◌∷◌, ◌++◌}
use Prim.Native.Nat.{ℕ, ◌+◌, ◌-◌, ◌/◌, ◌%◌, ◌^◌}
use native.Mathlib.Omega.{arith}
use lib.ListN.{length, get_or, take, length-append}
use lib.Seq.{length-take-le, take_all}
use Rattle.std.specs.Prelude.{Ok}
use borrow.Author.Tests.{eqb-false}
use lib.Dec.{eqb}
use Rattle.lists.specs.Lists.{pick}
use Rattle.octets.specs.Field.{bits_at, plain_at, choice_at, pad_at, number_at, open_at, ends_at}
use Rattle.packed.specs.Packed.{bits_of, ◌bits◌, bit, packed_in, packed}
use Rattle.octets.specs.Write.{number_octets, length_octets}
use Rattle.octets.specs.Stands.{Stands, Fills, Octets}
use Rattle.octets.specs.declared.Span.{Span}
use Rattle.octets.proofs.Chain.{then_got, same_got}
use Rattle.octets.proofs.Got.{flag_got, plain_got, choice_got, number_got, ends_got}
use Rattle.octets.proofs.Stood.{stands_one, stands_join, stands_split, stands_front}
use Rattle.octets.proofs.Back.{length_number}
use Rattle.octets.proofs.Again.{packed_again, pad_zero, number_again, open_again}
use Rattle.rows.specs.declared.Row.{Row}
use Rattle.envelopes.specs.declared.Head.{Head}
use Rattle.envelopes.specs.Envelope.{criticality_at, envelope_at}
use Rattle.editions.specs.declared.Code.{Code}
use Rattle.frames.specs.declared.Frame.{Frame}
use Rattle.frames.specs.Frame.{kind_at, frame_at, container_at, count_at}
use Rattle.frames.specs.declared.Count.{Count}
use Rattle.meaning.specs.Written.{frame_octets}
use Rattle.round_trips.proofs.Laid.{envelope_octets}

-- octets that stand, and behind them octets that fill the rest
pub fills_join : {s : List ℕ} {at to : ℕ} {vs ws : List ℕ} → Stands s at vs → to ≡ at + length vs → Fills s to ws → Fills s at (vs ++ ws)
fills_join {vs = vs} {ws = ws} h e g =
    let l = length-append vs ws in
    let x = g.ends in
    record { stands = stands_join h (rw e at g.stands); ends = omega arith }

-- ---- an open value

-- octets that fill an open value stand behind their length, and end with it
pub open_filled : (s : List ℕ) (at : ℕ) (v : Span) (os : List ℕ) → Octets s → Ok v ≡ open_at s at → Fills (take v.to s) v.from os
    → Stands s at (length_octets (length os) ++ os) × (v.to ≡ at + length (length_octets (length os) ++ os))
open_filled s at v os o q b =
    let a = open_again s at o q in
    let l = length-take-le v.to s a.ends in
    let e = b.ends in
    let k : v.to - v.from ≡ length os = omega arith in
    let f : v.from ≡ at + length (length_octets (length os)) = rw k at a.from in
    let n = length-append (length_octets (length os)) os in
    let g : Stands s at (length_octets (length os)) = rw k at (stands_split (length_octets (v.to - v.from)) _ a.octets).0 in
    (stands_join g (rw f at (stands_front v.to a.ends b.stands)), omega arith)

-- ---- an element

criticality_again : (s : List ℕ) (at : ℕ) {c : ℕ} → Octets s → Ok c ≡ criticality_at s at → Stands s at (packed (2 bits c ∷ []) ∷ [])
unfolding criticality_at
criticality_again s at o q =
    let a = then_got (choice_at 3 2 s at 0) _ q in
    let b = then_got (pad_at s at 2) _ a.2 in
    let r = choice_got s at 3 2 0 a.1 in
    let f : Stands s at (packed (2 bits bits_at s at 0 2 ∷ []) ∷ []) = packed_again s at (2 ∷ []) o r.0 (omega arith) (pad_zero s at 2 (omega arith) (omega arith) b.1) in
    subst (λ (x : ℕ). Stands s at (packed (2 bits x ∷ []) ∷ [])) (sym r.1 ∙ sym (same_got b.2)) f

-- the row's id and criticality are those that were read
pub envelope_again : (s : List ℕ) (at : ℕ) (h : Head) (r : Row) (os : List ℕ) → Octets s → Ok h ≡ envelope_at s at → h.id ≡ r.id → h.crit ≡ r.crit
    → Fills (take h.value.to s) h.value.from os → Stands s at (envelope_octets r os) × (h.value.to ≡ at + length (envelope_octets r os))
unfolding envelope_at
envelope_again s at h r os o q i c b =
    let x = then_got (number_at 2 s at) _ q in
    let y = then_got (criticality_at s (at + 2)) _ x.2 in
    let z = then_got (open_at s (at + 3)) _ y.2 in
    let e : h ≡ record { id = x.0; crit = y.0; value = z.0 } = same_got z.2 in
    let j : x.0 ≡ r.id = sym (ap (λ (w : Head). w.id) e) ∙ i in
    let d : y.0 ≡ r.crit = sym (ap (λ (w : Head). w.crit) e) ∙ c in
    let v : z.0 ≡ h.value = sym (ap (λ (w : Head). w.value) e) in
    let u = open_filled s (at + 3) h.value os o (ap (λ (w : Span). Ok w) (sym v) ∙ z.1) b in
    let n : length (number_octets 2 r.id) ≡ 2 = length_number 2 r.id in
    let k : at + 2 + 1 ≡ at + 3 = omega arith in
    let w = u.1 in
    let l = length-append (number_octets 2 r.id) (packed (2 bits r.crit ∷ []) ∷ (length_octets (length os) ++ os)) in
    let g : Stands s (at + 2) (packed (2 bits r.crit ∷ []) ∷ (length_octets (length os) ++ os)) = stands_join (rw d at (criticality_again s (at + 2) o y.1)) (rw k u.0) in
    (stands_join (rw j at (number_again 2 s at o x.1)) (rw n g), omega arith)

-- ---- a message

-- a bit that is not 1 is 0
unset : (x b : ℕ) → false ≡ eqb (bits_of x b 1) 1 → bits_of x b 1 ≡ 0
unfolding bits_of
unset x b e = let n = eqb-false (x / 2 ^ (8 - (b % 8 + 1)) % 2 ^ 1) 1 (sym e) in omega arith

-- the bits in front: no extension, and no container
opening_again : (c : Bool) (s : List ℕ) (from : ℕ) → Octets s → Ok tt ≡ plain_at s from 0 → Ok false ≡ container_at c s from → Ok tt ≡ pad_at s from (pick c 2 1)
    → Stands s from (packed (bit false ∷ []) ∷ [])
unfolding container_at packed_in
opening_again false s from o a b p =
    let x = plain_got s from 0 a in
    let f : Stands s from (packed (1 bits bits_at s from 0 1 ∷ []) ∷ []) = packed_again s from (1 ∷ []) o x.0 (omega arith) (pad_zero s from 1 (omega arith) (omega arith) p) in
    rw x.1 at f
opening_again true s from o a b p =
    let x = plain_got s from 0 a in
    let y : bits_at s from 1 1 ≡ 0 = unset (get_or s from 0) 1 (flag_got s from 1 b).1 in
    let f : Stands s from (packed (1 bits bits_at s from 0 1 ∷ 1 bits bits_at s from 1 1 ∷ []) ∷ []) = packed_again s from (1 ∷ 1 ∷ []) o x.0 (omega arith) (pad_zero s from 2 (omega arith) (omega arith) p) in
    rw (x.1, y) at f

-- they and how many elements, before what fills the rest
pub count_again : (c : Bool) (s : List ℕ) (from n : ℕ) (os : List ℕ) → Octets s → Ok (record { elements = n; container = false }) ≡ count_at c s from → Fills s (from + 3) os
    → Fills s from (packed (bit false ∷ []) ∷ (number_octets 2 n ++ os))
unfolding count_at
count_again c s from n os o q b =
    let a = then_got (plain_at s from 0) _ q in
    let x = then_got (container_at c s from) _ a.2 in
    let p = then_got (pad_at s from (pick c 2 1)) _ x.2 in
    let k = then_got (number_at 2 s (from + 1)) _ p.2 in
    let e : ◌≡◌ {A = Count} (record { elements = n; container = false }) (record { elements = k.0; container = x.0 }) = same_got k.2 in
    let none : false ≡ x.0 = ap (λ (y : Count). y.container) e in
    let many : n ≡ k.0 = ap (λ (y : Count). y.elements) e in
    let l = length_number 2 n in
    fills_join (opening_again c s from o a.1 (rw (← none) at x.1) p.1) (omega arith) (fills_join (number_again 2 s (from + 1) o (rw (← many) at k.1)) (omega arith) b)

kind_again : (s : List ℕ) {k : ℕ} → Octets s → Ok k ≡ kind_at s → Stands s 0 (packed (bit false ∷ 2 bits k ∷ []) ∷ [])
unfolding kind_at
kind_again s o q =
    let a = then_got (plain_at s 0 0) _ q in
    let b = then_got (choice_at 3 2 s 0 1) _ a.2 in
    let p = then_got (pad_at s 0 3) _ b.2 in
    let x = plain_got s 0 0 a.1 in
    let y = choice_got s 0 3 2 1 b.1 in
    let f : Stands s 0 (packed (1 bits bits_at s 0 0 1 ∷ 2 bits bits_at s 0 1 2 ∷ []) ∷ []) = packed_again s 0 (1 ∷ 2 ∷ []) o x.0 (omega arith) (pad_zero s 0 3 (omega arith) (omega arith) p.1) in
    let g : Stands s 0 (packed (bit false ∷ 2 bits bits_at s 0 1 2 ∷ []) ∷ []) = rw x.1 at f in
    subst (λ (k : ℕ). Stands s 0 (packed (bit false ∷ 2 bits k ∷ []) ∷ [])) (sym y.1 ∙ sym (same_got p.2)) g

-- an octet as it is
octet_again : (s : List ℕ) (at : ℕ) {v : ℕ} → Ok v ≡ number_at 1 s at → Stands s at (v ∷ [])
octet_again s at q = let n = number_got s at 1 q in stands_one n.0 (n.1 ∙ omega arith)

-- the frame is the one that was read, and octets fill what it holds
pub frame_again : (s : List ℕ) (f : Frame) (c : Code) (os : List ℕ) → Octets s → Ok f ≡ frame_at s → f.kind ≡ c.kind → f.code ≡ c.code → f.crit ≡ c.crit
    → Fills s f.from os → Fills s 0 (frame_octets c os)
unfolding frame_at
frame_again s f c os o q i j d b =
    let x = then_got (kind_at s) _ q in
    let y = then_got (number_at 1 s 1) _ x.2 in
    let z = then_got (criticality_at s 2) _ y.2 in
    let v = then_got (open_at s 3) _ z.2 in
    let n = then_got (ends_at s v.0.to) _ v.2 in
    let e : f ≡ record { kind = x.0; code = y.0; crit = z.0; from = v.0.from } = same_got n.2 in
    let k : x.0 ≡ c.kind = sym (ap (λ (w : Frame). w.kind) e) ∙ i in
    let m : y.0 ≡ c.code = sym (ap (λ (w : Frame). w.code) e) ∙ j in
    let r : z.0 ≡ c.crit = sym (ap (λ (w : Frame). w.crit) e) ∙ d in
    let t : f.from ≡ v.0.from = ap (λ (w : Frame). w.from) e in
    let whole : take v.0.to s ≡ s = take_all v.0.to s (ends_got s v.0.to n.1) in
    let u = open_filled s 3 v.0 os o v.1 (rw whole (rw t at b)) in
    let w = u.1 in
    let g = u.0.room in
    let h = ends_got s v.0.to n.1 in
    fills_join (rw k at (kind_again s o x.1)) refl
    (fills_join (rw m at (octet_again s 1 y.1)) refl
    (fills_join (rw r at (criticality_again s 2 o z.1)) refl (record { stands = u.0; ends = omega arith })))
