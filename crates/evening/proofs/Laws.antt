-- Laws of the play: in two parts it is the play whole; nothing that is whole is left over; and what stood in the room does not matter.
use Prim.Native.Nat.{ℕ, zero, suc, ◌+◌, ◌≤◌}
use mathlib.Core.Path.{◌≡◌, refl, sym, ap, subst, ◌∙◌}
use mathlib.Core.Bool.{Bool, true, false}
use mathlib.Core.List.{List, [], ◌∷◌}
use native.Mathlib.Nat.{zero-add, suc-add}
use native.Mathlib.Omega.{arith}
use lib.Dec.{leb}
use lib.ListN.{length, drop, length-append, length-drop, replicate}
use lib.Seq.{drop-drop}
use Rattle.lists.specs.Lists.{pick}
use Rattle.units.specs.Unit.{fresh, unit_octets, MaybeUnit, is_unit, no_unit, read_unit}
use Rattle.editions.specs.declared.Edition.TheVariants.{Release18}
use Rattle.calls.specs.Decided.{Decided}
use Rattle.answers.specs.Answers.{numbered}
use Rattle.calls.specs.Call.{Back, decided_on, reply_of, settled_if, fits, settled, on_unit, call}
use Rattle.evening.specs.declared.Turn.{Turn}
use Rattle.evening.specs.Capture.{size_in, is_whole, call_in, held_in, turn_of, Played, played_after, no_turns, played_in, captured}
use Rattle.evening.proofs.Playing.{four, not_whole, within, behind_behind, behind_none, played_more, played_not}

-- what is played of s behind a first part
abbrev pub after : ℕ → List ℕ → Played → Played
after k s p = played_after p.turns p.octets (played_in k (drop p.octets s) p.unit p.room)

-- the first j entries, and then k more from where they end
pub in_parts : (j k : ℕ) (s t d : List ℕ) → played_in (j + k) s t d ≡ after k s (played_in j s t d)
unfolding played_in
in_parts zero k s t d = rw (zero-add k) (behind_none (played_in k s t d))
in_parts (suc j) k s t d = rw (suc-add j k) (by (is_whole s) refl (in_parts j k (drop (size_in s) s) (call Release18 t (call_in s d)).unit (call Release18 t (call_in s d)).room))
  where
    b : Back
    b = call Release18 t (call_in s d)

    p : Played
    p = played_in j (drop (size_in s) s) (call Release18 t (call_in s d)).unit (call Release18 t (call_in s d)).room

    by : (w : Bool) → is_whole s ≡ w → played_in (j + k) (drop (size_in s) s) (call Release18 t (call_in s d)).unit (call Release18 t (call_in s d)).room ≡ after k (drop (size_in s) s) p
        → played_in (suc (j + k)) s t d ≡ after k s (played_in (suc j) s t d)
    by false w r = rw (played_not (suc (j + k)) s t d w, played_not (suc j) s t d w, played_not k s t d w) (behind_none (no_turns t d))
    by true w r =
        played_more (j + k) s t d w ∙ (ap (played_after (turn_of b ∷ []) (size_in s)) r
        ∙ (rw (drop-drop p.octets (size_in s) s) (behind_behind (turn_of b ∷ []) p.turns (size_in s) p.octets (played_in k (drop (size_in s + p.octets) s) p.unit p.room))
        ∙ ap (after k s) (sym (played_more j s t d w))))

-- as many entries as there are octets are all that are whole: what is left over does not begin with one
pub left_over_lem : (k : ℕ) (s t d : List ℕ) → length s ≤ k → is_whole (drop (played_in k s t d).octets s) ≡ false
unfolding played_in
left_over_lem zero s t d h = not_whole s (omega (arith, four s))
left_over_lem (suc k) s t d h = by (is_whole s) refl (left_over_lem k (drop (size_in s) s) (call Release18 t (call_in s d)).unit (call Release18 t (call_in s d)).room (omega (arith, length-drop (size_in s) s, four s)))
  where
    p : Played
    p = played_in k (drop (size_in s) s) (call Release18 t (call_in s d)).unit (call Release18 t (call_in s d)).room

    by : (w : Bool) → is_whole s ≡ w → is_whole (drop p.octets (drop (size_in s) s)) ≡ false → is_whole (drop (played_in (suc k) s t d).octets s) ≡ false
    by false w r = rw (played_not (suc k) s t d w) w
    by true w r = rw (played_more k s t d w, ← drop-drop p.octets (size_in s) s) r

pub all_whole : (s : List ℕ) → is_whole (drop (captured s).octets s) ≡ false
all_whole s = left_over_lem (length s) s (unit_octets fresh) (replicate 8192 0) (omega arith)

-- the entries stand within the octets
pub inside : (k : ℕ) (s t d : List ℕ) → (played_in k s t d).octets ≤ length s
unfolding played_in
inside zero s t d = omega arith
inside (suc k) s t d = by (is_whole s) refl (inside k (drop (size_in s) s) (call Release18 t (call_in s d)).unit (call Release18 t (call_in s d)).room)
  where
    p : Played
    p = played_in k (drop (size_in s) s) (call Release18 t (call_in s d)).unit (call Release18 t (call_in s d)).room

    by : (w : Bool) → is_whole s ≡ w → p.octets ≤ length (drop (size_in s) s) → (played_in (suc k) s t d).octets ≤ length s
    by false w r = rw (played_not (suc k) s t d w) (omega arith)
    by true w r = rw (played_more k s t d w) (omega (arith, within s w, length-drop (size_in s) s))

-- ---- rooms of one length
pub record Same (b c : Back) : Type 0 where
  pub answer : b.answer ≡ c.answer
  pub reply : b.reply ≡ c.reply
  pub unit : b.unit ≡ c.unit
  pub room : length b.room ≡ length c.room

turn_same : {b c : Back} → Same b c → turn_of b ≡ turn_of c
unfolding turn_of
turn_same q = λ i. record { answer = (numbered (q.answer i)).number; reply = length (q.reply i); held = held_in (q.unit i) }

settled_same : (b : Bool) (t d e : List ℕ) (x : Decided) → length d ≡ length e → Same (settled_if Release18 b t d x) (settled_if Release18 b t e x)
settled_same true t d e x h = record { answer = refl; reply = refl; unit = refl; room = simp (length-append, length-drop, h) }
settled_same false t d e x h = record { answer = refl; reply = refl; unit = refl; room = h }

call_same : (s t d e : List ℕ) → length d ≡ length e → Same (call Release18 t (call_in s d)) (call Release18 t (call_in s e))
unfolding call settled call_in decided_on
call_same s t d e h = by (read_unit t)
  where
    by : (u : MaybeUnit) → Same (on_unit Release18 t (call_in s d) u) (on_unit Release18 t (call_in s e) u)
    by (is_unit u) =
        let x : Decided = decided_on Release18 u (call_in s d) in
        let f : fits Release18 d x ≡ fits Release18 e x = ap (leb (length (reply_of Release18 x))) h in
        rw f (settled_same (fits Release18 e x) t d e x h)
    by no_unit = record { answer = refl; reply = refl; unit = refl; room = h }

pub record Alike (p q : Played) : Type 0 where
  pub turns : p.turns ≡ q.turns
  pub unit : p.unit ≡ q.unit
  pub octets : p.octets ≡ q.octets

behind_alike : {x y : Turn} (n : ℕ) {p q : Played} → x ≡ y → Alike p q → Alike (played_after (x ∷ []) n p) (played_after (y ∷ []) n q)
behind_alike n e r = record { turns = λ i. e i ∷ r.turns i; unit = r.unit; octets = ap (n +◌) r.octets }

-- what stands in the room before does not matter to what the entries give, nor to the unit
pub any_room : (k : ℕ) (s t d e : List ℕ) → length d ≡ length e → Alike (played_in k s t d) (played_in k s t e)
unfolding played_in
any_room zero s t d e h = record { turns = refl; unit = refl; octets = refl }
any_room (suc k) s t d e h =
    let q = call_same s t d e h in
    by (is_whole s) (behind_alike (size_in s) (turn_same q)
    (subst (λ (u : List ℕ). Alike (played_in k (drop (size_in s) s) (call Release18 t (call_in s d)).unit (call Release18 t (call_in s d)).room) (played_in k (drop (size_in s) s) u (call Release18 t (call_in s e)).room)) q.unit
    (any_room k (drop (size_in s) s) (call Release18 t (call_in s d)).unit (call Release18 t (call_in s d)).room (call Release18 t (call_in s e)).room q.room)))
  where
    by : (w : Bool) {p q : Played} → Alike p q → Alike (pick w p (no_turns t d)) (pick w q (no_turns t e))
    by true r = r
    by false r = record { turns = refl; unit = refl; octets = refl }
