-- A capture that is read in pieces: what is whole in a piece is played, and the next piece stands behind what is left over. It is the capture whole.
use Prim.Native.Nat.{ℕ, zero, suc, ◌+◌, ◌-◌, ◌≤◌, ◌<◌}
use mathlib.Core.Path.{◌≡◌, refl, sym, ap, ◌∙◌}
use mathlib.Core.Bool.{Bool, true, false}
use mathlib.Core.List.{List, [], ◌∷◌, ◌++◌, append-nil}
use native.Mathlib.Nat.{zero-add, suc-add, add-zero}
use native.Mathlib.Omega.{arith}
use lib.ListN.{length, get_or, drop, length-append, length-drop, get_or-append}
use lib.Seq.{drop-drop, take-append-le, drop-append-le}
use Rattle.editions.specs.declared.Edition.TheVariants.{Release18}
use Rattle.calls.specs.Call.{Back, call}
use Rattle.evening.specs.Capture.{size_in, is_whole, call_in, turn_of, Played, played_after, no_turns, played_in}
use Rattle.evening.proofs.Playing.{four, is_whole_lem, within, behind_behind, behind_none, played_more, played_not}
use Rattle.evening.proofs.Laws.{in_parts, left_over_lem}

-- a whole entry is the same with octets behind it
module _ (s u : List ℕ) (w : is_whole s ≡ true) where
  front : (i : ℕ) → i < 4 → get_or (s ++ u) i 0 ≡ get_or s i 0
  front i h = get_or-append s u 0 i (omega (arith, within s w, four s))

  size_front : size_in (s ++ u) ≡ size_in s
  unfolding size_in
  size_front = rw (front 2 (omega arith), front 3 (omega arith))

  whole_front : is_whole (s ++ u) ≡ true
  whole_front = is_whole_lem (s ++ u) (rw size_front (omega (arith, within s w, length-append s u)))

  call_front : (d : List ℕ) → call_in (s ++ u) d ≡ call_in s d
  unfolding call_in
  call_front d = rw (size_front, take-append-le (size_in s) s u (within s w), front 0 (omega arith), front 1 (omega arith))

-- the entries that are whole in the first piece, and then k more
pub in_pieces : (j k : ℕ) (s u t d : List ℕ)
    → played_in (length (played_in j s t d).turns + k) (s ++ u) t d
    ≡ played_after (played_in j s t d).turns (played_in j s t d).octets (played_in k (drop (played_in j s t d).octets s ++ u) (played_in j s t d).unit (played_in j s t d).room)
unfolding played_in
in_pieces zero k s u t d = rw (zero-add k) (behind_none (played_in k (s ++ u) t d))
in_pieces (suc j) k s u t d = by (is_whole s) refl (in_pieces j k (drop (size_in s) s) u (call Release18 t (call_in s d)).unit (call Release18 t (call_in s d)).room)
  where
    b : Back
    b = call Release18 t (call_in s d)

    p : Played
    p = played_in j (drop (size_in s) s) (call Release18 t (call_in s d)).unit (call Release18 t (call_in s d)).room

    then : Played → Played
    then q = played_after q.turns q.octets (played_in k (drop q.octets s ++ u) q.unit q.room)

    by : (w : Bool) → is_whole s ≡ w
        → played_in (length p.turns + k) (drop (size_in s) s ++ u) (call Release18 t (call_in s d)).unit (call Release18 t (call_in s d)).room
        ≡ played_after p.turns p.octets (played_in k (drop p.octets (drop (size_in s) s) ++ u) p.unit p.room)
        → played_in (length (played_in (suc j) s t d).turns + k) (s ++ u) t d ≡ then (played_in (suc j) s t d)
    by false w r = rw (played_not (suc j) s t d w, zero-add k) (behind_none (played_in k (s ++ u) t d))
    by true w r =
        rw (played_more j s t d w, suc-add (length p.turns) k)
        (played_more (length p.turns + k) (s ++ u) t d (whole_front s u w)
        ∙ (rw (call_front s u w d, size_front s u w, drop-append-le (size_in s) s u (within s w)) (ap (played_after (turn_of b ∷ []) (size_in s)) r
        ∙ (rw (drop-drop p.octets (size_in s) s) (behind_behind (turn_of b ∷ []) p.turns (size_in s) p.octets (played_in k (drop (size_in s + p.octets) s ++ u) p.unit p.room))))))

behind_last : (p : Played) → played_after p.turns p.octets (no_turns p.unit p.room) ≡ p
behind_last p = rw (append-nil p.turns, add-zero p.octets)

-- more entries than there are octets are not found
enough : (j k : ℕ) (s t d : List ℕ) → length s ≤ j → played_in (j + k) s t d ≡ played_in j s t d
enough j k s t d h =
    let p : Played = played_in j s t d in
    in_parts j k s t d ∙ (ap (played_after p.turns p.octets) (played_not k (drop p.octets s) p.unit p.room (left_over_lem j s t d h)) ∙ behind_last p)

pub all_of : (k : ℕ) (s t d : List ℕ) → length s ≤ k → played_in k s t d ≡ played_in (length s) s t d
all_of k s t d h =
    let e : k ≡ length s + (k - length s) = omega arith in
    ap (λ (n : ℕ). played_in n s t d) e ∙ enough (length s) (k - length s) s t d (omega arith)

-- all that is whole in s is played, and then all that is whole in what is left over with u behind it
pub piece_by_piece : (s u t d : List ℕ) → let p : Played = played_in (length s) s t d in
    let r : List ℕ = drop p.octets s ++ u in
    played_in (length (s ++ u)) (s ++ u) t d ≡ played_after p.turns p.octets (played_in (length r) r p.unit p.room)
piece_by_piece s u t d =
    let p : Played = played_in (length s) s t d in
    let r : List ℕ = drop p.octets s ++ u in
    let n : ℕ = length (s ++ u) in
    sym (all_of (length p.turns + n) (s ++ u) t d (omega arith))
    ∙ (in_pieces (length s) n s u t d ∙ ap (played_after p.turns p.octets) (all_of n r p.unit p.room (omega (arith, length-append s u, length-append (drop p.octets s) u, length-drop p.octets s))))
