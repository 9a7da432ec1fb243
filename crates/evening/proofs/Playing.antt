-- The entry at the front, one call, and the loop: what is played already, and the rest.
use Prim.Native.Nat.{ℕ, zero, suc, ◌+◌, ◌-◌, ◌≤◌, ◌<◌}
use mathlib.Core.Path.{◌≡◌, refl, sym, ap, ◌∙◌}
use mathlib.Core.Bool.{Bool, true, false}
use mathlib.Core.List.{List, [], ◌∷◌, ◌++◌, append_assoc, append-nil}
use native.Mathlib.Nat.{zero-add, add-zero, add_assoc, sub-zero}
use native.Mathlib.Omega.{arith}
use borrow.Author.Tests.{lt-leb, le-leb, leb-true}
use lib.ListN.{length, set, take, drop, length-append, length-drop}
use lib.Seq.{sets, slice, drop-drop}
use Rattle.std.specs.Prelude.{Option, Some, None}
use Rattle.lists.specs.Lists.{pick}
use Rattle.lists.proofs.Parts.{take_drop}
use Rattle.octets.specs.Field.{value_at}
use Rattle.octets.proofs.Writing.{sets_append, sets_front}
use Rattle.carry.specs.declared.Answer.{Answer}
use Rattle.answers.specs.Answers.{numbered}
use Rattle.editions.specs.declared.Edition.TheVariants.{Release18}
use Rattle.calls.specs.Call.{call}
use Rattle.unit.specs.Unit.{Called}
use Rattle.unit.specs.declared.Back as back
use Rattle.evening.specs.declared.Turn.{Turn}
use Rattle.evening.specs.Capture.{size_in, is_whole, call_in, held_in, turn_of, Played, played_after, no_turns, played_in, Turned, Plays}

-- ---- the entry at the front
module _ (s : List ℕ) where
  pub four : 4 ≤ size_in s
  unfolding size_in
  four = omega arith

  pub is_whole_lem : size_in s ≤ length s → is_whole s ≡ true
  unfolding is_whole
  is_whole_lem h = le-leb (size_in s) (length s) h

  pub not_whole : length s < size_in s → is_whole s ≡ false
  unfolding is_whole
  not_whole h = lt-leb (size_in s) (length s) h

  pub size_none : {o : Option ℕ} → o ≡ pick (is_whole s) (Some (size_in s)) None → o ≡ None → is_whole s ≡ false
  size_none {o} e z = by (is_whole s) (sym z ∙ e)
    where
      by : (b : Bool) → ◌≡◌ {A = Option ℕ} None (pick b (Some (size_in s)) None) → b ≡ false
      by false q = refl
      by true q = cc

  pub size_some : {o : Option ℕ} {n : ℕ} → o ≡ pick (is_whole s) (Some (size_in s)) None → o ≡ Some n → (n ≡ size_in s) × (is_whole s ≡ true)
  size_some {o} {n} e z = by (is_whole s) (sym z ∙ e)
    where
      by : (b : Bool) → ◌≡◌ {A = Option ℕ} (Some n) (pick b (Some (size_in s)) None) → (n ≡ size_in s) × (b ≡ true)
      by false q = cc
      by true q = (cc, refl)

  pub within : is_whole s ≡ true → size_in s ≤ length s
  unfolding is_whole
  within e = leb-true (size_in s) (length s) e

-- ---- one call
pub turned : (s t d : List ℕ) {n v : ℕ} {b : back.Back} {a h : ℕ} {t' d' : List ℕ} → n ≡ size_in s → v ≡ value_at 2 s 0
    → Called (call Release18 t (record { message = take (n - 4) (drop 4 s); offered = record { 0 = v }; room = d })) b t' d'
    → a ≡ (numbered b.answer).number → h ≡ held_in t'
    → Turned (call Release18 t (call_in s d)) (record { answer = a; reply = b.octets; held = h }) t' d'
unfolding call_in turn_of
turned s t d {n} {v} {b} {a} {h} {t'} {d'} e f q u w =
    let m : take (n - 4) (drop 4 s) ≡ slice 4 (size_in s) s = let r : 4 + (n - 4) ≡ size_in s = omega (arith, four s) in rw r at (take_drop (n - 4) 4 s) in
    let k : Called (call Release18 t (call_in s d)) b t' d' = rw (m, f) at q in
    record {
      turn = λ i. record { answer = (u ∙ ap (λ (x : Answer). (numbered x).number) k.answer) i; reply = k.octets i; held = (w ∙ ap held_in k.unit) i };
      unit = k.unit;
      room = k.room;
    }

-- ---- the loop
pub behind_behind : (l m : List Turn) (i j : ℕ) (p : Played) → played_after l i (played_after m j p) ≡ played_after (l ++ m) (i + j) p
behind_behind l m i j p = rw (append_assoc l m p.turns, add_assoc i j p.octets)

pub behind_none : (p : Played) → p ≡ played_after [] 0 p
behind_none p = rw (zero-add p.octets)

pub played_more : (k : ℕ) (s t d : List ℕ) → is_whole s ≡ true
    → played_in (suc k) s t d ≡ played_after (turn_of (call Release18 t (call_in s d)) ∷ []) (size_in s) (played_in k (drop (size_in s) s) (call Release18 t (call_in s d)).unit (call Release18 t (call_in s d)).room)
unfolding played_in
played_more k s t d e = rw e

pub played_not : (k : ℕ) (s t d : List ℕ) → is_whole s ≡ false → played_in k s t d ≡ no_turns t d
unfolding played_in
played_not zero s t d e = refl
played_not (suc k) s t d e = rw e

pub record Going (p : Played) (k : ℕ) (s t₀ d₀ t d : List ℕ) (o e : List Turn) (at i : ℕ) : Type 0 where
  pub passed : List Turn
  pub count : i ≡ length passed
  pub few : i ≤ k
  pub inside : at ≤ length s
  pub rest : p ≡ played_after passed at (played_in (k - i) (drop at s) t d)
  pub turns : e ≡ sets o 0 passed
  pub unit : length t ≡ length t₀
  pub room : length d ≡ length d₀

pub going_none : (k : ℕ) (s t d : List ℕ) (o : List Turn) → Going (played_in k s t d) k s t d t d o o 0 0
going_none k s t d o = record {
  passed = [];
  count = refl;
  few = omega arith;
  inside = omega arith;
  rest = rw (sub-zero k) (behind_none (played_in k s t d));
  turns = refl;
  unit = refl;
  room = refl;
}

module _ {p : Played} {k : ℕ} {s t₀ d₀ t d : List ℕ} {o e : List Turn} {at i : ℕ} (g : Going p k s t₀ d₀ t d o e at i) where
  pub going_on : {n : ℕ} → n ≡ size_in (drop at s) → is_whole (drop at s) ≡ true → at + n ≤ length s
  going_on size w = omega (arith, within (drop at s) w, length-drop at s, g.inside)

  pub going_more : {n : ℕ} {x : Turn} {t' d' : List ℕ} → i < k → n ≡ size_in (drop at s) → is_whole (drop at s) ≡ true
      → Turned (call Release18 t (call_in (drop at s) d)) x t' d' → length t' ≡ length t → length d' ≡ length d
      → Going p k s t₀ d₀ t' d' o (set e i x) (at + n) (i + 1)
  going_more {n} {x} {t'} {d'} h size w q a b = record {
    passed = g.passed ++ x ∷ [];
    count = rw length-append (omega (arith, g.count));
    few = omega arith;
    inside = going_on size w;
    rest =
        let u : k - i ≡ suc (k - (i + 1)) = omega arith in
        g.rest ∙ (rw (u, played_more (k - (i + 1)) (drop at s) t d w, ← q.turn, ← q.unit, ← q.room, ← size, drop-drop n at s) (behind_behind g.passed (x ∷ []) at n (played_in (k - (i + 1)) (drop (at + n) s) t' d')));
    turns = let u : i ≡ 0 + length g.passed = omega (arith, g.count) in rw (u, g.turns) (sym (sets_append o 0 g.passed (x ∷ [])));
    unit = a ∙ g.unit;
    room = b ∙ g.room;
  }

  module _ (h : k ≡ length o) where
    ended : played_in (k - i) (drop at s) t d ≡ no_turns t d → Plays p o (record { entries = i; octets = at }) t d e
    ended q =
        let r : p ≡ played_after g.passed at (no_turns t d) = g.rest ∙ ap (played_after g.passed at) q in
        rw (r, append-nil g.passed, add-zero at) (record {
          entries = g.count;
          octets = refl;
          unit = refl;
          room = refl;
          turns = g.turns ∙ sets_front o g.passed (omega (arith, g.count, g.few));
        })

    -- the next entry is not whole
    pub going_stop : is_whole (drop at s) ≡ false → Plays p o (record { entries = i; octets = at }) t d e
    going_stop w = ended (played_not (k - i) (drop at s) t d w)

    -- there is no turn for it
    pub going_full : k ≤ i → Plays p o (record { entries = k; octets = at }) t d e
    unfolding played_in
    going_full f =
        let u : k - i ≡ 0 = omega arith in
        let z : i ≡ k = omega (arith, g.few) in
        rw (← z) (ended (rw u))
