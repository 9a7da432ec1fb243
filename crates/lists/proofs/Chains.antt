-- Chains: how they grow, and that a walk along one misses nothing. Over any slots, and any test that passes in one slot only.
use mathlib.Core.Path.{◌≡◌, refl, ap, sym, subst, ◌∙◌}
use mathlib.Core.Bool.{Bool, true, false, ◌||◌}
use mathlib.Core.List.{List}
use Prim.Native.Nat.{ℕ, zero, suc, ◌+◌, ◌-◌, ◌≤◌, ◌<◌}
use native.Mathlib.Numerals.{add-one}
use native.Mathlib.Omega.{arith}
use borrow.Author.Tests.{eqb-true, eqb-false, ne_eqb}
use lib.Dec.{eqb}
use lib.ListN.{length-set, length-replicate, get_or, get_or-replicate, set, replicate}
use lib.Seq.{get_or-set_same, get_or-set_other}
use Rattle.lists.specs.Lists.{pick, upto}
use Rattle.lists.specs.Chains.{last_in, Chained}

module _ (slot : ℕ → ℕ) (h : ℕ) where
  last_le : (i : ℕ) → last_in slot h i ≤ i
  unfolding last_in
  last_le zero = omega arith
  last_le (suc i) = step (eqb (slot i) h) (last_le i)
    where
      step : (b : Bool) → last_in slot h i ≤ i → pick b (suc i) (last_in slot h i) ≤ suc i
      step true r = omega arith
      step false r = omega arith

  -- the place named is in the slot
  last_in_lem : (i j : ℕ) → last_in slot h i ≡ suc j → slot j ≡ h
  unfolding last_in
  last_in_lem zero j e = let z : 0 ≡ suc j = e in absurd (omega arith)
  last_in_lem (suc i) j e = step (eqb (slot i) h) refl e (last_in_lem i j)
    where
      step : (b : Bool) → eqb (slot i) h ≡ b → pick b (suc i) (last_in slot h i) ≡ suc j → (last_in slot h i ≡ suc j → slot j ≡ h) → slot j ≡ h
      step true t e r = let k : i ≡ j = omega arith in subst (λ (x : ℕ). slot x ≡ h) k (eqb-true (slot i) h t)
      step false t e r = r e

  -- behind it, nothing passes
  last_some : (p : ℕ → Bool) → ((j : ℕ) → p j ≡ true → slot j ≡ h) → (i : ℕ) → upto p (last_in slot h i) ≡ upto p i
  unfolding last_in upto
  last_some p only zero = refl
  last_some p only (suc i) = step (eqb (slot i) h) refl (p i) refl (last_some p only i)
    where
      step : (b : Bool) → eqb (slot i) h ≡ b → (v : Bool) → p i ≡ v → upto p (last_in slot h i) ≡ upto p i → upto p (pick b (suc i) (last_in slot h i)) ≡ (v || upto p i)
      step true t v w r = ap (◌|| upto p i) w
      step false t true w r = absurd (eqb-false (slot i) h t (only i w))
      step false t false w r = r

-- ---- the chains grow
pub chained_none : (slot : ℕ → ℕ) (s m : ℕ) → Chained slot s m (replicate s 0) (replicate m 0) 0
unfolding last_in
chained_none slot s m = record {
  heads = length-replicate {A = ℕ} s 0;
  nexts = length-replicate {A = ℕ} m 0;
  first = λ h b. get_or-replicate {A = ℕ} s h 0 0 b;
  link = λ j b. absurd (omega arith);
}

module _ {slot : ℕ → ℕ} {s m : ℕ} {head next : List ℕ} {i : ℕ} (g : Chained slot s m head next i) where
  -- by a place in the slot h
  pub chained_more : (h v : ℕ) → slot i ≡ h → h < s → i < m → v ≡ get_or head h 0 → Chained slot s m (set head h (i + 1)) (set next i v) (i + 1)
  unfolding last_in
  chained_more h v e b c u = record {
    heads = length-set head h (i + 1) ∙ g.heads;
    nexts = length-set next i v ∙ g.nexts;
    first = λ x y. rw (add-one i) (first x y (eqb (slot i) x) refl);
    link = λ j y z. link j y z (eqb j i) refl;
  }
    where
      first : (x : ℕ) → x < s → (t : Bool) → eqb (slot i) x ≡ t → get_or (set head h (suc i)) x 0 ≡ pick (eqb (slot i) x) (suc i) (last_in slot x i)
      first x y true t = let n : x ≡ h = sym (eqb-true (slot i) x t) ∙ e in rw (t, n) (get_or-set_same head h (suc i) 0 (omega (arith, g.heads)))
      first x y false t = rw t (get_or-set_other head h x (suc i) 0 (λ n. eqb-false (slot i) x t (e ∙ sym n)) ∙ g.first x y)

      link : (j : ℕ) → j < i + 1 → slot j < s → (t : Bool) → eqb j i ≡ t → get_or (set next i v) j 0 ≡ last_in slot (slot j) j
      link j y z true t =
          let n : j ≡ i = eqb-true j i t in
          rw n (get_or-set_same next i v 0 (omega (arith, g.nexts)) ∙ u ∙ ap (λ (x : ℕ). get_or head x 0) (sym e) ∙ g.first (slot i) (rw e b))
      link j y z false t = let n : j ≡ i → ⊥ = eqb-false j i t in get_or-set_other next i j v 0 n ∙ g.link j (omega arith) z

  -- by a place in no slot
  pub chained_not : s ≤ slot i → Chained slot s m head next (i + 1)
  unfolding last_in
  chained_not e = record {
    heads = g.heads;
    nexts = g.nexts;
    first = λ x y. let n : slot i ≡ x → ⊥ = λ n. omega arith in rw (add-one i, ne_eqb (slot i) x n) (g.first x y);
    link = λ j y z.
        let n : j ≡ i → ⊥ = λ n. let k : slot i < s = subst (λ (x : ℕ). slot x < s) n z in omega arith in
        g.link j (omega arith) z;
  }

-- ---- a walk along the chain of the slot h, for a test of the n places: it stands at k, and behind it nothing passed
pub record Walk (slot : ℕ → ℕ) (p : ℕ → Bool) (h n k : ℕ) : Type 0 where
  pub from : ℕ
  pub at : k ≡ last_in slot h from
  pub within : k ≤ n
  pub rest : upto p k ≡ upto p n

module _ {slot : ℕ → ℕ} {s m : ℕ} {head next : List ℕ} {n : ℕ} (g : Chained slot s m head next n) {p : ℕ → Bool} {h : ℕ} (b : h < s) (only : (j : ℕ) → p j ≡ true → slot j ≡ h) where
  pub walk_first : Walk slot p h n (get_or head h 0)
  walk_first =
      let e : get_or head h 0 ≡ last_in slot h n = g.first h b in
      record { from = n; at = e; within = rw e (last_le slot h n); rest = rw e (last_some slot h p only n) }

  module _ {k : ℕ} (w : Walk slot p h n k) where
    pub walk_all : k ≤ 0 → upto p n ≡ false
    unfolding upto
    walk_all z = let e : k ≡ 0 = omega arith in sym w.rest ∙ ap (upto p) e

    module _ (c : 0 < k) where
      back : k ≡ suc (k - 1)
      back = omega arith

      -- the place where it stands is in the slot
      pub walk_at : slot (k - 1) ≡ h
      walk_at = last_in_lem slot h w.from (k - 1) (sym w.at ∙ back)

      pub walk_found : p (k - 1) ≡ true → upto p n ≡ true
      unfolding upto
      walk_found e = sym w.rest ∙ ap (upto p) back ∙ rw e

      before : get_or next (k - 1) 0 ≡ last_in slot h (k - 1)
      before = g.link (k - 1) (omega (arith, w.within)) (rw walk_at b) ∙ ap (λ (x : ℕ). last_in slot x (k - 1)) walk_at

      pub walk_more : p (k - 1) ≡ false → Walk slot p h n (get_or next (k - 1) 0)
      unfolding upto
      walk_more e = record {
        from = k - 1;
        at = before;
        within = rw before (omega (arith, last_le slot h (k - 1), w.within));
        rest = rw before (last_some slot h p only (k - 1) ∙ sym (ap (upto p) back ∙ rw e) ∙ w.rest);
      }

      pub walk-less : get_or next (k - 1) 0 < k
      walk-less = rw before (omega (arith, last_le slot h (k - 1)))
