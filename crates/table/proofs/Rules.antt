-- The rules on what a table holds, for lists of any length: what is said comes first, and why below.
use mathlib.Core.Logic.{◌↔◌}
use mathlib.Core.Path.{◌≡◌, refl, ap, sym, ◌∙◌}
use mathlib.Core.Bool.{Bool, true, false, not}
use mathlib.Core.List.{List, [], ◌∷◌, ◌++◌, Memᴰ, Permᴰ, Sublistᴰ}
use Prim.Native.Nat.{◌≤◌, ◌<◌}
use native.Mathlib.Omega.{arith}
use borrow.Author.Tests.{not-true, le-leb, lt-leb, leb-false}
use lib.Dec.{leb}
use lib.ListN.{length, length-append}
use Rattle.lists.specs.Lists.{pick, keep, apart}
use Rattle.lists.proofs.Tests.{on-pick, not_or, and_left, and_right}
use Rattle.lists.proofs.Keep.{keep_append, keep_same, keep_cong, keep_all, keep_keep, keep_swap, length_keep, mem_keep, keep_order}
use Rattle.lists.proofs.Some.{some_append, keep_perm}
use Rattle.lists.proofs.Apart.{apart_more, apart_keep}
use Rattle.identity.specs.declared.MmeId.{MmeId}
use Rattle.identity.specs.declared.MceId.{MceId}
use Rattle.identity.specs.declared.Item.{Item}
use Rattle.table.specs.Table.{State, has_pair, names, named, without, full, starting, stopping, holds_mme, holds_mce, share_mme, share_mce, distinct_held}
use Rattle.table.specs.declared.Association.{Association}

-- ---- partial resets
pub record Resets : Type 0 where
  -- what is left is exactly what stood there and no item names, in the order in which it stood
  pub left : (is : List Item) (l : State) (a : Association) → Memᴰ a (without is l) ↔ (Memᴰ a l × (named is a ≡ false))
  pub order : (is : List Item) (l : State) → Sublistᴰ (without is l) l
  -- one after the other is one with the lists joined
  pub joined : (is js : List Item) (l : State) → without js (without is l) ≡ without (is ++ js) l
  -- the items may come in any order
  pub any_order : {is js : List Item} → Permᴰ is js → (l : State) → without is l ≡ without js l
  -- items that name the same associations of those held leave the same
  pub same_named : (is js : List Item) (l : State) → ((a : Association) → Memᴰ a l → named is a ≡ named js a) → without is l ≡ without js l
  -- items that name none of those held leave all
  pub none_named : (is : List Item) (l : State) → ((a : Association) → Memᴰ a l → named is a ≡ false) → without is l ≡ l

-- ---- a start or a stop changes places with a partial reset
pub record ChangingPlaces : Type 0 where
  -- where no item names the new association, and there was room for it before the reset
  pub start : (is : List Item) (a : Association) (l : State) → named is a ≡ false → length l < 256 → without is (starting a l) ≡ starting a (without is l)
  pub stop : (is : List Item) (m : MmeId) (c : MceId) (l : State) → without is (stopping m c l) ≡ stopping m c (without is l)

-- ---- what is always so of a table: its identities are apart, and it holds 256 at most
pub record Always : Type 0 where
  -- a start whose identities are not held
  pub start_apart : (a : Association) (l : State) → holds_mme a.mme l ≡ false → holds_mce a.mce l ≡ false → distinct_held l ≡ true → distinct_held (starting a l) ≡ true
  pub start_size : (a : Association) (l : State) → length l ≤ 256 → length (starting a l) ≤ 256
  pub stop_apart : (m : MmeId) (c : MceId) (l : State) → distinct_held l ≡ true → distinct_held (stopping m c l) ≡ true
  pub stop_size : (m : MmeId) (c : MceId) (l : State) → length (stopping m c l) ≤ length l
  pub reset_apart : (is : List Item) (l : State) → distinct_held l ≡ true → distinct_held (without is l) ≡ true
  pub reset_size : (is : List Item) (l : State) → length (without is l) ≤ length l

-- ==== why

pub resets : Resets
unfolding without named
resets = record {
  left = λ is l a. (
    λ m. let k = (mem_keep (λ (x : Association). not (named is x)) l).0 m in (k.0, not-true _ k.1),
    λ m. (mem_keep (λ (x : Association). not (named is x)) l).1 (m.0, ap not m.1),
  );
  order = λ is l. keep_order _ l;
  joined = λ is js l.
      keep_keep (λ (a : Association). not (named is a)) (λ (a : Association). not (named js a)) l
      ∙ keep_cong _ _ (λ a. sym (ap not (some_append (λ (i : Item). names i a) is js) ∙ not_or (named is a) (named js a))) l;
  any_order = λ p l. keep_perm not names p l;
  same_named = λ is js l e. keep_same _ _ l (λ a m. ap not (e a m));
  none_named = λ is l e. keep_same _ (λ (a : Association). true) l (λ a m. ap not (e a m)) ∙ keep_all l;
}

-- with room, one more stands behind the others
pub appended : (a : Association) (l : State) → length l < 256 → starting a l ≡ l ++ (a ∷ [])
unfolding starting full
appended a l h = rw (lt-leb 256 (length l) h)

pub not_appended : (a : Association) (l : State) → 256 ≤ length l → starting a l ≡ l
unfolding starting full
not_appended a l h = rw (le-leb 256 (length l) h)

spared : (is : List Item) (a : Association) (l : State) → named is a ≡ false → without is (l ++ (a ∷ [])) ≡ without is l ++ (a ∷ [])
unfolding without
spared is a l e = keep_append (λ (x : Association). not (named is x)) l (a ∷ []) ∙ rw e

fewer : (is : List Item) (l : State) → length (without is l) ≤ length l
unfolding without
fewer is l = length_keep _ l

pub changing_places : ChangingPlaces
unfolding without stopping
changing_places = record {
  start = λ is a l e h.
      let n : length (without is l) < 256 = omega (arith, fewer is l) in
      ap (without is) (appended a l h) ∙ spared is a l e ∙ sym (appended a (without is l) n);
  stop = λ is m c l. keep_swap (λ (a : Association). not (named is a)) (λ (a : Association). not (has_pair m c a)) l;
}

-- each series by itself
module _ (l : State) (d : distinct_held l ≡ true) where
  mmes : apart share_mme l ≡ true
  unfolding distinct_held
  mmes = and_left (apart share_mme l) (apart share_mce l) d

  mces : apart share_mce l ≡ true
  unfolding distinct_held
  mces = and_right (apart share_mme l) (apart share_mce l) d

kept_apart : (p : Association → Bool) (l : State) → distinct_held l ≡ true → distinct_held (keep p l) ≡ true
unfolding distinct_held
kept_apart p l d = rw (apart_keep share_mme p l (mmes l d), apart_keep share_mce p l (mces l d))

appended_apart : (a : Association) (l : State) → holds_mme a.mme l ≡ false → holds_mce a.mce l ≡ false → distinct_held l ≡ true → distinct_held (l ++ (a ∷ [])) ≡ true
unfolding distinct_held
appended_apart a l h k d = rw (apart_more share_mme l a, apart_more share_mce l a, mmes l d, mces l d, h, k)

started_size : (a : Association) (l : State) (b : Bool) → leb 256 (length l) ≡ b → length l ≤ 256 → length (pick b l (l ++ (a ∷ []))) ≤ 256
started_size a l true t h = h
started_size a l false t h = rw length-append (omega (arith, leb-false 256 (length l) t))

pub always : Always
unfolding starting full without stopping
always = record {
  start_apart = λ a l h k d. on-pick (λ (x : State). distinct_held x ≡ true) (full l) d (appended_apart a l h k d);
  start_size = λ a l h. started_size a l (full l) refl h;
  stop_apart = λ m c l d. kept_apart _ l d;
  stop_size = λ m c l. length_keep _ l;
  reset_apart = λ is l d. kept_apart _ l d;
  reset_size = fewer;
}
