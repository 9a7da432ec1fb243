-- What names an association stands in one of its two slots.
use Rattle.std.specs.Prelude.{None, Option, Some}
use Rattle.identity.specs.declared.MceId.{MceId}
use mathlib.Core.Path.{◌≡◌, refl, ap, sym, ◌∙◌}
use mathlib.Core.Bool.{Bool, true, false, ◌&&◌, ◌||◌, or-true, and-true, and-false, true≢false}
use mathlib.Core.List.{List, map}
use Prim.Native.Nat.{ℕ, min, ◌-◌, ◌%◌, ◌≤◌, ◌<◌}
use native.Mathlib.Omega.{arith}
use borrow.Author.Tests.{eqb-true, eq-eqb}
use lib.Dec.{eqb}
use lib.ListN.{length, take, get_or}
use Rattle.lists.specs.Lists.{some, upto}
use Rattle.lists.proofs.Tests.{and_left}
use Rattle.lists.proofs.Some.{some_or, some_cong, some_map}
use Rattle.lists.proofs.Slices.{take_within}
use Rattle.lists.proofs.Places.{some_places}
use Rattle.lists.proofs.Chains.{Walk, walk_first, walk_all, walk_at, walk_found, walk_more, walk-less}
use Rattle.identity.specs.declared.MmeId.{MmeId}
use Rattle.identity.specs.declared.Item.{Item}
use Rattle.item_words.specs.Words.{item_of}
use Rattle.table.specs.Table.{has_mme, has_mce, names, named}
use Rattle.table.specs.declared.Association.{Association}
use Rattle.reset.specs.Slots.{mme_slot, mce_slot, identities_slot, item_slot, slot_at, names_in, Slotted}

-- ---- the two slots of an association
first : (a : Association) (m : MmeId) (b : Bool) → has_mme m a ≡ true → (eqb (mme_slot m) (mme_slot a.mme) || b) ≡ true
first a m b e = let n : m.0 ≡ a.mme.0 = sym (eqb-true a.mme.0 m.0 e) in rw (eq-eqb (mme_slot m) (mme_slot a.mme) (ap (◌% 4096) n))

-- what names it stands in one of them
there : (a : Association) (x : Option MmeId) (y : Option MceId) → names (record { mme = x; mce = y }) a ≡ true → (eqb (identities_slot x y) (mme_slot a.mme) || eqb (identities_slot x y) (mce_slot a.mce)) ≡ true
there a (Some m) (Some c) e = first a m _ (and_left (has_mme m a) (has_mce c a) e)
there a (Some m) None e = first a m _ e
there a None (Some c) e = let n : c.0 ≡ a.mce.0 = sym (eqb-true _ _ e) in rw (eq-eqb (mce_slot c) (mce_slot a.mce) (ap (◌% 4096) n)) (or-true (eqb (mce_slot c) (mme_slot a.mme)))
there a None None e = absurd (true≢false (sym e))

in_either : (a : Association) (i : Item) → names i a ≡ (names_in (mme_slot a.mme) a i || names_in (mce_slot a.mce) a i)
unfolding item_slot
in_either a i = by (names i a) (eqb (identities_slot i.mme i.mce) (mme_slot a.mme)) (eqb (identities_slot i.mme i.mce) (mce_slot a.mce)) (there a i.mme i.mce)
  where
    by : (n b d : Bool) → (n ≡ true → (b || d) ≡ true) → n ≡ (b && n || d && n)
    by true b d f = sym (rw (and-true b, and-true d) (f refl))
    by false b d f = sym (rw (and-false b, and-false d))

pub named_either : (is : List Item) (a : Association) → named is a ≡ (some (names_in (mme_slot a.mme) a) is || some (names_in (mce_slot a.mce) a) is)
unfolding named
named_either is a = some_cong (λ (i : Item). names i a) _ (in_either a) is ∙ some_or (names_in (mme_slot a.mme) a) (names_in (mce_slot a.mce) a) is

-- ---- the items that the first 256 words say
abbrev pub word_items : List ℕ → List Item
word_items ws = map item_of (take 256 ws)

-- the word at a place says an item that is in the slot and names the association
abbrev names_at : List ℕ → ℕ → Association → ℕ → Bool
names_at ws h a j = names_in h a (item_of (get_or ws j 0))

by_places : (ws : List ℕ) (h : ℕ) (a : Association) → some (names_in h a) (word_items ws) ≡ upto (names_at ws h a) (min (length ws) 256)
by_places ws h a =
    some_map (names_in h a) item_of (take 256 ws)
    ∙ ap (some (λ (w : ℕ). names_in h a (item_of w))) (sym (take_within ws 256 (length ws) refl {n = min (length ws) 256} (omega arith)))
    ∙ some_places (λ (w : ℕ). names_in h a (item_of w)) ws 0 (min (length ws) 256) (omega arith)

-- ---- the walk along the items of one slot
pub record Walked (ws : List ℕ) (h : ℕ) (a : Association) (k : ℕ) : Type 0 where
  pub within : k ≤ min (length ws) 256
  pub walk : Walk (slot_at ws) (names_at ws h a) h (min (length ws) 256) k

only : (ws : List ℕ) (h : ℕ) (a : Association) (j : ℕ) → names_at ws h a j ≡ true → slot_at ws j ≡ h
only ws h a j e = eqb-true (slot_at ws j) h (and_left _ _ e)

module _ {ws head next : List ℕ} (g : Slotted ws head next) {h : ℕ} {a : Association} (b : h < 4096) where
  pub walked_first : Walked ws h a (get_or head h 0)
  walked_first = let w = walk_first g.chained b (only ws h a) in record { within = w.within; walk = w }

  module _ {k : ℕ} (w : Walked ws h a k) where
    pub walked_all : k ≤ 0 → some (names_in h a) (word_items ws) ≡ false
    walked_all z = by_places ws h a ∙ walk_all g.chained b (only ws h a) w.walk z

    module _ (p : 0 < k) {n : Bool} {i : Item} (q : n ≡ names i a) (r : i ≡ item_of (get_or ws (k - 1) 0)) where
      names_there : names_at ws h a (k - 1) ≡ n
      names_there = rw (eq-eqb (slot_at ws (k - 1)) h (walk_at g.chained b (only ws h a) w.walk p), q, r)

      pub walked_found : n ≡ true → some (names_in h a) (word_items ws) ≡ true
      walked_found e = by_places ws h a ∙ walk_found g.chained b (only ws h a) w.walk p (names_there ∙ e)

      pub walked_more : n ≡ false → Walked ws h a (get_or next (k - 1) 0)
      walked_more e = let m = walk_more g.chained b (only ws h a) w.walk p (names_there ∙ e) in record { within = m.within; walk = m }

    pub walked_less : 0 < k → get_or next (k - 1) 0 < k
    walked_less p = walk-less g.chained b (only ws h a) w.walk p
