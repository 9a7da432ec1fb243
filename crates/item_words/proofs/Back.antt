-- The item that an item's word says is the item, for identities of two octets; so for the items of a list. The word 0 is of the item without an identity, and of no other.
-- Assumes nothing.
use Rattle.std.specs.Prelude.{None, Option, Some}
use Rattle.identity.specs.declared.MceId.{MceId}
use Rattle.identity.specs.declared.MmeId.{MmeId}
use mathlib.Core.Path.{◌≡◌, refl}
use Prim.Native.Nat.{ℕ, ◌+◌, ◌-◌, ◌*◌, ◌/◌, ◌%◌, ◌<◌}
use native.Mathlib.Omega.{arith}
use borrow.Author.Tests.{ne_eqb}
use Rattle.identity.specs.Identity.{Numbering, mme_numbering, mce_numbering}
use Rattle.identity.specs.declared.Item.{Item}
use mathlib.Core.List.{List, [], ◌∷◌, map}
use Rattle.octets.specs.Many.{Each}
use Rattle.identity.specs.Items.{empty_item}
use Rattle.items.specs.Written.{identity_in, GoodMaybe, GoodItem}
use Rattle.item_words.specs.Words.{identity_number, mme_number, mce_number, word_of, identity_by, item_of}

identity_back : {I : Type 0} {numbered : ℕ → I} {number : I → ℕ} → Numbering numbered number → (x : Option I) → GoodMaybe (identity_in number x)
    → (identity_number number x < 65537) × (identity_by numbered (identity_number number x) ≡ x)
identity_back {number = number} n (Some v) g =
    let e : number v + 1 - 1 ≡ number v = omega arith in
    let f : number v % 65536 ≡ number v = omega (arith, g) in
    (omega (arith, g), rw (ne_eqb (number v + 1) 0 (λ z. omega arith), e, f, n.again v))
identity_back n None g = (omega arith, refl)

pub item_back : (i : Item) → GoodItem i → item_of (word_of i) ≡ i
item_back i g =
    let a = identity_back mme_numbering i.mme g.0 in
    let b = identity_back mce_numbering i.mce g.1 in
    let e : (mme_number i.mme + mce_number i.mce * 4294967296) % 4294967296 ≡ mme_number i.mme = omega (arith, a.0) in
    let f : (mme_number i.mme + mce_number i.mce * 4294967296) / 4294967296 ≡ mce_number i.mce = omega (arith, a.0) in
    rw (e, f, a.1, b.1)

pub items_back : (is : List Item) → Each GoodItem is → map item_of (map word_of is) ≡ is
items_back [] g = refl
items_back (i ∷ is) g = rw (item_back i g.0, items_back is g.1)

pub zero_word : item_of 0 ≡ empty_item
zero_word = refl

pub word_zero : (i : Item) → word_of i ≡ 0 → i ≡ empty_item
word_zero i e = by i.mme i.mce e
  where
    by : (m : Option MmeId) (c : Option MceId) → mme_number m + mce_number c * 4294967296 ≡ 0 → record { mme = m; mce = c } ≡ empty_item
    by None None e = refl
    by None (Some v) e = absurd (omega arith)
    by (Some v) c e = absurd (omega arith)
