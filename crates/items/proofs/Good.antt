-- What was read is a value that has octets.
-- Assumes nothing.
use Rattle.identity.specs.declared.MceId.{MceId}
use Rattle.identity.specs.declared.MmeId.{MmeId}
use mathlib.Core.Path.{◌≡◌, sym, subst}
use mathlib.Core.Bool.{Bool, true, false}
use mathlib.Core.List.{List}
use Prim.Native.Nat.{ℕ, ◌+◌, ◌^◌, ◌<◌}
use native.Mathlib.Omega.{arith}
use lib.ListN.{take}
use Rattle.std.specs.Prelude.{Ok, Option}
use Rattle.octets.specs.Read.{Read}
use Rattle.octets.specs.Field.{flag_at, plain_at, choice_at, pad_at, number_at, same_at, open_at, ends_at}
use Rattle.octets.specs.Many.{many}
use Rattle.octets.specs.declared.Part.{Part}
use Rattle.octets.specs.Stands.{Octets}
use Rattle.octets.specs.declared.Span.{Span}
use Rattle.octets.proofs.Chain.{then_got, same_got}
use Rattle.octets.proofs.Got.{number_got}
use Rattle.octets.proofs.Stood.{octets_front}
use Rattle.octets.proofs.Again.{value_below}
use Rattle.octets.proofs.ManyLaws.{many_each}
use Rattle.identity.specs.Identity.{Numbering, mme_numbering, mce_numbering}
use Rattle.identity.specs.declared.Item.{Item}
use Rattle.item.specs.Item.{maybe_identity_at, maybe_mme_at, maybe_mce_at, behind, item_marks_at, item_at, item_element_at}
use Rattle.items.specs.Items.{items_at, ResetType, chosen_reset_at, reset_at}
use Rattle.items.specs.Written.{identity_in, mme_in, mce_in, GoodMaybe, GoodItem, GoodItems, GoodReset}

pub number_good : (k : ℕ) (s : List ℕ) (at : ℕ) {v : ℕ} → Octets s → Ok v ≡ number_at k s at → v < 256 ^ k
number_good k s at o q = rw (number_got s at k q).1 (value_below k s at o)

maybe_good_lem : {I : Type 0} {numbered : ℕ → I} {number : I → ℕ} → Numbering numbered number → (s : List ℕ) (at : ℕ) → Octets s → (t : Bool) {x : Option I}
    → Ok x ≡ maybe_identity_at numbered t s at → GoodMaybe (identity_in number x)
maybe_good_lem {I} {number = number} n s at o false q = subst (λ (x : Option I). GoodMaybe (identity_in number x)) (sym (same_got q)) tt
maybe_good_lem {I} {number = number} n s at o true q =
    let a = then_got (number_at 2 s at) _ q in
    subst (λ (x : Option I). GoodMaybe (identity_in number x)) (sym (same_got a.2)) (rw (n.back a.0) (number_good 2 s at o a.1))

pub item_good : (s : List ℕ) (at : ℕ) → Octets s → {i : Item} → Ok i ≡ item_at s at → GoodItem i
unfolding item_at
item_good s at o {i} q =
    let a = then_got (item_marks_at s at) _ q in
    let b = then_got (maybe_mme_at a.0.mme s (at + 1)) _ a.2 in
    let c = then_got (maybe_mce_at a.0.mce s (behind a.0.mme (at + 1))) _ b.2 in
    let d = then_got (ends_at s (behind a.0.mce (behind a.0.mme (at + 1)))) _ c.2 in
    good b.0 c.0 (maybe_good_lem mme_numbering s _ o a.0.mme b.1) (maybe_good_lem mce_numbering s _ o a.0.mce c.1) d.2
  where
    good : (x : Option MmeId) (y : Option MceId) → GoodMaybe (mme_in x) → GoodMaybe (mce_in y) → ◌≡◌ {A = Read Item} (Ok i) (Ok (record { mme = x; mce = y })) → GoodItem i
    good x y g h q = subst GoodItem (sym (same_got q)) (g, h)

element_good_lem : (s : List ℕ) → Octets s → (at : ℕ) (p : Part Item) → Ok p ≡ item_element_at s at → GoodItem p.value
unfolding item_element_at
element_good_lem s o at p q =
    let a = then_got (same_at 14 s at) _ q in
    let b = then_got (choice_at 3 2 s (at + 2) 0) _ a.2 in
    let c = then_got (pad_at s (at + 2) 2) _ b.2 in
    let d = then_got (open_at s (at + 3)) _ c.2 in
    let e = then_got (item_at (take d.0.to s) d.0.from) _ d.2 in
    good d.0 e.0 e.1 e.2
  where
    good : (v : Span) (i : Item) → Ok i ≡ item_at (take v.to s) v.from → ◌≡◌ {A = Read (Part Item)} (Ok p) (Ok (record { value = i; next = v.to })) → GoodItem p.value
    good v i h q = subst (λ (x : Part Item). GoodItem x.value) (sym (same_got q)) (item_good (take v.to s) v.from (octets_front s v.to o) h)

pub items_good : (s : List ℕ) (at : ℕ) → Octets s → {is : List Item} → Ok is ≡ items_at s at → GoodItems is
unfolding items_at
items_good s at o q =
    let a = then_got (number_at 1 s at) _ q in
    let b = then_got (many (item_element_at s) (a.0 + 1) (at + 1)) _ a.2 in
    let c = then_got (ends_at s b.0.next) _ b.2 in
    let n = number_good 1 s at o a.1 in
    let e = many_each (item_element_at s) GoodItem (element_good_lem s o) (a.0 + 1) (at + 1) b.0 b.1 in
    let l = e.0 in
    subst GoodItems (sym (same_got c.2)) (omega arith, omega arith, e.1)

pub reset_good_lem : (s : List ℕ) (at : ℕ) → Octets s → {r : ResetType} → Ok r ≡ reset_at s at → GoodReset r
unfolding reset_at
reset_good_lem s at o {r} q =
    let a = then_got (plain_at s at 0) _ q in
    let b = then_got (flag_at s at 1) _ a.2 in
    by b.0 b.2
  where
    by : (p : Bool) → Ok r ≡ chosen_reset_at p s at → GoodReset r
    by false q =
        let a = then_got (plain_at s at 2) _ q in
        let b = then_got (pad_at s at 3) _ a.2 in
        let c = then_got (ends_at s (at + 1)) _ b.2 in
        subst GoodReset (sym (same_got c.2)) tt
    by true q =
        let a = then_got (pad_at s at 2) _ q in
        let b = then_got (items_at s (at + 1)) _ a.2 in
        subst GoodReset (sym (same_got b.2)) (items_good s (at + 1) o b.1)
