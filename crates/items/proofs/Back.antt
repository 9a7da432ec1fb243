-- Reading what was written gives the value; an item, a list and a Reset Type end with what encloses them.
-- Assumes nothing.
use mathlib.Core.Path.{◌≡◌, refl, sym, ap}
use mathlib.Core.Bool.{Bool, true, false}
use mathlib.Core.List.{List, [], ◌∷◌, ◌++◌}
use Prim.Native.Nat.{ℕ, ◌+◌, ◌-◌, ◌<◌, ◌≤◌}
use native.Mathlib.Omega.{arith}
use lib.ListN.{length, take, length-append}
use Rattle.std.specs.Prelude.{Ok, None, Option, Some}
use Rattle.packed.specs.Packed.{◌bits◌, bit, packed, Fit}
use Rattle.octets.specs.Write.{number_octets, length_octets}
use Rattle.octets.specs.Stands.{Stands, Fills}
use Rattle.octets.proofs.Chain.{past}
use Rattle.octets.proofs.Stood.{stands_split, fills_front}
use Rattle.octets.proofs.Back.{length_number, number_back, same_back, flag_back, choice_back, plain_back, rest_back, open_back, ends_back}
use Rattle.octets.specs.Many.{each_octets}
use Rattle.octets.proofs.ManyLaws.{many_back}
use Rattle.identity.specs.Identity.{Numbering, mme_numbering, mce_numbering}
use Rattle.identity.specs.declared.Item.{Item}
use Rattle.item.specs.Item.{maybe_identity_at, behind, item_marks_at, item_at, item_element_at}
use Rattle.items.specs.Items.{items_at, ResetType, whole, part, reset_at}
use Rattle.items.specs.Written.{identity_in, mme_in, mce_in, is_there, maybe_octets, item_octets, item_element_octets, items_octets, reset_crit, reset_octets, GoodMaybe, GoodItem, GoodItems, GoodReset}

-- ---- an item

bit_width : (b : Bool) → (bit b).width ≡ 1
bit_width true = refl
bit_width false = refl

bits_fit : (m c : Bool) → Fit 8 (bit false ∷ bit m ∷ bit c ∷ bit false ∷ [])
bits_fit true true = (omega arith, omega arith, (omega arith, omega arith, (omega arith, omega arith, (omega arith, omega arith, tt))))
bits_fit true false = (omega arith, omega arith, (omega arith, omega arith, (omega arith, omega arith, (omega arith, omega arith, tt))))
bits_fit false true = (omega arith, omega arith, (omega arith, omega arith, (omega arith, omega arith, (omega arith, omega arith, tt))))
bits_fit false false = (omega arith, omega arith, (omega arith, omega arith, (omega arith, omega arith, (omega arith, omega arith, tt))))

marks_back : (s : List ℕ) (at : ℕ) (m c : Bool) → Stands s at (packed (bit false ∷ bit m ∷ bit c ∷ bit false ∷ []) ∷ []) → Ok (record { mme = m; mce = c }) ≡ item_marks_at s at
unfolding item_marks_at
marks_back s at m c h =
    let p = bit_width m in
    let q = bit_width c in
    past _ tt (plain_back s at [] (bit m ∷ bit c ∷ bit false ∷ []) (bits_fit m c) (omega arith) h)
    (past _ m (flag_back s at (bit false ∷ []) m (bit c ∷ bit false ∷ []) (bits_fit m c) (omega arith) h)
    (past _ c (rw p at (flag_back s at (bit false ∷ bit m ∷ []) c (bit false ∷ []) (bits_fit m c) (omega arith) h))
    (past _ tt (rw (p, q) at (plain_back s at (bit false ∷ bit m ∷ bit c ∷ []) [] (bits_fit m c) (omega arith) h))
    (past _ tt (rw (p, q) at (rest_back s at (bit false ∷ bit m ∷ bit c ∷ bit false ∷ []) (bits_fit m c) (omega arith) (omega arith) h)) refl))))

-- an identity is read where its number stands, of the one that the series makes of it
maybe_back : {I : Type 0} {numbered : ℕ → I} {number : I → ℕ} → Numbering numbered number → (s : List ℕ) (at : ℕ) (x : Option I) → GoodMaybe (identity_in number x)
    → Stands s at (maybe_octets (identity_in number x)) → Ok x ≡ maybe_identity_at numbered (is_there (identity_in number x)) s at
maybe_back {number = number} n s at (Some v) b h = past _ (number v) (number_back 2 s at (number v) b h) (ap (λ y. Ok (Some y)) (sym (n.again v)))
maybe_back n s at None b h = refl

-- the place behind a number, by its octets
pub behind_octets : (x : Option ℕ) (at : ℕ) → behind (is_there x) at ≡ at + length (maybe_octets x)
behind_octets (Some v) at = rw (length_number 2 v)
behind_octets None at = omega arith

pub item_back : (s : List ℕ) (at : ℕ) (i : Item) → GoodItem i → Fills s at (item_octets i) → Ok i ≡ item_at s at
unfolding item_octets item_at
item_back s at i g f =
    let x : Option ℕ = mme_in i.mme in
    let y : Option ℕ = mce_in i.mce in
    let a = stands_split (packed (bit false ∷ bit (is_there x) ∷ bit (is_there y) ∷ bit false ∷ []) ∷ []) (maybe_octets x ++ maybe_octets y) f.stands in
    let b = stands_split (maybe_octets x) (maybe_octets y) a.1 in
    let e = f.ends in
    let n = length-append (maybe_octets x) (maybe_octets y) in
    past _ _ (marks_back s at (is_there x) (is_there y) a.0)
    (past _ i.mme (maybe_back mme_numbering s (at + 1) i.mme g.0 b.0)
    (past _ i.mce (maybe_back mce_numbering s (behind (is_there x) (at + 1)) i.mce g.1 (rw (behind_octets x (at + 1)) b.1))
    (past _ tt (ends_back s (behind (is_there y) (behind (is_there x) (at + 1))) (rw (behind_octets x (at + 1), behind_octets y) (omega arith))) refl)))

-- ---- an item in its envelope, and a list

pub maybe_size : (x : Option ℕ) → length (maybe_octets x) ≤ 2
maybe_size (Some v) = rw (length_number 2 v) (omega arith)
maybe_size None = omega arith

-- an item has 1 to 5 octets
pub item_size : (i : Item) → (0 < length (item_octets i)) × (length (item_octets i) ≤ 5)
unfolding item_octets
item_size i =
    let x : Option ℕ = mme_in i.mme in
    let y : Option ℕ = mce_in i.mce in
    let n = length-append (maybe_octets x) (maybe_octets y) in
    let a = maybe_size x in
    let b = maybe_size y in
    (omega arith, omega arith)

pub item_element_back : (crit : ℕ) → crit < 3 → (s : List ℕ) (at : ℕ) (i : Item) → GoodItem i → Stands s at (item_element_octets crit i)
    → Ok (record { value = i; next = at + length (item_element_octets crit i) }) ≡ item_element_at s at
unfolding item_element_octets item_element_at
item_element_back crit c s at i g h =
    let vs : List ℕ = item_octets i in
    let ls : List ℕ = length_octets (length vs) in
    let a = stands_split (number_octets 2 14) (packed (2 bits crit ∷ []) ∷ (ls ++ vs)) h in
    let b : Stands s (at + 2) (packed (2 bits crit ∷ []) ∷ (ls ++ vs)) = rw (length_number 2 14) at a.1 in
    let d = stands_split (packed (2 bits crit ∷ []) ∷ []) (ls ++ vs) b in
    let k : at + 2 + 1 ≡ at + 3 = omega arith in
    let o : Stands s (at + 3) (ls ++ vs) = rw k at d.1 in
    let v = stands_split ls vs o in
    let fit : Fit 8 (2 bits crit ∷ []) = (omega arith, omega arith, tt) in
    let m = item_size i in
    let e : at + 3 + length ls + length vs ≡ at + length (number_octets 2 14 ++ (packed (2 bits crit ∷ []) ∷ (ls ++ vs))) =
    rw (length-append (number_octets 2 14) (packed (2 bits crit ∷ []) ∷ (ls ++ vs)), length_number 2 14, length-append ls vs) (omega arith) in
    past _ tt (same_back s at 14 (omega arith) a.0)
    (past _ crit (choice_back s (at + 2) [] (2 bits crit) [] fit (omega arith) d.0 3 c)
    (past _ tt (rest_back s (at + 2) (2 bits crit ∷ []) fit (omega arith) (omega arith) d.0)
    (past _ _ (open_back s (at + 3) vs m.0 (omega arith) o)
    (past _ i (item_back (take (at + 3 + length ls + length vs) s) (at + 3 + length ls) i g (fills_front v.1))
    (rw e)))))

pub items_back : (crit : ℕ) → crit < 3 → (s : List ℕ) (at : ℕ) (is : List Item) → GoodItems is → Fills s at (items_octets crit is) → Ok is ≡ items_at s at
unfolding items_octets items_at
items_back crit c s at is g f =
    let n : ℕ = length is - 1 in
    let p = g.0 in
    let b = g.1 in
    let a = stands_split (number_octets 1 (length is - 1)) (each_octets (item_element_octets crit) is) f.stands in
    let d : Stands s (at + 1) (each_octets (item_element_octets crit) is) = rw (length_number 1 (length is - 1)) at a.1 in
    let k : length is ≡ length is - 1 + 1 = omega arith in
    let e = f.ends in
    let l = length-append (number_octets 1 (length is - 1)) (each_octets (item_element_octets crit) is) in
    let m = length_number 1 (length is - 1) in
    past _ (length is - 1) (number_back 1 s at (length is - 1) (omega arith) a.0)
    (past _ _ (rw k at (many_back s (item_element_at s) (item_element_octets crit) GoodItem (item_element_back crit c s) is (at + 1) g.2 d))
    (past _ tt (ends_back s (at + 1 + length (each_octets (item_element_octets crit) is)) (omega arith)) refl))

pub reset_back : (s : List ℕ) (at : ℕ) (r : ResetType) → GoodReset r → Fills s at (reset_octets r) → Ok r ≡ reset_at s at
unfolding reset_octets reset_at
reset_back s at whole g f =
    let h = f.stands in
    let e = f.ends in
    let fit : Fit 8 (bit false ∷ bit false ∷ bit false ∷ []) = (omega arith, omega arith, (omega arith, omega arith, (omega arith, omega arith, tt))) in
    past _ tt (plain_back s at [] (bit false ∷ bit false ∷ []) fit (omega arith) h)
    (past _ false (flag_back s at (bit false ∷ []) false (bit false ∷ []) fit (omega arith) h)
    (past _ tt (plain_back s at (bit false ∷ bit false ∷ []) [] fit (omega arith) h)
    (past _ tt (rest_back s at (bit false ∷ bit false ∷ bit false ∷ []) fit (omega arith) (omega arith) h)
    (past _ tt (ends_back s (at + 1) (omega arith)) refl))))
reset_back s at (part is) g f =
    let a = stands_split (packed (bit false ∷ bit true ∷ []) ∷ []) (items_octets reset_crit is) f.stands in
    let e = f.ends in
    let fit : Fit 8 (bit false ∷ bit true ∷ []) = (omega arith, omega arith, (omega arith, omega arith, tt)) in
    past _ tt (plain_back s at [] (bit true ∷ []) fit (omega arith) a.0)
    (past _ true (flag_back s at (bit false ∷ []) true [] fit (omega arith) a.0)
    (past _ tt (rest_back s at (bit false ∷ bit true ∷ []) fit (omega arith) (omega arith) a.0)
    (past _ is (items_back reset_crit (omega arith) s (at + 1) is g (record { stands = a.1; ends = omega arith })) refl)))
