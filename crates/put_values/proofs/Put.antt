-- Octets put together, and the sizes of lists of items.
-- Assumes nothing.
use mathlib.Core.Path.{◌≡◌, ◌∙◌, ap}
use mathlib.Core.Bool.{false}
use mathlib.Core.List.{List, [], ◌∷◌, ◌++◌}
use Prim.Native.Nat.{ℕ, ◌+◌, ◌*◌, ◌-◌, ◌^◌, ◌<◌, ◌≤◌}
use native.Mathlib.Omega.{arith}
use lib.Bits.{bit_or}
use lib.ListN.{length, take, length-take, length-append}
use Rattle.packed.specs.Packed.{◌bits◌, bit, packed, packed_in, placed}
use Rattle.octets.specs.Write.{number_octets, length_octets}
use Rattle.packed.proofs.Packed.{together}
use Rattle.octets.proofs.Back.{length_number}
use Rattle.octets.proofs.Writing.{length_short}
use Rattle.octets.specs.Many.{each_octets}
use Rattle.identity.specs.declared.Item.{Item}
use Rattle.items.specs.Written.{item_octets, item_element_octets, items_octets}
use Rattle.items.proofs.Back.{item_size}

pub cause_together : (g w v : ℕ) → g < 8 → w ≤ 3 → v < 2 ^ w
    → bit_or (bit_or (bit_or 0 (placed 1 3 g)) (placed 4 1 0)) (placed 5 w v) ≡ packed (bit false ∷ 3 bits g ∷ bit false ∷ w bits v ∷ [])
unfolding packed_in
cause_together g w v a b c =
    ap (λ (x : ℕ). bit_or x (placed 5 w v))
    (ap (λ (x : ℕ). bit_or x (placed 4 1 0)) (together (bit false ∷ []) 3 g (omega arith) (omega arith) a) ∙ together (bit false ∷ 3 bits g ∷ []) 1 0 (omega arith) (omega arith) (omega arith))
    ∙ together (bit false ∷ 3 bits g ∷ bit false ∷ []) w v (omega arith) (omega arith) c

pub wait_together : (v : ℕ) → v < 8 → bit_or 0 (placed 1 3 v) ≡ packed (bit false ∷ 3 bits v ∷ [])
unfolding packed_in
wait_together v h = together (bit false ∷ []) 3 v (omega arith) (omega arith) h

-- an envelope has four octets around its item
pub element_size_lem : (crit : ℕ) (i : Item) → length (item_element_octets crit i) ≡ 4 + length (item_octets i)
unfolding item_element_octets
element_size_lem crit i =
    let s = item_size i in
    let l : length_octets (length (item_octets i)) ≡ length (item_octets i) ∷ [] = length_short (length (item_octets i)) (omega arith) in
    rw (length-append (number_octets 2 14) (packed (2 bits crit ∷ []) ∷ (length_octets (length (item_octets i)) ++ item_octets i)), length_number 2 14, l) (omega arith)

-- the size of a list up to i, of whatever criticality
abbrev pub Sized : List Item → ℕ → ℕ → Type 0
Sized rows i size = (crit : ℕ) → size ≡ 1 + length (each_octets (item_element_octets crit) (take i rows))

each_small : (crit : ℕ) (is : List Item) → length (each_octets (item_element_octets crit) is) ≤ 9 * length is
each_small crit [] = omega arith
each_small crit (i ∷ is) =
    let a = element_size_lem crit i in
    let b = (item_size i).1 in
    let c = each_small crit is in
    rw (length-append (item_element_octets crit i) (each_octets (item_element_octets crit) is)) (omega arith)

pub list_small : (crit : ℕ) (rows : List Item) (count : ℕ) → length rows ≡ 256 → length (items_octets crit (take count rows)) ≤ 2305
unfolding items_octets
list_small crit rows count l =
    let is : List Item = take count rows in
    let a = length-append (number_octets 1 (length is - 1)) (each_octets (item_element_octets crit) is) in
    let b = length_number 1 (length is - 1) in
    let c = each_small crit is in
    let d = length-take count rows in
    omega arith
