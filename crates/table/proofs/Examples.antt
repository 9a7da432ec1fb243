-- Worked examples of the rules, computed.
use Rattle.std.specs.Prelude.{None, Some}
use mathlib.Core.Path.{◌≡◌, refl}
use mathlib.Core.Bool.{true, false}
use mathlib.Core.List.{List, [], ◌∷◌, map}
use Prim.Native.Nat.{ℕ}
use Rattle.identity.specs.Items.{empty_item}
use Rattle.identity.specs.declared.MmeId.{MmeId}
use Rattle.identity.specs.declared.MceId.{MceId}
use Rattle.identity.specs.declared.Item.{Item}
use Rattle.table.specs.Table.{State, empty_association, named, without, full, starting, stopping, distinct_held}
use Rattle.table.specs.declared.Association.{Association}

abbrev m : ℕ → MmeId
m x = record { 0 = x }

abbrev c : ℕ → MceId
c y = record { 0 = y }

abbrev both : ℕ → ℕ → Item
both x y = record { mme = Some (m x); mce = Some (c y) }

abbrev mme_only : ℕ → Item
mme_only x = record { mme = Some (m x); mce = None }

abbrev mce_only : ℕ → Item
mce_only y = record { mme = None; mce = Some (c y) }

abbrev association : ℕ × ℕ → Association
association p = record { mme = m p.0; mce = c p.1; tmgi = empty_association.tmgi; session = empty_association.session }

-- the associations with these pairs of identities, and back
abbrev having : List (ℕ × ℕ) → State
having ps = map association ps

abbrev pairs : State → List (ℕ × ℕ)
pairs l = map (λ (a : Association). (a.mme.0, a.mce.0)) l

-- items, and what they leave of (1, 3), (2, 1), (5, 5)
abbrev items : List (List Item × List (ℕ × ℕ))
items =
    (both 1 2 ∷ [], (1, 3) ∷ (2, 1) ∷ (5, 5) ∷ [])
    ∷ (both 1 3 ∷ [], (2, 1) ∷ (5, 5) ∷ [])
    ∷ (mme_only 1 ∷ [], (2, 1) ∷ (5, 5) ∷ [])
    ∷ (mce_only 1 ∷ [], (1, 3) ∷ (5, 5) ∷ [])
    ∷ (mce_only 2 ∷ [], (1, 3) ∷ (2, 1) ∷ (5, 5) ∷ [])
    ∷ (mme_only 257 ∷ [], (1, 3) ∷ (2, 1) ∷ (5, 5) ∷ [])
    ∷ (empty_item ∷ [], (1, 3) ∷ (2, 1) ∷ (5, 5) ∷ [])
    ∷ (both 1 1 ∷ mce_only 5 ∷ both 1 3 ∷ [], (2, 1) ∷ [])
    ∷ []

pub left : map (λ (e : List Item × List (ℕ × ℕ)). pairs (without e.0 (having ((1, 3) ∷ (2, 1) ∷ (5, 5) ∷ [])))) items ≡ map (λ (e : List Item × List (ℕ × ℕ)). e.1) items
unfolding without named
left = refl

-- a start stands last; a stop takes the pair, and only the pair
pub started : pairs (starting (association (1, 9)) (having ((7, 3) ∷ []))) ≡ ((7, 3) ∷ (1, 9) ∷ [])
unfolding starting full
started = refl

pub stopped : map (λ (p : ℕ × ℕ). pairs (stopping (m p.0) (c p.1) (having ((1, 3) ∷ (2, 1) ∷ [])))) ((1, 3) ∷ (1, 1) ∷ []) ≡ (((2, 1) ∷ []) ∷ ((1, 3) ∷ (2, 1) ∷ []) ∷ [])
unfolding stopping
stopped = refl

-- equal figures of two series share nothing; of one series they do
pub shared : map (λ (ps : List (ℕ × ℕ)). distinct_held (having ps)) (((1, 2) ∷ (2, 1) ∷ []) ∷ ((1, 2) ∷ (1, 3) ∷ []) ∷ ((1, 2) ∷ (3, 2) ∷ []) ∷ []) ≡ (true ∷ false ∷ false ∷ [])
unfolding distinct_held
shared = refl
