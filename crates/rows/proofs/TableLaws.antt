-- Finding an id in any table, row after row.
--     row_here   the row at k has the id: it is found there; row_kind  and read as that row says
--     row_past   it has not: on with the next row
--     ended      no row is left; unread  what is not found is not read
-- Assumes nothing.
use mathlib.Core.Path.{◌≡◌, ◌∙◌, refl, sym, ap}
use mathlib.Core.List.{List, [], ◌∷◌}
use Prim.Native.Nat.{ℕ, zero, suc, ◌+◌, ◌<◌, ◌≤◌}
use native.Mathlib.Numerals.{add-one}
use native.Mathlib.Omega.{arith}
use borrow.Author.Tests.{eq-eqb, ne_eqb}
use lib.ListN.{length, get_or, drop, drop_of_length-le}
use lib.Seq.{drop-cons}
use Rattle.rows.specs.declared.Kind.TheVariants.{Carried}
use Rattle.rows.specs.declared.Row.{Row}
use Rattle.rows.specs.Table.{find, no_row, kind_of}

head : (r : Row) (rs : List Row) (id : ℕ) → r.id ≡ id → find id (r ∷ rs) ≡ 0
unfolding find
head r rs id e = simp (eq-eqb _ _ e)

tail : (r : Row) (rs : List Row) (id : ℕ) → (r.id ≡ id → ⊥) → find id (r ∷ rs) ≡ suc (find id rs)
unfolding find
tail r rs id e = simp (ne_eqb _ _ e)

empty : (id : ℕ) → find id [] ≡ 0
unfolding find
empty id = refl

module _ (t : List Row) (id k : ℕ) where
  here : k < length t → (get_or t k no_row).id ≡ id → k + find id (drop k t) ≡ find id t → find id t ≡ k
  here h e i = let q : find id (drop k t) ≡ 0 = ap (find id) (drop-cons t k no_row h) ∙ head _ _ id e in omega arith

  past : k < length t → ((get_or t k no_row).id ≡ id → ⊥) → k + find id (drop k t) ≡ find id t → k + 1 + find id (drop (k + 1) t) ≡ find id t
  past h e i =
      let q : find id (drop k t) ≡ suc (find id (drop (suc k) t)) = ap (find id) (drop-cons t k no_row h) ∙ tail _ _ id e in
      rw add-one (omega arith)

  pub ended : length t ≤ k → k + find id (drop k t) ≡ find id t → find id t ≡ k
  ended h i = let q : find id (drop k t) ≡ 0 = ap (find id) (drop_of_length-le t h) ∙ empty id in omega arith

module _ (t : List Row) (id k : ℕ) (h : k < length t) (i : k + find id (drop k t) ≡ find id t) where
  pub row_here : (get_or t k no_row).id ≡ id → find id t ≡ k
  row_here e = here t id k h e i

  pub row_past : ((get_or t k no_row).id ≡ id → ⊥) → k + 1 + find id (drop (k + 1) t) ≡ find id t
  row_past e = past t id k h e i

  -- what is found is read as its row says
  pub row_kind : (get_or t k no_row).id ≡ id → (get_or t k no_row).kind ≡ kind_of t id
  row_kind e = ap (λ (j : ℕ). (get_or t j no_row).kind) (sym (row_here e))

no_row_lem : (t : List Row) (k : ℕ) → length t ≤ k → get_or t k no_row ≡ no_row
no_row_lem [] k h = refl
no_row_lem (r ∷ t) zero h = absurd (omega arith)
no_row_lem (r ∷ t) (suc k) h = no_row_lem t k (omega arith)

-- what is not found is not read
pub unread : (t : List Row) (id : ℕ) → length t ≤ find id t → Carried ≡ kind_of t id
unread t id h = ap (λ (r : Row). r.kind) (sym (no_row_lem t (find id t) h))
