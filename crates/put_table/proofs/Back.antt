-- A table in two parts, the rows before one and the rest: written back over a table that has the same rows before it.
use mathlib.Core.Path.{◌≡◌, refl, ap, sym, ◌∙◌}
use mathlib.Core.List.{List, [], ◌∷◌, ◌++◌, append_assoc}
use Prim.Native.Nat.{ℕ, min, ◌+◌, ◌-◌, ◌*◌, ◌≤◌}
use native.Mathlib.Omega.{arith}
use borrow.Author.Tests.{eq-eqb}
use lib.ListN.{length, length-append, take, drop, replicate, take-append-drop}
use lib.Seq.{take_at, drop_at, length-take-le}
use Rattle.octets.specs.Write.{number_octets}
use Rattle.octets.proofs.Back.{length_number}
use Rattle.table.specs.Table.{State}
use Rattle.lent.specs.Lent.{row_octets, rows_octets, table_octets}
use Rattle.lent.proofs.Rows.{length_octets_lem}
use Rattle.lent.proofs.Reading.{length_front, length_table}
use Rattle.put_table.specs.Out.{table_out}

rows_append : (l m : State) → rows_octets (l ++ m) ≡ rows_octets l ++ rows_octets m
unfolding rows_octets
rows_append [] m = refl
rows_append (a ∷ l) m = rw (rows_append l m) (sym (append_assoc (row_octets a) (rows_octets l) (rows_octets m)))

module _ (l : State) (k : ℕ) (h : k ≤ length l) where
  abbrev rest : List ℕ
  rest = rows_octets (drop k l) ++ replicate (3074 - (2 + 12 * length l)) 0

  in_parts : table_octets l ≡ number_octets 2 (length l) ++ (rows_octets (take k l) ++ rest)
  in_parts =
      let s : rows_octets l ≡ rows_octets (take k l) ++ rows_octets (drop k l) = ap rows_octets (sym (take-append-drop k l)) ∙ rows_append (take k l) (drop k l) in
      let z : List ℕ = replicate (3074 - (2 + 12 * length l)) 0 in
      rw (length_front l)
      (append_assoc (number_octets 2 (length l)) (rows_octets l) z
      ∙ ap (λ (x : List ℕ). number_octets 2 (length l) ++ x) (ap (◌++ z) s ∙ append_assoc (rows_octets (take k l)) (rows_octets (drop k l)) z))

  first_long : length (rows_octets (take k l)) ≡ 12 * k
  first_long = rw (length_octets_lem (take k l), length-take-le k l h)

  pub before_of : take (12 * k) (drop 2 (table_octets l)) ≡ rows_octets (take k l)
  before_of =
      ap (λ (x : List ℕ). take (12 * k) (drop 2 x)) in_parts
      ∙ ap (take (12 * k)) (drop_at (number_octets 2 (length l)) (rows_octets (take k l) ++ rest) 2 (length_number 2 (length l)))
      ∙ take_at (rows_octets (take k l)) rest (12 * k) first_long

  pub rest_of : drop (2 + 12 * k) (table_octets l) ≡ rest
  rest_of =
      let n : length (number_octets 2 (length l) ++ rows_octets (take k l)) ≡ 2 + 12 * k = rw (length-append, length_number, first_long) in
      ap (drop (2 + 12 * k)) (in_parts ∙ sym (append_assoc (number_octets 2 (length l)) (rows_octets (take k l)) rest))
      ∙ drop_at (number_octets 2 (length l) ++ rows_octets (take k l)) rest (2 + 12 * k) n

-- the rows before k are the same
pub written_back : (l m : State) (k : ℕ) → length m ≤ 256 → k ≤ length l → k ≤ length m → take k m ≡ take k l → table_out k l (table_octets m) ≡ table_octets l
written_back l m k b h j e =
    let r = eq-eqb (length (table_octets m)) 3074 (length_table m b) in
    let q : min k (length l) ≡ k = omega arith in
    rw (r, q)
    (ap (λ (x : List ℕ). number_octets 2 (length l) ++ (x ++ drop (2 + 12 * k) (table_octets l))) (before_of m k j ∙ ap rows_octets e)
    ∙ ap (λ (x : List ℕ). number_octets 2 (length l) ++ (rows_octets (take k l) ++ x)) (rest_of l k h)
    ∙ sym (in_parts l k h))
