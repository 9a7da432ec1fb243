-- Rows written one by one from a row on, and zeros behind them.
use Rattle.std.specs.Option.{is_some, unwrap_or}
use Rattle.std.specs.Prelude.{None, Option, Some}
use mir.Val.{bool_byte}
use mathlib.Core.Path.{◌≡◌, refl, ap, sym, ◌∙◌}
use mathlib.Core.List.{List, [], ◌∷◌, ◌++◌, append_assoc, append-nil}
use Prim.Native.Nat.{ℕ, min, ◌+◌, ◌-◌, ◌*◌, ◌/◌, ◌%◌, ◌≤◌, ◌<◌}
use native.Mathlib.Omega.{arith}
use lib.ListN.{length, length-append, length-drop, length-replicate, take, drop, get_or, replicate, drop_of_length-le}
use lib.Seq.{sets, sets-eq, length-sets, take-add, take_at, drop_at, drop-drop, drop-append-le, length-take-le}
use Rattle.lists.proofs.Slices.{take_next, take_within}
use Rattle.octets.specs.Write.{number_octets, Wrote}
use Rattle.octets.proofs.Back.{length_number}
use Rattle.octets.proofs.Writing.{number_two, sets_front, wrote_length, wrote_then, wrote_none}
use Rattle.table.specs.Table.{State, held}
use Rattle.table.specs.declared.Association.{Association}
use Rattle.table.specs.declared.Table.{Table}
use Rattle.lent.specs.Lent.{flag_of, session_octet, row_octets, rows_octets, table_octets}
use Rattle.lent.proofs.Rows.{length_octets_lem, octets_more}
use Rattle.put_table.specs.Out.{from_row}
use Rattle.put_table.proofs.Back.{rest_of}

-- ---- the octets of a row, as they are copied in
flag_is : (s : Option ℕ) → bool_byte (is_some s) ≡ flag_of s
flag_is (Some v) = refl
flag_is None = refl

octet_is : (s : Option ℕ) → unwrap_or s 0 ≡ session_octet s
octet_is (Some v) = refl
octet_is None = refl

pub row_put : (a : Association) → a.mme.0 < 65536 → a.mce.0 < 65536 →
    (a.mme.0 / 256 % 256) ∷ (a.mme.0 % 256) ∷ (a.mce.0 / 256 % 256) ∷ (a.mce.0 % 256)
    ∷ a.tmgi.plmn.0 ∷ a.tmgi.plmn.1 ∷ a.tmgi.plmn.2 ∷ a.tmgi.service.0 ∷ a.tmgi.service.1 ∷ a.tmgi.service.2
    ∷ bool_byte (is_some a.session) ∷ unwrap_or a.session 0 ∷ [] ≡ row_octets a
row_put a h k =
    let p : a.mme.0 / 256 % 256 ≡ a.mme.0 / 256 = omega arith in
    let q : a.mce.0 / 256 % 256 ≡ a.mce.0 / 256 = omega arith in
    rw (number_two a.mme.0 h, number_two a.mce.0 k, p, q, flag_is, octet_is)

-- ---- a part of 12, lent and come back
pub part_long : (d : List ℕ) (at : ℕ) → at + 12 ≤ length d → length (take (at + 12 - at) (drop at d)) ≡ 12
part_long d at h = let k : at + 12 - at ≡ 12 = omega arith in rw k (length-take-le 12 (drop at d) (simp length-drop (omega arith)))

part_wrote : (d : List ℕ) (at : ℕ) (ys : List ℕ) → length ys ≡ 12 → at + 12 ≤ length d → Wrote d at ys (take at d ++ (ys ++ drop (at + 12 - at) (drop at d))) (at + 12)
part_wrote d at ys e h =
    let k : at + 12 - at ≡ 12 = omega arith in
    record {
      octets = rw (k, drop-drop 12 at d) (sym (sets-eq ys d at (omega arith) ∙ rw (e, append_assoc)));
      next = omega arith;
    }

-- ---- the loop: of n rows those from k up to i are written, over d₀
pub record WrittenTo (l : State) (k : ℕ) (d₀ d : List ℕ) (n i at : ℕ) : Type 0 where
  pub begun : k ≤ i
  pub within : i ≤ n
  pub place : at ≡ 2 + 12 * i
  pub long : length d ≡ 3074
  pub wrote : Wrote d₀ (2 + 12 * k) (rows_octets (drop k (take i l))) d at

pub written_none : (l : State) (k : ℕ) (d : List ℕ) (n : ℕ) → k ≤ n → n ≤ 256 → n ≤ length l → length d ≡ 3074 → WrittenTo l k d d n k (2 + 12 * k)
unfolding rows_octets
written_none l k d n h b c w =
    let e : drop k (take k l) ≡ [] = drop_of_length-le (take k l) {i = k} (rw (length-take-le k l (omega arith)) (omega arith)) in
    record { begun = omega arith; within = h; place = refl; long = w; wrote = rw e (wrote_none d (2 + 12 * k) (omega arith)) }

module _ {l : State} {k : ℕ} {d₀ d : List ℕ} {n i at : ℕ} (g : WrittenTo l k d₀ d n i at) where
  pub written_more : (z : Association) {ys : List ℕ} → i < n → n ≤ 256 → n ≤ length l → ys ≡ row_octets (get_or l i z) →
      WrittenTo l k d₀ (take at d ++ (ys ++ drop (at + 12 - at) (drop at d))) n (i + 1) (2 + 12 * (i + 1))
  unfolding number_octets
  written_more z {ys} h b c e =
      let j : 2 + 12 * (i + 1) ≡ at + 12 = omega (arith, g.place) in
      let p = g.place in
      let w = g.long in
      let v : length ys ≡ 12 = rw e in
      let x = part_wrote d at ys v (omega arith) in
      let f : k ≤ length (take i l) = rw (length-take-le i l (omega arith)) g.begun in
      let q : rows_octets (drop k (take (i + 1) l)) ≡ rows_octets (drop k (take i l)) ++ ys =
      rw (take_next l i z (omega arith), drop-append-le k (take i l) (get_or l i z ∷ []) f, e) (octets_more (drop k (take i l)) (get_or l i z)) in
      record { begun = omega (arith, g.begun); within = omega arith; place = refl; long = wrote_length x ∙ w; wrote = rw (j, q) (wrote_then g.wrote x) }

-- the count stands in the first two octets
pub count_wrote : (n : ℕ) {d d₀ : List ℕ} {r : ℕ} → length d ≡ 3074 → Wrote d 0 (number_octets 2 n) d₀ r → length d₀ ≡ 3074
count_wrote n w x = wrote_length x ∙ w

-- the count, and all from row k on
module _ (d vs : List ℕ) (n k : ℕ) (w : length d ≡ 3074) (e : 2 + 12 * k + length vs ≡ 3074) where
  counted : sets d 0 (number_octets 2 n) ≡ number_octets 2 n ++ drop 2 d
  counted = let l = length_number 2 n in sets_front d (number_octets 2 n) (omega arith) ∙ ap (λ (x : ℕ). number_octets 2 n ++ drop x d) l

  rest_put : sets (sets d 0 (number_octets 2 n)) (2 + 12 * k) vs ≡ number_octets 2 n ++ (take (12 * k) (drop 2 d) ++ vs)
  rest_put =
      let l : length (sets d 0 (number_octets 2 n)) ≡ 3074 = length-sets d 0 (number_octets 2 n) ∙ w in
      let t : take (2 + 12 * k) (sets d 0 (number_octets 2 n)) ≡ number_octets 2 n ++ take (12 * k) (drop 2 d) =
      ap (take (2 + 12 * k)) counted ∙ take-add 2 (12 * k) (number_octets 2 n ++ drop 2 d)
      ∙ rw (take_at (number_octets 2 n) (drop 2 d) 2 (length_number 2 n), drop_at (number_octets 2 n) (drop 2 d) 2 (length_number 2 n)) in
      sets-eq vs (sets d 0 (number_octets 2 n)) (2 + 12 * k) (omega arith)
      ∙ rw (drop_of_length-le (sets d 0 (number_octets 2 n)) {i = 2 + 12 * k + length vs} (omega arith), append-nil, t) (append_assoc (number_octets 2 n) (take (12 * k) (drop 2 d)) vs)

pub written_all : {l : State} {n k i at from to : ℕ} {d d₀ d₁ d₂ : List ℕ} → length d ≡ 3074 → n ≤ 256 → n ≤ length l →
    Wrote d 0 (number_octets 2 n) d₀ from → WrittenTo l k d₀ d₁ n i at → n ≤ i → Wrote d₁ (2 + 12 * n) (replicate (3074 - (2 + 12 * n)) 0) d₂ to → d₂ ≡ from_row k (take n l) d
written_all {l} {n} {k} {i} {at} {from} {to} {d} {d₀} {d₁} {d₂} w b c a g h z =
    let e : i ≡ n = omega (arith, g.within) in
    let f : 2 + 12 * n ≡ at = omega (arith, g.place) in
    let m : length (take n l) ≡ n = length-take-le n l c in
    let q : k ≤ length (take n l) = rw m (omega (arith, g.begun)) in
    let p : 3074 - at ≡ 3074 - (2 + 12 * length (take n l)) = rw m (omega (arith, g.place)) in
    let vs : List ℕ = rows_octets (drop k (take n l)) ++ replicate (3074 - at) 0 in
    let x : Wrote d₀ (2 + 12 * k) vs d₂ to = wrote_then (rw e at g.wrote) (rw f at z) in
    let v : 2 + 12 * k + length vs ≡ 3074 = rw (length-append, length_octets_lem (drop k (take n l)), length-drop, m, length-replicate) (omega (arith, g.place)) in
    let y : vs ≡ drop (2 + 12 * k) (table_octets (take n l)) = rw p (sym (rest_of (take n l) k q)) in
    x.octets ∙ ap (λ (s : List ℕ). sets s (2 + 12 * k) vs) a.octets ∙ rest_put d vs n k w v
    ∙ ap (λ (s : List ℕ). number_octets 2 n ++ (take (12 * k) (drop 2 d) ++ s)) y
    ∙ ap (λ (j : ℕ). number_octets 2 j ++ (take (12 * k) (drop 2 d) ++ drop (2 + 12 * k) (table_octets (take n l)))) (sym m)

-- these are the rows held, and k is no row behind them
pub held_from : (t : Table) {n k : ℕ} (from : ℕ) (d : List ℕ) → length t.rows ≡ 256 → n ≡ min t.count 256 → k ≡ min from n →
    from_row k (take n t.rows) d ≡ from_row (min from (length (held t))) (held t) d
held_from t {n} {k} from d b e q =
    let m : length (take n t.rows) ≡ n = length-take-le n t.rows (omega arith) in
    let p : k ≡ min from (length (take n t.rows)) = rw m q in
    ap (λ (j : ℕ). from_row j (take n t.rows) d) p ∙ ap (λ (l : State). from_row (min from (length l)) l d) (take_within t.rows t.count 256 b e)
