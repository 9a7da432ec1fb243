-- A table that holds others instead: one more behind its rows, or a filter in place.
use mathlib.Core.Path.{◌≡◌, refl, ap, sym, ◌∙◌}
use mathlib.Core.Bool.{Bool, true, false}
use mathlib.Core.List.{[], ◌∷◌, ◌++◌, append_assoc, append-nil}
use Prim.Native.Nat.{ℕ, min, ◌+◌, ◌-◌, ◌≤◌, ◌<◌}
use native.Mathlib.Numerals.{add-one}
use native.Mathlib.Omega.{arith}
use borrow.Author.Tests.{leb-true, leb-false}
use lib.Dec.{leb}
use lib.ListN.{length, length-append, length-take, length-replicate, take, drop, get_or, set, replicate, replicate-append-replicate, drop_of_length-le}
use lib.Seq.{take_all, drop-cons, drop_at, drop-drop, drop-append-le, drop-append_seam, drop-append-add, set_at, set_split, set-append_left, get_or-append-add}
use Rattle.lists.specs.Lists.{pick, keep, fill}
use Rattle.lists.proofs.Keep.{keep_append}
use Rattle.lists.proofs.Slices.{take_next, take_within, drop_replicate}
use Rattle.lists.proofs.Fill.{length_fill, fill_more}
use Rattle.table.specs.Table.{State, unheld, held, table_holding, vacated, holding, starting}
use Rattle.table.specs.declared.Association.{Association}
use Rattle.table.specs.declared.Table.{Table}
use Rattle.table.proofs.Rows.{held_of}
use Rattle.table.proofs.Rules.{appended, not_appended}

-- ---- the table of a state, holding another
pub holding_of : (l m : State) → length m ≤ 256 → holding l (table_holding m) ≡ table_holding l
unfolding holding
holding_of l m h =
    let e : length m + (256 - length m) ≡ 256 = omega arith in
    let v : vacated (table_holding m) ≡ replicate 256 unheld =
    rw (held_of m, drop-append_seam m (replicate (256 - length m) unheld), replicate-append-replicate (length m) (256 - length m) unheld, e) in
    rw (v, drop_replicate (length l) 256 unheld)

holding_is : (t : Table) (l : State) {out : State} {k : ℕ} → out ≡ l ++ drop (length l) (vacated t) → k ≡ length l → record { rows = out; count = k } ≡ holding l t
unfolding holding
holding_is t l p q = λ j. record { rows = p j; count = q j }

module _ (t : Table) (b : length t.rows ≡ 256) {n : ℕ} (e : n ≡ min t.count 256) where
  -- the first n rows are those held, and the others stand behind them
  held_long : length (held t) ≡ n
  held_long = rw (length-take, b, e)

  behind : drop t.count t.rows ≡ drop n t.rows
  behind = by (leb t.count 256) refl
    where
      by : (x : Bool) → leb t.count 256 ≡ x → drop t.count t.rows ≡ drop n t.rows
      by true x = let h = leb-true t.count 256 x in let q : t.count ≡ n = omega arith in rw q
      by false x = let h = leb-false t.count 256 x in drop_of_length-le t.rows {i = t.count} (omega arith) ∙ sym (drop_of_length-le t.rows {i = n} (omega arith))

  vacant : vacated t ≡ replicate n unheld ++ drop n t.rows
  vacant = rw (held_long, behind)

  -- ---- one more
  module _ (a : Association) where
    one_more : length (held t ++ (a ∷ [])) ≡ n + 1
    one_more = rw (length-append, held_long)

    left_over_lem : drop (n + 1) (vacated t) ≡ drop (n + 1) t.rows
    left_over_lem =
        let q : n + 1 ≡ length (replicate n unheld) + 1 = rw length-replicate in
        ap (drop (n + 1)) vacant ∙ ap (λ (j : ℕ). drop j (replicate n unheld ++ drop n t.rows)) q
        ∙ drop-append-add (replicate n unheld) (drop n t.rows) 1 ∙ drop-drop 1 n t.rows

    pub started : n < 256 → record { rows = set t.rows n a; count = n + 1 } ≡ holding (starting a (held t)) t
    started h =
        let r : set t.rows n a ≡ (held t ++ (a ∷ [])) ++ drop (length (held t ++ (a ∷ []))) (vacated t) =
        rw (one_more, left_over_lem, set_split t.rows n a (omega arith), take_within t.rows t.count 256 b e, ← add-one n) (sym (append_assoc (held t) (a ∷ []) (drop (n + 1) t.rows))) in
        holding_is t (held t ++ (a ∷ [])) r (sym one_more) ∙ ap (λ (l : State). holding l t) (sym (appended a (held t) (rw held_long h)))

    pub not_started : 256 ≤ n → record { rows = t.rows; count = n } ≡ holding (starting a (held t)) t
    not_started h =
        let q : held t ≡ t.rows = take_all t.count t.rows (omega arith) in
        let v : drop n (vacated t) ≡ [] =
        ap (drop n) vacant ∙ drop_at (replicate n unheld) (drop n t.rows) n (length-replicate n unheld) ∙ drop_of_length-le t.rows {i = n} (omega arith) in
        let r : t.rows ≡ held t ++ drop (length (held t)) (vacated t) =
        sym (ap (λ (j : ℕ). held t ++ drop j (vacated t)) held_long ∙ ap (λ (y : State). held t ++ y) v ∙ append-nil (held t) ∙ q) in
        holding_is t (held t) r (sym held_long) ∙ ap (λ (l : State). holding l t) (sym (not_appended a (held t) (rw held_long h)))

-- ---- a filter in place: of the first i rows, of those up to n, what passes stands in front; behind it rows are empty, up to those not passed yet
pub record Stayed (p : Association → Bool) (l : State) (n : ℕ) (out : State) (k i : ℕ) : Type 0 where
  pub within : i ≤ n
  pub fewer : k ≤ i
  pub count : k ≡ length (keep p (take i l))
  pub rows : out ≡ fill unheld i (keep p (take i l)) ++ drop i l

pub stayed_none : {p : Association → Bool} {l : State} {n : ℕ} → Stayed p l n l 0 0
stayed_none = record { within = omega arith; fewer = omega arith; count = refl; rows = refl }

module _ {p : Association → Bool} {l : State} {n : ℕ} {out : State} {k i : ℕ} (s : Stayed p l n out k i) (h : i < n) (b : n ≤ length l) (x : Association) where
  abbrev stay : State
  stay = keep p (take i l)

  front_long : length (fill unheld i stay) ≡ i
  front_long = length_fill unheld i stay (omega (arith, s.fewer, s.count))

  opened : out ≡ fill unheld i stay ++ (get_or l i x ∷ drop (i + 1) l)
  opened = s.rows ∙ rw (add-one, drop-cons l i x (omega arith))

  pub row_there : get_or out i x ≡ get_or l i x
  row_there =
      let q : i ≡ length (fill unheld i stay) + 0 = omega (arith, front_long) in
      ap (λ (y : State). get_or y i x) opened ∙ ap (λ (j : ℕ). get_or (fill unheld i stay ++ (get_or l i x ∷ drop (i + 1) l)) j x) q
      ∙ get_or-append-add (fill unheld i stay) (get_or l i x ∷ drop (i + 1) l) 0 x

  -- the row is emptied
  emptied : set out i unheld ≡ fill unheld (i + 1) stay ++ drop (i + 1) l
  emptied =
      let f : length stay ≤ i = omega (arith, s.fewer, s.count) in
      let q : i + 1 - length stay ≡ i - length stay + 1 = omega arith in
      let r : fill unheld (i + 1) stay ≡ fill unheld i stay ++ (unheld ∷ []) =
      rw (q, ← replicate-append-replicate (i - length stay) 1 unheld) (sym (append_assoc stay (replicate (i - length stay) unheld) (unheld ∷ []))) in
      ap (λ (y : State). set y i unheld) opened
      ∙ set_at (fill unheld i stay) (get_or l i x) (drop (i + 1) l) unheld i front_long
      ∙ rw r (sym (append_assoc (fill unheld i stay) (unheld ∷ []) (drop (i + 1) l)))

  next : (t : Bool) → p (get_or l i x) ≡ t → keep p (take (i + 1) l) ≡ stay ++ pick t (get_or l i x ∷ []) []
  next t e = rw (take_next l i x (omega arith), keep_append p (take i l) (get_or l i x ∷ []), append-nil, e)

  pub stayed_one : p (get_or out i x) ≡ true → Stayed p l n (set (set out i unheld) k (get_or out i x)) (k + 1) (i + 1)
  stayed_one e =
      let q = next true (rw row_there at e) in
      let f : length stay ≤ i = omega (arith, s.fewer, s.count) in
      let w : k < length (fill unheld (i + 1) stay) = omega (arith, s.fewer, length_fill unheld (i + 1) stay (omega arith)) in
      record {
        within = omega arith;
        fewer = omega (arith, s.fewer);
        count = rw (q, length-append) (omega (arith, s.count));
        rows = rw (row_there, emptied, q, set-append_left (fill unheld (i + 1) stay) (drop (i + 1) l) k (get_or l i x) w, fill_more unheld (i + 1) stay (get_or l i x) k s.count (omega (arith, s.fewer)));
      }

  pub stayed_not : p (get_or out i x) ≡ false → Stayed p l n (set out i unheld) k (i + 1)
  stayed_not e =
      let q : keep p (take (i + 1) l) ≡ stay = next false (rw row_there at e) ∙ append-nil stay in
      record { within = omega arith; fewer = omega (arith, s.fewer); count = rw q s.count; rows = rw q emptied }

module _ (t : Table) (b : length t.rows ≡ 256) {n : ℕ} (e : n ≡ min t.count 256) where
  pub stayed_all : {p : Association → Bool} {out : State} {k i : ℕ} → Stayed p t.rows n out k i → n ≤ i → record { rows = out; count = k } ≡ holding (keep p (held t)) t
  stayed_all {p} {out} {k} {i} s h =
      let q : i ≡ n = omega (arith, s.within) in
      let u : take n t.rows ≡ held t = take_within t.rows t.count 256 b e in
      let m : k ≡ length (keep p (held t)) = rw (q, u) at s.count in
      let f : length (keep p (held t)) ≤ n = omega (arith, s.fewer) in
      let y : out ≡ fill unheld n (keep p (held t)) ++ drop n t.rows = rw (q, u) at s.rows in
      let v : drop (length (keep p (held t))) (vacated t) ≡ replicate (n - length (keep p (held t))) unheld ++ drop n t.rows =
      rw (vacant t b e, drop-append-le (length (keep p (held t))) (replicate n unheld) (drop n t.rows) (rw length-replicate f), drop_replicate (length (keep p (held t))) n unheld) in
      holding_is t (keep p (held t)) (y ∙ rw v (append_assoc (keep p (held t)) (replicate (n - length (keep p (held t))) unheld) (drop n t.rows))) m
