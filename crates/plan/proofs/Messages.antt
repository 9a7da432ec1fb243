-- A message by its plan: whether it is written, and what is put.
-- Assumes nothing.
use Rattle.std.specs.Prelude.{Err, None, Ok, Some}
use Rattle.plan.specs.declared.Unwritten.{Unwritten}
use Rattle.plan.specs.declared.Unwritten.TheVariants.{NoRoom, NotWritten}
use mathlib.Core.Path.{◌≡◌, ◌∙◌, refl, sym, ap, subst}
use mathlib.Core.Bool.{Bool, true, false}
use mathlib.Core.List.{List, [], ◌∷◌, ◌++◌, map, append_assoc, append-nil}
use Prim.Native.Nat.{ℕ, zero, suc, ◌+◌, ◌%◌, ◌<◌, ◌≤◌}
use native.Mathlib.Omega.{arith}
use native.Mathlib.Nat.{mod-eq_of_lt}
use borrow.Author.Tests.{le-leb, lt-leb, ltb-true, ltb-false, eqb-false}
use lib.Dec.{ltb, eqb}
use lib.ListN.{length, drop, get_or, length-append, get_or-map}
use Rattle.lists.specs.Lists.{pick}
use Rattle.lists.proofs.Fill.{get_d_fill}
use Rattle.packed.specs.Packed.{◌bits◌, bit, packed}
use Rattle.octets.specs.Many.{Each}
use Rattle.octets.specs.Write.{number_octets, length_octets, Wrote}
use Rattle.octets.proofs.Back.{length_number}
use Rattle.octets.proofs.Writing.{sets_front, wrote_then}
use Rattle.rows.specs.declared.Row.{Row}
use Rattle.rows.specs.Table.{no_row}
use Rattle.editions.specs.declared.Edition.{Edition}
use Rattle.editions.specs.declared.Message.{Message}
use Rattle.editions.specs.Editions.{table_of, code_of}
use Rattle.editions.proofs.Names.{bounds}
use Rattle.editions.proofs.Tables.{Fits, lawful_count, rows_fit, table_lawful}
use Rattle.meaning.specs.Value.{Value, Given, given, absent, Said}
use Rattle.meaning.specs.Written.{octets_of, has_octets, element_octets, elements_octets, how_many, inside_octets, message_octets, is_written, octets, none, encoded}
use Rattle.plan.specs.Plan.{size_of, fitted, size_given, sizes_of, plan_to, message_size, opening_octets, front_octets, elements_to, Plan}
use Rattle.plan.specs.Written.{kept, in_front, written_in, Writes, begun_in}
use Rattle.plan.proofs.Plans.{planned, plan_fill, plan_all, plan_fits, planned_is, planned_none}
use Rattle.plan.proofs.Steps.{opening_length}

-- ---- tables

pub table_short : (e : Edition) (m : Message) → length (table_of e m) ≤ 12
table_short e m = lawful_count (table_of e m) (table_lawful e m)

crit_small : (e : Edition) (m : Message) (i : ℕ) → (get_or (table_of e m) i no_row).crit < 4
crit_small e m i = at (table_of e m) (rows_fit e m) i
  where
    at : (t : List Row) → Each Fits t → (i : ℕ) → (get_or t i no_row).crit < 4
    at [] f i = omega arith
    at (r ∷ t) f zero = let h = f.0.crit in omega arith
    at (r ∷ t) f (suc i) = at t f.1 i

code_same : (e : Edition) (m : Message) → ((code_of e m).kind % 4 ≡ (code_of e m).kind) × ((code_of e m).crit % 4 ≡ (code_of e m).crit)
code_same e m = let b = bounds e m in (omega arith, omega arith)

-- ---- elements one after another

elements_shift : (r : Row) (t : List Row) (v : Given (List ℕ)) (vs : List (Given (List ℕ))) (n : ℕ) → elements_to (r ∷ t) (v ∷ vs) (suc n) ≡ element_octets r v ++ elements_to t vs n
unfolding elements_to
elements_shift r t v vs zero = sym (append-nil (element_octets r v))
elements_shift r t v vs (suc n) = ap (◌++ element_octets (get_or t n no_row) (get_or vs n absent)) (elements_shift r t v vs n) ∙ append_assoc (element_octets r v) (elements_to t vs n) (element_octets (get_or t n no_row) (get_or vs n absent))

pub elements_all : (t : List Row) (vs : List (Given (List ℕ))) → length t ≡ length vs → elements_to t vs (length t) ≡ elements_octets t vs
unfolding elements_octets elements_to
elements_all [] [] e = refl
elements_all [] (v ∷ vs) e = absurd (omega arith)
elements_all (r ∷ t) [] e = absurd (omega arith)
elements_all (r ∷ t) (v ∷ vs) e = elements_shift r t v vs (length t) ∙ ap (element_octets r v ++◌) (elements_all t vs (omega arith))

-- ---- an element by the size of its value

pub none_there : (y : Given (List ℕ)) → size_given y ≡ 0 → y ≡ absent
unfolding size_given fitted
none_there absent e = refl
none_there (given v) e = by (eqb (size_of v) 0) refl (ltb 8192 (size_of v)) e
  where
    by : (a : Bool) → eqb (size_of v) 0 ≡ a → (b : Bool) → pick a 8193 (pick b 8193 (size_of v)) ≡ 0 → given v ≡ absent
    by true f b e = absurd (omega arith)
    by false f true e = absurd (omega arith)
    by false f false e = let z = eqb-false (size_of v) 0 f in absurd (omega arith)

-- a value that fits has octets, and its size is theirs
pub fits_has : (v : Value (List ℕ)) → fitted (size_of v) ≤ 8192 → (has_octets v ≡ true) × (fitted (size_of v) ≡ length (octets_of v)) × (0 < length (octets_of v))
unfolding fitted size_of
fits_has v h = by (has_octets v) refl (eqb (length (octets_of v)) 0) refl (ltb 8192 (length (octets_of v))) refl h
  where
    by : (a : Bool) → has_octets v ≡ a → (b : Bool) → eqb (length (octets_of v)) 0 ≡ b → (d : Bool) → ltb 8192 (length (octets_of v)) ≡ d
        → fitted (pick a (length (octets_of v)) 0) ≤ 8192 → (a ≡ true) × (fitted (pick a (length (octets_of v)) 0) ≡ length (octets_of v)) × (0 < length (octets_of v))
    by false e b f d g h = absurd (omega arith)
    by true e true f d g h = let k : 8193 ≤ 8192 = rw f at h in absurd (omega arith)
    by true e false f true g h = let k : 8193 ≤ 8192 = rw (f, g) at h in absurd (omega arith)
    by true e false f false g h = let z = eqb-false (length (octets_of v)) 0 f in (refl, rw (f, g), omega arith)

pub element_none : (r : Row) (y : Given (List ℕ)) {n : ℕ} → n ≡ size_given y → n ≡ 0 → [] ≡ element_octets r y
element_none r y e f = ap (element_octets r) (sym (none_there y (sym e ∙ f)))

pub element_is : (r : Row) (v : Value (List ℕ)) {n : ℕ} → r.crit < 4 → n ≡ size_given (given v) → n ≤ 8192 → front_octets r.id r.crit n ++ octets_of v ≡ element_octets r (given v)
unfolding front_octets size_given
element_is r v {n} k e h =
    let m : fitted (size_of v) ≤ 8192 = rw e at h in
    let s : n ≡ length (octets_of v) = e ∙ (fits_has v m).1 in
    rw (s, mod-eq_of_lt k) (append_assoc (number_octets 2 r.id) (packed (2 bits r.crit ∷ []) ∷ length_octets (length (octets_of v))) (octets_of v))

-- ---- the plan of a message's values

module _ (e : Edition) (m : Message) (vs : List (Given (List ℕ))) (many : length (table_of e m) ≡ length vs) {t : List Row} {ns : List ℕ} (rs : t ≡ table_of e m) (f : ns ≡ sizes_of vs) where
  plan_as : plan_to (Some (0, 0)) t ns (length t) ≡ plan_to (Some (0, 0)) (table_of e m) (map size_given vs) (length (table_of e m))
  plan_as = rw (f, rs) (plan_fill (Some (0, 0)) (table_of e m) (map size_given vs) (length (table_of e m)))

  pub planned_by : {p : Plan} → p ≡ plan_to (Some (0, 0)) t ns (length t) → p ≡ planned 0 0 (table_of e m) vs
  planned_by g = g ∙ plan_as ∙ plan_all (table_of e m) vs 0 0 many (omega arith)

  -- for each row the code has the size of its value
  pub crit_by : (i : ℕ) → (get_or t i no_row).crit < 4
  crit_by i = rw rs (crit_small e m i)

  pub size_by : (i : ℕ) → get_or ns i 0 ≡ size_given (get_or vs i absent)
  unfolding size_given
  size_by i = rw f (get_d_fill 0 12 (map size_given vs) i ∙ get_or-map size_given vs i absent)

  pub fits_by : {p : Plan} → p ≡ plan_to (Some (0, 0)) t ns (length t) → {c q : ℕ} → p ≡ Some (c, q) → (i : ℕ) → i < length t → get_or ns i 0 ≤ 8192
  fits_by g {c} {q} k i h = plan_fits (Some (0, 0)) t ns (length t) c q (sym g ∙ k) i h

-- ---- the message

module _ (e : Edition) (m : Message) (vs : List (Given (List ℕ))) where
  abbrev said : Said
  said = record { message = m; values = vs }

  inside : length (inside_octets (table_of e m) vs) ≡ length (elements_octets (table_of e m) vs) + 3
  unfolding inside_octets
  inside = omega (arith, length-append (number_octets 2 (how_many vs)) (elements_octets (table_of e m) vs), length_number 2 (how_many vs))

  pub message_split : opening_octets (code_of e m) (length (elements_octets (table_of e m) vs) + 3) (how_many vs) ++ elements_octets (table_of e m) vs ≡ message_octets e said
  unfolding opening_octets message_octets inside_octets
  message_split = rw (inside, (code_same e m).0, (code_same e m).1) (ap (λ (os : List ℕ). packed (bit false ∷ 2 bits (code_of e m).kind ∷ []) ∷ (code_of e m).code ∷ packed (2 bits (code_of e m).crit ∷ []) ∷ os)
      (append_assoc (length_octets (length (elements_octets (table_of e m) vs) + 3)) (packed (bit false ∷ []) ∷ number_octets 2 (how_many vs)) (elements_octets (table_of e m) vs)))

  pub message_length : length (message_octets e said) ≡ message_size (length (elements_octets (table_of e m) vs))
  unfolding message_octets
  message_length =
      omega (arith, length-append (length_octets (length (inside_octets (table_of e m) vs))) (inside_octets (table_of e m) vs), inside, ap (λ (k : ℕ). length (length_octets k)) inside)

  module _ (l : List ℕ) where
    not_written : is_written e said ≡ false → Writes (written_in l (encoded e said)) (Err NotWritten) l
    unfolding written_in encoded
    not_written f =
        subst (λ (b : Bool). Writes (written_in l (pick b (octets (message_octets e said)) none)) (Err NotWritten) l) (sym f) (record { answer = refl; room = refl })

    plan_refuses : planned 0 0 (table_of e m) vs ≡ None → Writes (written_in l (encoded e said)) (Err NotWritten) l
    plan_refuses f = not_written (planned_none (table_of e m) vs f (length (message_octets e said)) (omega (arith, message_length)))

    module _ {c q : ℕ} (f : planned 0 0 (table_of e m) vs ≡ Some (c, q)) where
      size : message_size q ≡ length (message_octets e said)
      size = rw (planned_is (table_of e m) vs f).2 (sym message_length)

      too_long : 8192 < message_size q → Writes (written_in l (encoded e said)) (Err NotWritten) l
      too_long h = not_written (rw ((planned_is (table_of e m) vs f).0, lt-leb _ _ (rw size at h)))

      fully : message_size q ≤ 8192 → is_written e said ≡ true
      fully h = rw ((planned_is (table_of e m) vs f).0, le-leb _ _ (rw size at h))

      no_room_lem : message_size q ≤ 8192 → length l < message_size q → Writes (written_in l (encoded e said)) (Err NoRoom) l
      unfolding written_in encoded
      no_room_lem h k =
          let o : length l < length (message_octets e said) = rw size at k in
          subst (λ (b : Bool). Writes (written_in l (pick b (octets (message_octets e said)) none)) (Err NoRoom) l) (sym (fully h))
          (rw (lt-leb _ _ o) (record { answer = refl; room = refl }))

      done : message_size q ≤ 8192 → message_size q ≤ length l → {k : List ℕ} {r : ℕ}
          → Wrote l 0 (opening_octets (code_of e m) (q + 3) c ++ elements_octets (table_of e m) vs) k r → Writes (written_in l (encoded e said)) (Ok r) k
      unfolding written_in encoded
      done h g {k} {r} w =
          let p = planned_is (table_of e m) vs f in
          let o : length (message_octets e said) ≤ length l = rw size at g in
          let x : Wrote l 0 (message_octets e said) k r = rw (p.1, p.2, message_split) at w in
          let y : r ≡ length (message_octets e said) = omega (arith, x.next) in
          let z : k ≡ message_octets e said ++ drop (length (message_octets e said)) l = x.octets ∙ sets_front l (message_octets e said) o in
          subst (λ (b : Bool). Writes (written_in l (pick b (octets (message_octets e said)) none)) (Ok r) k) (sym (fully h))
          (rw (le-leb _ _ o) (record { answer = cc; room = z }))

    -- ---- by what stands before the elements, for the plan that the code has

    module _ {p : Plan} {k : List ℕ} (f : p ≡ planned 0 0 (table_of e m) vs) where
      begun_refused : Writes (begun_in l (code_of e m) p) (Err NotWritten) k → Writes (written_in l (encoded e said)) (Err NotWritten) k
      unfolding begun_in
      begun_refused w = by p (sym f) w
        where
          by : (p : Plan) → planned 0 0 (table_of e m) vs ≡ p → Writes (begun_in l (code_of e m) p) (Err NotWritten) k → Writes (written_in l (encoded e said)) (Err NotWritten) k
          by None g w = rw w.room (plan_refuses g)
          by (Some (c, q)) g w = at (ltb 8192 (message_size q)) refl (ltb (length l) (message_size q)) w
            where
              at : (a : Bool) → ltb 8192 (message_size q) ≡ a → (b : Bool) → Writes (pick a (kept (Err NotWritten) l) (pick b (kept (Err NoRoom) l) (in_front l (opening_octets (code_of e m) (q + 3) c)))) (Err NotWritten) k
                  → Writes (written_in l (encoded e said)) (Err NotWritten) k
              at true x b w = rw w.room (too_long g (ltb-true 8192 (message_size q) x))
              at false x true w = let h = w.answer in let z : ◌≡◌ {A = ℕ} 0 1 = cc in absurd (omega arith)
              at false x false w = let h = w.answer in let z : ◌≡◌ {A = ℕ} 0 1 = cc in absurd (omega arith)

      begun_no_room : Writes (begun_in l (code_of e m) p) (Err NoRoom) k → Writes (written_in l (encoded e said)) (Err NoRoom) k
      unfolding begun_in
      begun_no_room w = by p (sym f) w
        where
          by : (p : Plan) → planned 0 0 (table_of e m) vs ≡ p → Writes (begun_in l (code_of e m) p) (Err NoRoom) k → Writes (written_in l (encoded e said)) (Err NoRoom) k
          by None g w = let h = w.answer in let z : ◌≡◌ {A = ℕ} 0 1 = cc in absurd (omega arith)
          by (Some (c, q)) g w = at (ltb 8192 (message_size q)) refl (ltb (length l) (message_size q)) refl w
            where
              at : (a : Bool) → ltb 8192 (message_size q) ≡ a → (b : Bool) → ltb (length l) (message_size q) ≡ b
                  → Writes (pick a (kept (Err NotWritten) l) (pick b (kept (Err NoRoom) l) (in_front l (opening_octets (code_of e m) (q + 3) c)))) (Err NoRoom) k
                  → Writes (written_in l (encoded e said)) (Err NoRoom) k
              at true x b y w = let h = w.answer in let z : ◌≡◌ {A = ℕ} 0 1 = cc in absurd (omega arith)
              at false x true y w = rw w.room (no_room_lem g (ltb-false 8192 (message_size q) x) (ltb-true (length l) (message_size q) y))
              at false x false y w = let h = w.answer in let z : ◌≡◌ {A = ℕ} 0 1 = cc in absurd (omega arith)

      pub begun_err : (x : Unwritten) → Writes (begun_in l (code_of e m) p) (Err x) k → Writes (written_in l (encoded e said)) (Err x) k
      begun_err NotWritten w = begun_refused w
      begun_err NoRoom w = begun_no_room w

      pub begun_done : {i : ℕ} → Writes (begun_in l (code_of e m) p) (Ok i) k → {u : List ℕ} {r : ℕ} → Wrote k i (elements_octets (table_of e m) vs) u r → Writes (written_in l (encoded e said)) (Ok r) u
      unfolding begun_in
      begun_done {i} w {u} {r} y = by p (sym f) w
        where
          by : (p : Plan) → planned 0 0 (table_of e m) vs ≡ p → Writes (begun_in l (code_of e m) p) (Ok i) k → Writes (written_in l (encoded e said)) (Ok r) u
          by None g w = let h = w.answer in let z : ◌≡◌ {A = ℕ} 0 1 = cc in absurd (omega arith)
          by (Some (c, q)) g w = at (ltb 8192 (message_size q)) refl (ltb (length l) (message_size q)) refl w
            where
              at : (a : Bool) → ltb 8192 (message_size q) ≡ a → (b : Bool) → ltb (length l) (message_size q) ≡ b
                  → Writes (pick a (kept (Err NotWritten) l) (pick b (kept (Err NoRoom) l) (in_front l (opening_octets (code_of e m) (q + 3) c)))) (Ok i) k
                  → Writes (written_in l (encoded e said)) (Ok r) u
              at true x b v w = let h = w.answer in let z : ◌≡◌ {A = ℕ} 0 1 = cc in absurd (omega arith)
              at false x true v w = let h = w.answer in let z : ◌≡◌ {A = ℕ} 0 1 = cc in absurd (omega arith)
              at false x false v w =
                  let os = opening_octets (code_of e m) (q + 3) c in
                  let fit : message_size q ≤ length l = ltb-false (length l) (message_size q) v in
                  let n : length os ≤ length l = omega (arith, opening_length (code_of e m) (q + 3) c) in
                  let h = w.answer in
                  let j : i ≡ length os = cc in
                  let o : Wrote l 0 os k i = record { octets = w.room ∙ sym (sets_front l os n); next = omega arith } in
                  done g (ltb-false 8192 (message_size q) x) fit (wrote_then o y)
