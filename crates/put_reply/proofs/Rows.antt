-- The elements of a message, row by row: each row's part by its kind, its size, and its octets.
-- Assumes nothing.
use Rattle.std.specs.Prelude.{Err, None, Ok, Option, Some}
use Rattle.plan.specs.declared.Unwritten.{Unwritten}
use Rattle.plan.specs.declared.Unwritten.TheVariants.{NoRoom, NotWritten}
use mathlib.Core.Path.{◌≡◌, ◌∙◌, refl, sym, ap, subst}
use mathlib.Core.Bool.{Bool, true, false}
use mathlib.Core.List.{List}
use Prim.Native.Nat.{ℕ, ◌+◌, ◌<◌, ◌≤◌}
use native.Mathlib.Omega.{arith}
use native.Mathlib.Numerals.{add-one}
use lib.Dec.{ltb}
use lib.ListN.{length, drop, get_or, length-map, length-append, get_or-map}
use Rattle.lists.specs.Lists.{pick}
use Rattle.octets.specs.Write.{Wrote}
use Rattle.octets.proofs.Writing.{wrote_then}
use Rattle.identity.specs.declared.Item.{Item}
use Rattle.entries.specs.declared.Entry.{Entry}
use Rattle.rows.specs.declared.Row.{Row}
use Rattle.rows.specs.Table.{no_row}
use Rattle.editions.specs.declared.Edition.{Edition}
use Rattle.editions.specs.declared.Message.{Message}
use Rattle.editions.specs.declared.Code.{Code}
use Rattle.editions.specs.Editions.{table_of, code_of}
use Rattle.meaning.specs.Value.{Given, absent, Said}
use Rattle.meaning.specs.Written.{element_octets, elements_octets, encoded}
use Rattle.plan.specs.Plan.{size_given, sizes_of, plan_to, message_size, opening_octets, elements_to, Plan}
use Rattle.plan.specs.Written.{Writes, kept, in_front, written_in, begun_in, Written}
use Rattle.plan.proofs.Plans.{planned}
use Rattle.plan.proofs.Messages.{planned_by, crit_by, size_by, fits_by, elements_all, begun_err, begun_done}
use Rattle.put_reply.specs.declared.Part.{Part}
use Rattle.put_reply.specs.declared.Parts.{Parts}
use Rattle.put_reply.specs.Parts.{part_of, given_by, given_rows, Ready}

-- ---- the elements

module _ (is : List Item) (es : List Entry) (p : Parts) where
  abbrev given_at : Row → Given (List ℕ)
  given_at r = given_by is es (part_of p r.kind)

  row_at : (t : List Row) (i : ℕ) → get_or (given_rows is es p t) i absent ≡ given_at (get_or t i no_row)
  row_at t i = get_or-map given_at t i no_row

  pub rows_more : (t : List Row) (i : ℕ) {x : Option Part} → x ≡ part_of p (get_or t i no_row).kind → {l m k : List ℕ} {at q u : ℕ} → Wrote l at (elements_to t (given_rows is es p t) i) m q
      → Wrote m q (element_octets (get_or t i no_row) (given_by is es x)) k u → Wrote l at (elements_to t (given_rows is es p t) (i + 1)) k u
  unfolding elements_to
  rows_more t i {x} e {l} {m} {k} {at} {q} {u} v w =
      let f : given_by is es x ≡ get_or (given_rows is es p t) i absent = ap (given_by is es) e ∙ sym (row_at t i) in
      rw (add-one i) (wrote_then v (subst (λ (y : Given (List ℕ)). Wrote m q (element_octets (get_or t i no_row) y) k u) f w))

-- ---- the message of a table's rows

module _ (l k : List ℕ) (c : Code) {i : ℕ} where
  begun_plan : (p : Plan) → Writes (begun_in l c p) (Ok i) k → (n : ℕ) × (q : ℕ) × (p ≡ Some (n, q))
  unfolding begun_in
  begun_plan None w = let h = w.answer in let z : ◌≡◌ {A = ℕ} 0 1 = cc in absurd (omega arith)
  begun_plan (Some (n, q)) w = (n, q, refl)

  begun_within : (p : Plan) → Writes (begun_in l c p) (Ok i) k → i ≤ length k
  unfolding begun_in
  begun_within None w = let h = w.answer in let z : ◌≡◌ {A = ℕ} 0 1 = cc in absurd (omega arith)
  begun_within (Some (n, q)) w = at (ltb 8192 (message_size q)) (ltb (length l) (message_size q)) w
    where
      os : List ℕ
      os = opening_octets c (q + 3) n

      at : (a b : Bool) → Writes (pick a (kept (Err NotWritten) l) (pick b (kept (Err NoRoom) l) (in_front l os))) (Ok i) k → i ≤ length k
      at true b w = let h = w.answer in let z : ◌≡◌ {A = ℕ} 0 1 = cc in absurd (omega arith)
      at false true w = let h = w.answer in let z : ◌≡◌ {A = ℕ} 0 1 = cc in absurd (omega arith)
      at false false w = let h = w.answer in let j : i ≡ length os = cc in omega (arith, ap length w.room, length-append os (drop (length os) l))

module _ (e : Edition) (m : Message) (is : List Item) (es : List Entry) (p : Parts) {t : List Row} {ns : List ℕ} (rs : t ≡ table_of e m) (f : ns ≡ sizes_of (given_rows is es p t)) where
  abbrev values : List (Given (List ℕ))
  values = given_rows is es p (table_of e m)

  many : length (table_of e m) ≡ length values
  many = sym (length-map (table_of e m) (given_at is es p))

  sizes : ns ≡ sizes_of values
  sizes = f ∙ ap (λ (u : List Row). sizes_of (given_rows is es p u)) rs

  value_same : (i : ℕ) → get_or values i absent ≡ given_at is es p (get_or t i no_row)
  value_same i = rw rs (row_at is es p (table_of e m) i)

  module _ {n : Plan} (g : n ≡ plan_to (Some (0, 0)) t ns (length t)) where
    plan_is : n ≡ planned 0 0 (table_of e m) values
    plan_is = planned_by e m values many rs sizes g

    ready_by : (l k : List ℕ) (c : Code) {i : ℕ} → Writes (begun_in l c n) (Ok i) k → (j : ℕ) → j < length t → Ready is es p t ns j
    ready_by l k c w j h =
        let b = begun_plan l k c n w in
        record {
          crit = crit_by e m values many rs sizes j;
          size = size_by e m values many rs sizes j ∙ ap size_given (value_same j);
          fits = fits_by e m values many rs sizes g b.2 j h;
        }

  joined_by : elements_to t (given_rows is es p t) (length t) ≡ elements_octets (table_of e m) values
  joined_by = rw rs (elements_all (table_of e m) values many)

  abbrev message : Said
  message = record { message = m; values = values }

  -- ---- what writing leaves, by what stands before the elements

  module _ {n : Plan} (g : n ≡ plan_to (Some (0, 0)) t ns (length t)) (l : List ℕ) {k : List ℕ} {c : Code} (h : c ≡ code_of e m) {x : Written} (w : Writes (begun_in l c n) x k) where
    begun : {y : Written} → x ≡ y → Writes (begun_in l (code_of e m) n) y k
    begun z = rw (h, z) at w

    pub refused_by : (y : Unwritten) → x ≡ Err y → Writes (written_in l (encoded e message)) (Err y) k
    refused_by y z = begun_err e m values l (plan_is g) y (begun z)

    pub done_by : {i : ℕ} → x ≡ Ok i → {u : List ℕ} {r : ℕ} → Wrote k i (elements_to t (given_rows is es p t) (length t)) u r → Writes (written_in l (encoded e message)) (Ok r) u
    done_by {i} z {u} {r} y = begun_done e m values l (plan_is g) (begun z) (subst (λ (os : List ℕ). Wrote k i os u r) joined_by y)

    pub within_by : {i : ℕ} → x ≡ Ok i → i ≤ length k
    within_by z = begun_within l k (code_of e m) n (begun z)

    pub ready_then : {i : ℕ} → x ≡ Ok i → (j : ℕ) → j < length t → Ready is es p t ns j
    ready_then z = ready_by g l k (code_of e m) (begun z)
