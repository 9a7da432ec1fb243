-- What the octets of a record are written as: by their number, their criticality, and their form; then by the plan of what they say.
-- Assumes nothing.
use Rattle.plan.specs.declared.Unwritten.{Unwritten}
use Rattle.plan.specs.declared.Unwritten.TheVariants.{NoRoom, NotWritten}
use Rattle.std.specs.Prelude.{None, Option, Some, Err, Ok}
use mathlib.Core.Path.{◌≡◌, ◌∙◌, refl, sym, ap, subst}
use mathlib.Core.Bool.{Bool, true, false}
use mathlib.Core.List.{List, [], ◌∷◌}
use Prim.Native.Nat.{ℕ, ◌+◌, ◌<◌, ◌≤◌}
use native.Mathlib.Omega.{arith}
use borrow.Author.Tests.{lt-ltb, le-ltb, eqb-true}
use lib.Dec.{ltb, eqb}
use lib.ListN.{length, drop, get_or, length-append}
use Rattle.lists.specs.Lists.{pick}
use Rattle.lent.specs.Lent.{same}
use Rattle.editions.specs.declared.Edition.{Edition}
use Rattle.editions.specs.declared.Message.{Message}
use Rattle.editions.specs.Editions.{table_of, code_of, number_of, messages_of, first_of, numbered_by}
use Rattle.meaning.specs.Value.{said_by}
use Rattle.meaning.specs.Written.{Encoded, none, encoded}
use Rattle.layout.specs.Record.{is_record, no_record, record_octets, said_record, lent_as, read_record, written_by, written}
use Rattle.record_form.specs.Form.{formed}
use Rattle.record_form.proofs.Formed.{formed_not, record_formed, record_not}
use Rattle.octets.specs.Write.{Wrote}
use Rattle.rows.specs.declared.Row.{Row}
use Rattle.meaning.specs.Value.{absent}
use Rattle.plan.specs.Plan.{size_given, sizes_of, plan_to, message_size, opening_octets, elements_to, Plan}
use Rattle.plan.specs.Written.{kept, in_front, written_in, Writes, begun_in, Written}
use Rattle.plan.proofs.Steps.{wrote_as}
use Rattle.plan.proofs.Plans.{planned}
use Rattle.plan.proofs.Messages.{table_short, planned_by, crit_by, size_by, fits_by, elements_all, begun_err, begun_done}
use Rattle.put_message.proofs.Values.{said_count, said_at_lem}
use Rattle.put_message.specs.Said.{said_in, Ready, encoded_as}

first_passes : (p : Message → Bool) (ms : List Message) (m : Message) → first_of p ms ≡ Some m → p m ≡ true
unfolding first_of
first_passes p [] m e = let z : ◌≡◌ {A = ℕ} 0 1 = cc in absurd (omega arith)
first_passes p (x ∷ ms) m e = by (p x) refl e (first_passes p ms m)
  where
    by : (b : Bool) → p x ≡ b → pick b (Some x) (first_of p ms) ≡ Some m → (first_of p ms ≡ Some m → p m ≡ true) → p m ≡ true
    by true f e k = let z : x ≡ m = cc in rw (← z) f
    by false f e k = k e

number_is : (e : Edition) (n : ℕ) {m : Message} → numbered_by e n ≡ Some m → number_of e m ≡ n
unfolding numbered_by
number_is e n {m} f = sym (eqb-true n (number_of e m) (first_passes (λ (x : Message). eqb n (number_of e x)) (messages_of e) m f))

module _ (e : Edition) (s values : List ℕ) where
  pub written_other : numbered_by e (get_or s 0 0) ≡ None → none ≡ written e s values
  unfolding written read_record
  written_other f = ap (λ (x : Option Message). written_by e values (lent_as e s x)) (sym f)

  -- a criticality over 2
  pub written_crit : 2 < get_or s 1 0 → none ≡ written e s values
  unfolding written read_record said_record
  written_crit h = by (numbered_by e (get_or s 0 0))
    where
      form : (m : Message) (g : Bool) → none ≡ written_by e values (pick g (is_record (said_record e m s)) no_record)
      form m true = rw (le-ltb (get_or s 1 0) 3 (omega arith))
      form m false = refl

      by : (x : Option Message) → none ≡ written_by e values (lent_as e s x)
      by (Some m) = form m (same (record_octets e (said_record e m s)) s)
      by None = refl

  pub written_size : (length s ≡ 2662 → ⊥) → none ≡ written e s values
  unfolding written read_record
  written_size z = by (numbered_by e (get_or s 0 0))
    where
      by : (x : Option Message) → none ≡ written_by e values (lent_as e s x)
      by (Some m) = rw (record_not e m s (formed_not (table_of e m) s (table_short e m) z))
      by None = refl

  pub written_by_lem : {m : Message} → length s ≡ 2662 → get_or s 1 0 ≤ 2 → numbered_by e (get_or s 0 0) ≡ Some m → encoded_as e m s values ≡ written e s values
  unfolding written read_record encoded_as said_record said_by said_in
  written_by_lem {m} l k f =
      by (formed (table_of e m) s)
      ∙ sym (ap (λ (x : Option Message). written_by e values (lent_as e s x)) f ∙ ap (λ (g : Bool). written_by e values (pick g (is_record (said_record e m s)) no_record)) (record_formed e m s l (number_is e (get_or s 0 0) f)))
    where
      by : (g : Bool) → pick g (encoded e (record { message = m; values = said_in values s (table_of e m) })) none ≡ written_by e values (pick g (is_record (said_record e m s)) no_record)
      by true = rw (lt-ltb (get_or s 1 0) 3 (omega arith))
      by false = refl

-- ---- what is written

module _ (l : List ℕ) {x : Encoded} where
  pub writes_none : none ≡ x → Writes (written_in l x) (Err NotWritten) l
  unfolding written_in
  writes_none e = subst (λ (y : Encoded). Writes (written_in l y) (Err NotWritten) l) e (record { answer = refl; room = refl })

  pub writes_as : {y : Encoded} {r : Written} {k : List ℕ} → y ≡ x → Writes (written_in l y) r k → Writes (written_in l x) r k
  writes_as {y} {r} {k} e w = subst (λ (z : Encoded). Writes (written_in l z) r k) e w

module _ (e : Edition) (m : Message) (s values : List ℕ) where
  pub not_formed : formed (table_of e m) s ≡ false → none ≡ encoded_as e m s values
  unfolding encoded_as
  not_formed f = rw f

  is_formed : formed (table_of e m) s ≡ true → encoded e (record { message = m; values = said_in values s (table_of e m) }) ≡ encoded_as e m s values
  unfolding encoded_as
  is_formed f = rw f

  pub formed_in : {t : List Row} → t ≡ table_of e m → {b : Bool} → formed t s ≡ b → formed (table_of e m) s ≡ b
  formed_in rs h = ap (λ (u : List Row). formed u s) (sym rs) ∙ h

  -- the rows, the sizes and the plan that the code has
  module _ {t : List Row} {ns : List ℕ} {p : Plan} (rs : t ≡ table_of e m) (f : ns ≡ sizes_of (said_in values s t)) (g : p ≡ plan_to (Some (0, 0)) t ns (length t)) where
    sizes : ns ≡ sizes_of (said_in values s (table_of e m))
    sizes = f ∙ ap (λ (u : List Row). sizes_of (said_in values s u)) rs

    plan : p ≡ planned 0 0 (table_of e m) (said_in values s (table_of e m))
    plan = planned_by e m (said_in values s (table_of e m)) (said_count values s (table_of e m)) rs sizes g

    module _ (l : List ℕ) {k : List ℕ} where
      pub within : {j : ℕ} → Writes (begun_in l (code_of e m) p) (Ok j) k → j ≤ length k
      unfolding begun_in
      within {j} w = by p w
        where
          front_in : (os : List ℕ) → Writes (in_front l os) (Ok j) k → j ≤ length k
          front_in os w =
              let y = w.answer in
              let z : j ≡ length os = cc in
              omega (arith, length-append os (drop (length os) l), ap length w.room)

          by : (q : Plan) → Writes (begun_in l (code_of e m) q) (Ok j) k → j ≤ length k
          by None w = let y = w.answer in let z : ◌≡◌ {A = ℕ} 0 1 = cc in absurd (omega arith)
          by (Some (c, q)) w = at (ltb 8192 (message_size q)) (ltb (length l) (message_size q)) w
            where
              at : (a b : Bool) → Writes (pick a (kept (Err NotWritten) l) (pick b (kept (Err NoRoom) l) (in_front l (opening_octets (code_of e m) (q + 3) c)))) (Ok j) k → j ≤ length k
              at true b w = let y = w.answer in let z : ◌≡◌ {A = ℕ} 0 1 = cc in absurd (omega arith)
              at false true w = let y = w.answer in let z : ◌≡◌ {A = ℕ} 0 1 = cc in absurd (omega arith)
              at false false w = front_in (opening_octets (code_of e m) (q + 3) c) w

      pub ready : {j : ℕ} → Writes (begun_in l (code_of e m) p) (Ok j) k → (i : ℕ) → i < length t → Ready values s t ns i
      unfolding begun_in
      ready {j} w i h = record {
        crit = crit_by e m (said_in values s (table_of e m)) (said_count values s (table_of e m)) rs sizes i;
        size = size_by e m (said_in values s (table_of e m)) (said_count values s (table_of e m)) rs sizes i ∙ ap (λ (u : List Row). size_given (get_or (said_in values s u) i absent)) (sym rs) ∙ ap size_given ((said_at_lem values s t i h));
        fits = by p refl w;
      }
        where
          by : (q : Plan) → p ≡ q → Writes (begun_in l (code_of e m) q) (Ok j) k → get_or ns i 0 ≤ 8192
          by (Some (c, q)) x w = fits_by e m (said_in values s (table_of e m)) (said_count values s (table_of e m)) rs sizes g x i h
          by None x w = let y = w.answer in let z : ◌≡◌ {A = ℕ} 0 1 = cc in absurd (omega arith)

      module _ (h : formed (table_of e m) s ≡ true) where
        pub refused : (x : Unwritten) → Writes (begun_in l (code_of e m) p) (Err x) k → Writes (written_in l (encoded_as e m s values)) (Err x) k
        refused x w = writes_as l (is_formed h) (begun_err e m (said_in values s (table_of e m)) l plan x w)

        pub done : {i : ℕ} → Writes (begun_in l (code_of e m) p) (Ok i) k → {u : List ℕ} {r : ℕ} → Wrote k i (elements_to t (said_in values s t) (length t)) u r → Writes (written_in l (encoded_as e m s values)) (Ok r) u
        done w y =
            let x = ap (λ (v : List Row). elements_to v (said_in values s v) (length v)) rs ∙ elements_all (table_of e m) (said_in values s (table_of e m)) (said_count values s (table_of e m)) in
            writes_as l (is_formed h) (begun_done e m (said_in values s (table_of e m)) l plan w (wrote_as x y))
