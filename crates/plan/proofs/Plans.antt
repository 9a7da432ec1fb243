-- The plan of a message's rows says whether the message is written, how many elements there are, and their octets.
-- Assumes nothing.
use Rattle.std.specs.Prelude.{None, Some}
use mathlib.Core.Path.{◌≡◌, ◌∙◌, refl, sym, ap}
use mathlib.Core.Bool.{Bool, true, false, ◌&&◌, and-false}
use mathlib.Core.List.{List, [], ◌∷◌, ◌++◌, map}
use Prim.Native.Nat.{ℕ, zero, suc, ◌+◌, ◌-◌, ◌<◌, ◌≤◌}
use native.Mathlib.Omega.{arith}
use native.Mathlib.Nat.{add-zero}
use native.Mathlib.Numerals.{add-one}
use borrow.Author.Tests.{lt-ltb, le-ltb, le-leb, lt-leb, ne_eqb, ltb-true, ltb-false, leb-true, leb-false, eqb-true, eqb-false}
use lib.Dec.{ltb, leb, eqb}
use lib.ListN.{length, get_or, length-append}
use Rattle.lists.specs.Lists.{pick, fill}
use Rattle.lists.proofs.Fill.{get_d_fill}
use Rattle.packed.specs.Packed.{◌bits◌, packed}
use Rattle.octets.specs.Write.{number_octets, length_octets}
use Rattle.octets.proofs.Back.{length_number}
use Rattle.values.specs.Written.{tmgi_octets, cause_octets, wait_octets}
use Rattle.names.specs.Written.{name_octets}
use Rattle.items.specs.Items.{whole, part}
use Rattle.items.specs.Written.{acknowledgement_crit, item_element_octets, items_octets, reset_octets}
use Rattle.octets.specs.Many.{each_octets}
use Rattle.diagnostics.specs.declared.Head.{Head}
use Rattle.diagnostics.specs.Diagnostics.{after, behind_trigger, behind_code}
use Rattle.diagnostics.specs.Written.{marks_of, head_octets, entry_list_octets, diagnostics_octets}
use Rattle.diagnostics.proofs.HeadBack.{head_length}
use Rattle.rows.specs.declared.Row.{Row}
use Rattle.rows.specs.Table.{no_row}
use Rattle.meaning.specs.Value.{Value, Given, given, absent, carried, mme, mce, tmgi, one, two, cause, wait, name, reset, list, diagnostics}
use Rattle.meaning.specs.Written.{octets_of, has_octets, element_octets, elements_octets, how_many, elements_good}
use Rattle.plan.specs.Plan.{size_of, fitted, size_given, element_size, step_of, plan_to, Plan}
use Rattle.plan.proofs.Steps.{fit_none, fit_many, fit_is}

-- ---- a value that has octets has one at least

after_ge : (b : Bool) (n p : ℕ) → p ≤ after b n p
after_ge true n p = omega arith
after_ge false n p = omega arith

head_some : (h : Head) → 0 < length (head_octets h)
head_some h =
    let m = marks_of h in
    let a = after_ge m.code 10 6 in
    let b = after_ge m.trigger 2 (behind_code m) in
    let c = after_ge m.crit 2 (behind_trigger m) in
    rw (head_length h) (omega arith)

has_some : (v : Value (List ℕ)) → has_octets v ≡ true → 0 < length (octets_of v)
unfolding has_octets octets_of tmgi_octets cause_octets wait_octets name_octets reset_octets items_octets diagnostics_octets
has_some (carried os) e = ltb-true 0 (length os) e
has_some (mme v) e = rw (length_number 2 v.0) (omega arith)
has_some (mce v) e = rw (length_number 2 v.0) (omega arith)
has_some (tmgi v) e = omega arith
has_some (one v) e = rw (length_number 1 v) (omega arith)
has_some (two v) e = rw (length_number 2 v) (omega arith)
has_some (cause c) e = rw e (omega arith)
has_some (wait v) e = rw e (omega arith)
has_some (name os) e = rw e (omega arith)
has_some (reset whole) e = omega arith
has_some (reset (part is)) e = omega arith
has_some (list is) e = omega (arith, length-append (number_octets 1 (length is - 1)) (each_octets (item_element_octets acknowledgement_crit) is), length_number 1 (length is - 1))
has_some (diagnostics t d) e = omega (arith, length-append (head_octets d.head) (entry_list_octets d.head.listed d.entries), head_some d.head)

size_is : (v : Value (List ℕ)) → has_octets v ≡ true → size_of v ≡ length (octets_of v)
unfolding size_of
size_is v e = rw e

size_not : (v : Value (List ℕ)) → has_octets v ≡ false → size_of v ≡ 0
unfolding size_of
size_not v e = rw e

element_length : (r : Row) (v : Value (List ℕ)) → length (element_octets r (given v)) ≡ element_size (length (octets_of v))
element_length r v =
    let os = octets_of v in
    let a = length-append (number_octets 2 r.id) (packed (2 bits r.crit ∷ []) ∷ (length_octets (length os) ++ os)) in
    let b = length_number 2 r.id in
    let c = length-append (length_octets (length os)) os in
    omega arith

-- ---- rows one after another

plan_none : (t : List Row) (ns : List ℕ) (i : ℕ) → plan_to None t ns i ≡ None
unfolding plan_to step_of
plan_none t ns zero = refl
plan_none t ns (suc i) = rw (plan_none t ns i)

plan_shift : (p : Plan) (r : Row) (t : List Row) (n : ℕ) (ns : List ℕ) (i : ℕ) → plan_to p (r ∷ t) (n ∷ ns) (suc i) ≡ plan_to (step_of p r.mandatory n) t ns i
unfolding plan_to
plan_shift p r t n ns zero = refl
plan_shift p r t n ns (suc i) = ap (λ (q : Plan). step_of q (get_or t i no_row).mandatory (get_or ns i 0)) (plan_shift p r t n ns i)

-- what is refused stays so
pub plan_stays : (p : Plan) (t : List Row) (ns : List ℕ) (i k : ℕ) → plan_to p t ns i ≡ None → i ≤ k → plan_to p t ns k ≡ None
unfolding plan_to step_of
plan_stays p t ns i zero e h = let z : i ≡ 0 = omega arith in rw z at e
plan_stays p t ns i (suc k) e h = by (eqb i (suc k)) refl (plan_stays p t ns i k e)
  where
    by : (b : Bool) → eqb i (suc k) ≡ b → (i ≤ k → plan_to p t ns k ≡ None) → plan_to p t ns (suc k) ≡ None
    by true f g = let z : i ≡ suc k = eqb-true i (suc k) f in rw z at e
    by false f g = let z = eqb-false i (suc k) f in rw (g (omega arith))

-- one row more
pub plan_next : (p : Plan) (t : List Row) (ns : List ℕ) (i : ℕ) {q : Plan} {r : Row} {n : ℕ} → q ≡ plan_to p t ns i → r ≡ get_or t i no_row → n ≡ get_or ns i 0
    → step_of q r.mandatory n ≡ plan_to p t ns (i + 1)
unfolding plan_to
plan_next p t ns i e f g = rw (add-one, e, f, g)

pub plan_fill : (p : Plan) (t : List Row) (ns : List ℕ) (i : ℕ) → plan_to p t (fill 0 12 ns) i ≡ plan_to p t ns i
unfolding plan_to
plan_fill p t ns zero = refl
plan_fill p t ns (suc i) = rw (plan_fill p t ns i, get_d_fill 0 12 ns i)

-- from c elements of q octets on
abbrev pub planned : ℕ → ℕ → List Row → List (Given (List ℕ)) → Plan
planned c q t vs = pick (elements_good t vs && leb (q + length (elements_octets t vs)) 8192) (Some (c + how_many vs, q + length (elements_octets t vs))) None

same_plan : {a b : Bool} {x y m n : ℕ} → a ≡ b → x ≡ y → m ≡ n → pick {A = Plan} (a && leb m 8192) (Some (x, m)) None ≡ pick (b && leb n 8192) (Some (y, n)) None
same_plan e f g = rw (e, f, g)

module _ (c q : ℕ) (m : Bool) where
  step_none : step_of (Some (c, q)) m 8193 ≡ None
  unfolding step_of
  step_none = refl

  step_over : (n : ℕ) → (n ≡ 0 → ⊥) → n ≤ 8192 → 8192 < q + element_size n → step_of (Some (c, q)) m n ≡ None
  unfolding step_of
  step_over n z h k = rw (ne_eqb n 0 z, le-ltb 8192 n h, lt-ltb 8192 (q + element_size n) k)

  step_more : (n : ℕ) → (n ≡ 0 → ⊥) → n ≤ 8192 → q + element_size n ≤ 8192 → step_of (Some (c, q)) m n ≡ Some (c + 1, q + element_size n)
  unfolding step_of
  step_more n z h k = rw (ne_eqb n 0 z, le-ltb 8192 n h, le-ltb 8192 (q + element_size n) k)

module _ (r : Row) (t : List Row) (vs : List (Given (List ℕ))) (go : Plan → Plan) (stop : go None ≡ None) (on : (c q : ℕ) → q ≤ 8192 → go (Some (c, q)) ≡ planned c q t vs) (c q : ℕ) (h : q ≤ 8192) where
  one_absent : (b : Bool) → r.mandatory ≡ b → go (step_of (Some (c, q)) r.mandatory 0) ≡ planned c q (r ∷ t) (absent ∷ vs)
  unfolding step_of elements_good elements_octets how_many
  one_absent true e = rw e stop
  one_absent false e = rw e (on c q h)

  module _ (v : Value (List ℕ)) where
    total : length (elements_octets (r ∷ t) (given v ∷ vs)) ≡ element_size (length (octets_of v)) + length (elements_octets t vs)
    unfolding elements_octets
    total = omega (arith, length-append (element_octets r (given v)) (elements_octets t vs), element_length r v)

    bad_planned : has_octets v ≡ false → planned c q (r ∷ t) (given v ∷ vs) ≡ None
    unfolding elements_good
    bad_planned e = rw e

    over_planned : 8192 < q + element_size (length (octets_of v)) → planned c q (r ∷ t) (given v ∷ vs) ≡ None
    over_planned k =
        let o : 8192 < q + length (elements_octets (r ∷ t) (given v ∷ vs)) = omega (arith, total) in
        rw (lt-leb _ _ o, and-false (elements_good (r ∷ t) (given v ∷ vs)))

    more_planned : has_octets v ≡ true → planned (c + 1) (q + element_size (length (octets_of v))) t vs ≡ planned c q (r ∷ t) (given v ∷ vs)
    unfolding elements_good how_many
    more_planned e =
        let x : c + 1 + how_many vs ≡ c + how_many (given v ∷ vs) = omega arith in
        let y : q + element_size (length (octets_of v)) + length (elements_octets t vs) ≡ q + length (elements_octets (r ∷ t) (given v ∷ vs)) = omega (arith, total) in
        same_plan (sym (ap (◌&& elements_good t vs) e)) x y

    one_given : go (step_of (Some (c, q)) r.mandatory (fitted (size_of v))) ≡ planned c q (r ∷ t) (given v ∷ vs)
    one_given = by (has_octets v) refl (ltb 8192 (length (octets_of v))) refl (ltb 8192 (q + element_size (length (octets_of v)))) refl
      where
        by : (a : Bool) → has_octets v ≡ a → (b : Bool) → ltb 8192 (length (octets_of v)) ≡ b → (d : Bool) → ltb 8192 (q + element_size (length (octets_of v))) ≡ d
            → go (step_of (Some (c, q)) r.mandatory (fitted (size_of v))) ≡ planned c q (r ∷ t) (given v ∷ vs)
        by false e b f d g =
            ap go (ap (step_of (Some (c, q)) r.mandatory) (ap fitted (size_not v e) ∙ sym (fit_none 0 refl)) ∙ step_none c q r.mandatory)
            ∙ (stop ∙ sym (bad_planned e))
        by true e true f d g =
            let k = ltb-true 8192 (length (octets_of v)) f in
            ap go (ap (step_of (Some (c, q)) r.mandatory) (ap fitted (size_is v e) ∙ sym (fit_many (length (octets_of v)) k)) ∙ step_none c q r.mandatory)
            ∙ (stop ∙ sym (over_planned (omega arith)))
        by true e false f true g =
            let p = has_some v e in
            let k = ltb-false 8192 (length (octets_of v)) f in
            let o = ltb-true 8192 (q + element_size (length (octets_of v))) g in
            ap go (ap (step_of (Some (c, q)) r.mandatory) (ap fitted (size_is v e) ∙ sym (fit_is (length (octets_of v)) p k)) ∙ step_over c q r.mandatory (length (octets_of v)) (λ z. omega arith) k o)
            ∙ (stop ∙ sym (over_planned o))
        by true e false f false g =
            let p = has_some v e in
            let k = ltb-false 8192 (length (octets_of v)) f in
            let o = ltb-false 8192 (q + element_size (length (octets_of v))) g in
            ap go (ap (step_of (Some (c, q)) r.mandatory) (ap fitted (size_is v e) ∙ sym (fit_is (length (octets_of v)) p k)) ∙ step_more c q r.mandatory (length (octets_of v)) (λ z. omega arith) k o)
            ∙ (on (c + 1) (q + element_size (length (octets_of v))) o ∙ more_planned e)

  one_row : (y : Given (List ℕ)) → go (step_of (Some (c, q)) r.mandatory (size_given y)) ≡ planned c q (r ∷ t) (y ∷ vs)
  unfolding size_given
  one_row (given v) = one_given v
  one_row absent = one_absent r.mandatory refl

pub plan_all : (t : List Row) (vs : List (Given (List ℕ))) (c q : ℕ) → length t ≡ length vs → q ≤ 8192 → plan_to (Some (c, q)) t (map size_given vs) (length t) ≡ planned c q t vs
unfolding plan_to elements_good elements_octets how_many
plan_all [] [] c q e h = rw (add-zero q, add-zero c, le-leb q 8192 h)
plan_all [] (x ∷ xs) c q e h = absurd (omega arith)
plan_all (r ∷ t) [] c q e h = absurd (omega arith)
plan_all (r ∷ t) (x ∷ xs) c q e h =
    plan_shift (Some (c, q)) r t (size_given x) (map size_given xs) (length t)
    ∙ one_row r t xs (λ (p : Plan). plan_to p t (map size_given xs) (length t)) (plan_none t _ (length t)) (λ a b k. plan_all t xs a b (omega arith) k) c q h x

-- ---- what a plan tells

step_fits : (p : Plan) (m : Bool) (n c q : ℕ) → step_of p m n ≡ Some (c, q) → n ≤ 8192
unfolding step_of
step_fits None m n c q e = let z : ◌≡◌ {A = ℕ} 0 1 = cc in absurd (omega arith)
step_fits (Some (a, b)) m n c q e = by (eqb n 0) refl (ltb 8192 n) refl e
  where
    by : (x : Bool) → eqb n 0 ≡ x → (y : Bool) → ltb 8192 n ≡ y
        → pick x (pick {A = Plan} m None (Some (a, b))) (pick y None (pick (ltb 8192 (b + element_size n)) None (Some (a + 1, b + element_size n)))) ≡ Some (c, q) → n ≤ 8192
    by true f y g e = let z = eqb-true n 0 f in omega arith
    by false f true g e = let z : ◌≡◌ {A = ℕ} 0 1 = cc in absurd (omega arith)
    by false f false g e = ltb-false 8192 n g

-- each value of a plan fits
pub plan_fits : (p : Plan) (t : List Row) (ns : List ℕ) (n c q : ℕ) → plan_to p t ns n ≡ Some (c, q) → (i : ℕ) → i < n → get_or ns i 0 ≤ 8192
unfolding plan_to step_of
plan_fits p t ns zero c q e i h = absurd (omega arith)
plan_fits p t ns (suc n) c q e i h = by (eqb i n) refl (plan_to p t ns n) (λ a b k. plan_fits p t ns n a b k i) e refl
  where
    by : (x : Bool) → eqb i n ≡ x → (r : Plan) → ((a b : ℕ) → plan_to p t ns n ≡ Some (a, b) → i < n → get_or ns i 0 ≤ 8192)
        → step_of r (get_or t n no_row).mandatory (get_or ns n 0) ≡ Some (c, q) → plan_to p t ns n ≡ r → get_or ns i 0 ≤ 8192
    by true f r k e g = let j : i ≡ n = eqb-true i n f in rw j (step_fits r (get_or t n no_row).mandatory (get_or ns n 0) c q e)
    by false f None k e g = let z : ◌≡◌ {A = ℕ} 0 1 = cc in absurd (omega arith)
    by false f (Some (a, b)) k e g = let j = eqb-false i n f in k a b g (omega arith)

module _ (t : List Row) (vs : List (Given (List ℕ))) where
  pub planned_is : {c q : ℕ} → planned 0 0 t vs ≡ Some (c, q) → (elements_good t vs ≡ true) × (c ≡ how_many vs) × (q ≡ length (elements_octets t vs)) × (q ≤ 8192)
  planned_is {c} {q} e = by (elements_good t vs) (leb (0 + length (elements_octets t vs)) 8192) refl e
    where
      by : (a b : Bool) → leb (0 + length (elements_octets t vs)) 8192 ≡ b → pick {A = Plan} (a && b) (Some (0 + how_many vs, 0 + length (elements_octets t vs))) None ≡ Some (c, q)
          → (a ≡ true) × (c ≡ how_many vs) × (q ≡ length (elements_octets t vs)) × (q ≤ 8192)
      by true true f e =
          let p : ◌≡◌ {A = ℕ × ℕ} (0 + how_many vs, 0 + length (elements_octets t vs)) (c, q) = cc in
          let x = ap (λ (p : ℕ × ℕ). p.0) p in
          let y = ap (λ (p : ℕ × ℕ). p.1) p in
          (refl, omega arith, omega arith, omega (arith, leb-true (0 + length (elements_octets t vs)) 8192 f))
      by true false f e = let z : ◌≡◌ {A = ℕ} 0 1 = cc in absurd (omega arith)
      by false b f e = let z : ◌≡◌ {A = ℕ} 0 1 = cc in absurd (omega arith)

  pub planned_none : planned 0 0 t vs ≡ None → (n : ℕ) → length (elements_octets t vs) ≤ n → (elements_good t vs && leb n 8192) ≡ false
  planned_none e n h = by (elements_good t vs) (leb (0 + length (elements_octets t vs)) 8192) refl e
    where
      by : (a b : Bool) → leb (0 + length (elements_octets t vs)) 8192 ≡ b → pick {A = Plan} (a && b) (Some (0 + how_many vs, 0 + length (elements_octets t vs))) None ≡ None → (a && leb n 8192) ≡ false
      by true true f e = let z : ◌≡◌ {A = ℕ} 0 1 = cc in absurd (omega arith)
      by true false f e = let k = leb-false (0 + length (elements_octets t vs)) 8192 f in lt-leb n 8192 (omega arith)
      by false b f e = refl
