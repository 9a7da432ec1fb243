-- The answer over the numbers that were gathered is the answer for the associations that the records stand for.
use mathlib.Core.Path.{◌≡◌, refl, ap, sym, ◌∙◌}
use mathlib.Core.Bool.{Bool, true, false, not, ◌&&◌, ◌||◌, or-false}
use mathlib.Core.List.{List, [], ◌∷◌, ◌++◌, map}
use Prim.Native.Nat.{ℕ, suc, min, ◌+◌, ◌*◌, ◌≤◌, ◌<◌}
use native.Mathlib.Omega.{arith}
use borrow.Author.Tests.{eqb-true, eq-eqb, leb-true}
use lib.Dec.{eqb, leb}
use lib.ListN.{length, length-map, get_or, set, take}
use lib.Seq.{take_all}
use Rattle.lists.specs.Lists.{pick, keep, some, apart, fill}
use Rattle.lists.proofs.Apart.{apart_map}
use Rattle.lists.proofs.Copy.{Copied, copied_more}
use Rattle.lists.proofs.Fill.{take_fill}
use Rattle.lists.proofs.Slices.{take_next}
use Rattle.lists.proofs.Some.{some_append}
use Rattle.lists.proofs.Tests.{both_ways, and_left, and_right}
use Rattle.distinct.specs.Series.{same_mme, same_mce}
use Rattle.table.specs.Table.{State, distinct_held}
use Rattle.table.specs.declared.Association.{Association}
use Rattle.console.specs.Console.{tmgi_of, stands_for, same_tmgi, has_tmgi, no_table, is_table, counted, elsewhere, counted_run}
use Rattle.console.specs.Numbers.{Octets6, Octets3, six_of, three_of, tmgi_number, mme_of, mce_of, no_mme, no_mce, gathered, put_in, counted_in}
use Rattle.console.specs.declared.Three.{Three}
use Rattle.console.specs.declared.TmgiOctets.{TmgiOctets}
use Rattle.console.specs.declared.Record.{Record}
use Rattle.console.specs.declared.Counted.{Counted}

-- one record more
pub gathered_more : (ys : List Record) (i : ℕ) (d : Record) → i < length ys → i < 256 → put_in (gathered (take i ys)) i (get_or ys i d) ≡ gathered (take (i + 1) ys)
unfolding gathered put_in
gathered_more ys i d h k = λ j. record { mmes = field no_mme mme_of j; mces = field no_mce mce_of j; tmgis = field 0 tmgi_number j; elsewhere = far j }
  where
    field : {B : Type 0} (z : B) (f : Record → B) → set (fill z 256 (map f (take i ys))) i (f (get_or ys i d)) ≡ fill z 256 (map f (take (i + 1) ys))
    field z f =
        let s : Copied f z 256 ys (i + 1) (fill z 256 (map f (take i ys))) i = record { within = omega arith; array = refl } in
        (copied_more s d (omega arith) (omega arith) (omega arith)).array

    far : (some elsewhere (take i ys) || elsewhere (get_or ys i d)) ≡ some elsewhere (take (i + 1) ys)
    far = sym (ap (some elsewhere) (take_next ys i d h) ∙ some_append elsewhere (take i ys) (get_or ys i d ∷ []) ∙ rw (or-false (elsewhere (get_or ys i d))))

-- of each record the TMGI is octets
abbrev pub Each : List Record → Type 0
Each [] = Unit {0}
Each (r ∷ l) = Octets6 r.tmgi × Each l

each_behind : (l : List Record) (r : Record) → Each l → Octets6 r.tmgi → Each (l ++ (r ∷ []))
each_behind [] r h o = (o, tt)
each_behind (a ∷ l) r h o = (h.0, each_behind l r h.1 o)

pub each_more : (ys : List Record) (i : ℕ) (d : Record) → i < length ys → Each (take i ys) → Octets6 (get_or ys i d).tmgi → Each (take (i + 1) ys)
each_more ys i d h e o = rw (take_next ys i d h) (each_behind (take i ys) (get_or ys i d) e o)

-- digits below the base are told by the sum
low : (a b x y : ℕ) → a * 256 + x ≡ b * 256 + y → x < 256 → y < 256 → (a ≡ b) × (x ≡ y)
low a b x y e h k = (omega arith, omega arith)

high : (a b x y : ℕ) → a * 16777216 + x ≡ b * 16777216 + y → x < 16777216 → y < 16777216 → (a ≡ b) × (x ≡ y)
high a b x y e h k = (omega arith, omega arith)

three_below : (t : Three) → Octets3 t → three_of t < 16777216
three_below t h = omega (arith, h.0, h.1, h.2)

same_three : (a b : Three) → Octets3 a → Octets3 b → three_of a ≡ three_of b → a ≡ b
same_three a b h k e =
    let u = low _ _ _ _ e h.2 k.2 in
    let v = low _ _ _ _ u.0 h.1 k.1 in
    λ i. record { 0 = v.0 i; 1 = v.1 i; 2 = u.1 i }

same_octets : (a b : TmgiOctets) → Octets6 a → Octets6 b → six_of a ≡ six_of b → a ≡ b
unfolding six_of
same_octets a b h k e =
    let u = high _ _ _ _ e (three_below a.service h.service) (three_below b.service k.service) in
    let p = same_three a.plmn b.plmn h.plmn k.plmn u.0 in
    let s = same_three a.service b.service h.service k.service u.1 in
    λ i. record { plmn = p i; service = s i }

all_six : (p q r s t u : Bool) → (p && q && r && s && t && u) ≡ true → (p ≡ true) × (q ≡ true) × (r ≡ true) × (s ≡ true) × (t ≡ true) × (u ≡ true)
all_six p q r s t u e =
    let v = and_left (p && q && r && s && t) u e in
    let w = and_left (p && q && r && s) t v in
    let x = and_left (p && q && r) s w in
    let y = and_left (p && q) r x in
    (and_left p q y, and_right p q y, and_right (p && q) r x, and_right (p && q && r) s w, and_right (p && q && r && s) t v, and_right (p && q && r && s && t) u e)

equal_octets : (a b : TmgiOctets) → same_tmgi (tmgi_of a) (tmgi_of b) ≡ true → a ≡ b
equal_octets a b e =
    let h =
    all_six (eqb a.plmn.0 b.plmn.0) (eqb a.plmn.1 b.plmn.1) (eqb a.plmn.2 b.plmn.2)
    (eqb a.service.0 b.service.0) (eqb a.service.1 b.service.1) (eqb a.service.2 b.service.2) e in
    λ i. record {
      plmn = record { 0 = eqb-true a.plmn.0 b.plmn.0 h.0 i; 1 = eqb-true a.plmn.1 b.plmn.1 h.1 i; 2 = eqb-true a.plmn.2 b.plmn.2 h.2 i };
      service = record { 0 = eqb-true a.service.0 b.service.0 h.3 i; 1 = eqb-true a.service.1 b.service.1 h.4 i; 2 = eqb-true a.service.2 b.service.2 h.5 i };
    }

-- numbers are equal where all six octets are
same_number_lem : (a b : TmgiOctets) → Octets6 a → Octets6 b → eqb (six_of a) (six_of b) ≡ same_tmgi (tmgi_of a) (tmgi_of b)
same_number_lem a b h k =
    both_ways _ _ (λ e. rw (same_octets a b h k (eqb-true _ _ e)) whole) (λ e. eq-eqb _ _ (ap six_of (equal_octets a b e)))
  where
    self : (x : ℕ) → eqb x x ≡ true
    self x = eq-eqb x x refl

    whole : same_tmgi (tmgi_of b) (tmgi_of b) ≡ true
    whole = rw (self b.plmn.0, self b.plmn.1, self b.plmn.2, self b.service.0, self b.service.1, self b.service.2)

-- as many numbers are the TMGI's as associations have the TMGI
same_count : (t : TmgiOctets) → Octets6 t → (ys : List Record) → Each ys →
    length (keep (λ (x : ℕ). eqb x (six_of t)) (map tmgi_number ys)) ≡ length (keep (has_tmgi (tmgi_of t)) (map stands_for ys))
same_count t o [] e = refl
same_count t o (r ∷ ys) e = rw (same_number_lem r.tmgi t e.0 o) (one (same_tmgi (tmgi_of r.tmgi) (tmgi_of t)) _ _ (same_count t o ys e.1))
  where
    one : (b : Bool) (l : List ℕ) (m : State) → length l ≡ length m → length (pick b (tmgi_number r ∷ []) [] ++ l) ≡ length (pick b (stands_for r ∷ []) [] ++ m)
    one true l m h = ap suc h
    one false l m h = h

module _ {B : Type 0} (z : B) (f : Record → B) where
  front : (ys : List Record) → take (length ys) (fill z 256 (map f ys)) ≡ map f ys
  front ys = ap (λ (k : ℕ). take k (fill z 256 (map f ys))) (sym (length-map ys f)) ∙ take_fill z 256 (map f ys)

  -- no identity stands twice where none is shared
  series : (alike : B → B → Bool) (g : Association → B) → ((r : Record) → f r ≡ g (stands_for r)) → (ys : List Record) →
      apart alike (take (length ys) (fill z 256 (map f ys))) ≡ apart (λ (a b : Association). alike (g a) (g b)) (map stands_for ys)
  series alike g e ys =
      ap (apart alike) (front ys) ∙ apart_map alike f ys ∙ ap (λ (h : Record → B). apart (λ (a b : Record). alike (h a) (h b)) ys) (λ i r. e r i)
      ∙ sym (apart_map (λ (a b : Association). alike (g a) (g b)) stands_for ys)

-- a run of at most 256, all of it gathered
small : (t : TmgiOctets) → Octets6 t → (ys : List Record) → Each ys → counted_in (gathered ys) (length ys) (six_of t) ≡ counted_run (tmgi_of t) ys
unfolding counted_in gathered counted_run counted is_table distinct_held
small t o ys e =
    rw (series no_mme mme_of same_mme (λ (a : Association). a.mme) (λ r. refl) ys, series no_mce mce_of same_mce (λ (a : Association). a.mce) (λ r. refl) ys, front 0 tmgi_number ys, length-map ys stands_for, same_count t o ys e)
    (by (some elsewhere ys) (leb (length ys) 256) _ _)
  where
    by : (far few alone : Bool) (c : Counted) → pick (few && (not far && alone)) c no_table ≡ pick far no_table (pick (few && alone) c no_table)
    by true true alone c = refl
    by true false alone c = refl
    by false few alone c = refl

-- a longer run is no table, whatever was gathered
long : (t : TmgiOctets) (ys zs : List Record) → leb (length ys) 256 ≡ false → counted_in (gathered zs) (length ys) (six_of t) ≡ counted_run (tmgi_of t) ys
unfolding counted_in counted_run counted is_table
long t ys zs h = rw (length-map ys stands_for, h) (by (some elsewhere ys))
  where
    by : (far : Bool) → no_table ≡ pick far no_table no_table
    by true = refl
    by false = refl

pub answered : (t : TmgiOctets) → Octets6 t → (ys : List Record) (i : ℕ) → min (length ys) 256 ≤ i → i ≤ min (length ys) 256 → Each (take i ys) →
    counted_in (gathered (take i ys)) (length ys) (six_of t) ≡ counted_run (tmgi_of t) ys
answered t o ys i g h e = by (leb (length ys) 256) refl
  where
    by : (b : Bool) → leb (length ys) 256 ≡ b → counted_in (gathered (take i ys)) (length ys) (six_of t) ≡ counted_run (tmgi_of t) ys
    by true w = let k : length ys ≤ 256 = leb-true _ _ w in let q : take i ys ≡ ys = take_all i ys (omega arith) in rw q (small t o ys (rw q at e))
    by false w = long t ys (take i ys) w
