-- A value's octets, where they end with what encloses them, are read back as the value; and they are at least one.
-- Assumes nothing.
use Prim.Native.Nat.{ℕ, ◌+◌, ◌<◌, ◌≤◌}
use mathlib.Core.Path.{◌≡◌, ◌∙◌, refl, sym, ap}
use mathlib.Core.Bool.{Bool, true, false, ◌&&◌}
use mathlib.Core.List.{List, [], ◌∷◌, map}
use native.Mathlib.Omega.{arith}
use borrow.Author.Tests.{ltb-true, leb-true, lt-ltb, le-leb, not-true}
use lib.Dec.{ltb, leb}
use lib.ListN.{length, take, drop, length-drop}
use lib.Seq.{take_all, take-take, length-take-le}
use Rattle.lists.specs.Lists.{pick}
use Rattle.lists.proofs.Tests.{and_left, and_right}
use Rattle.std.specs.Prelude.{Ok, Err, None, Option, Some}
use Rattle.octets.specs.Read.{Read, ◌>>=◌, ◌>>◌}
use Rattle.octets.specs.Field.{plain_at, number_at}
use Rattle.octets.specs.Stands.{Fills}
use Rattle.octets.proofs.Chain.{past, then_got}
use Rattle.octets.proofs.Stood.{fills_alone}
use Rattle.octets.proofs.Got.{plain_got, number_got}
use Rattle.octets.specs.Many.{Each}
use Rattle.identity.specs.declared.MmeId.{MmeId}
use Rattle.identity.specs.declared.MceId.{MceId}
use Rattle.identity.specs.declared.Tmgi.{Tmgi}
use Rattle.identity.specs.declared.Item.{Item}
use Rattle.values.specs.declared.Cause.{Cause}
use Rattle.values.specs.Values.{whole_at, identity_at, mme_at, mce_at, tmgi_at, one_at, two_at, cause_at, wait_at}
use Rattle.values.proofs.Back.{mme_back, mce_back, tmgi_back, one_back, two_back, cause_back, wait_back}
use Rattle.names.specs.Names.{name_at}
use Rattle.names.proofs.Good.{name_in_lem}
use Rattle.names.proofs.Back.{name_back}
use Rattle.items.specs.Items.{ResetType, whole, part, items_at, reset_at}
use Rattle.items.specs.Written.{acknowledgement_crit, GoodReset}
use Rattle.items.proofs.Back.{items_back, reset_back}
use Rattle.entries.specs.declared.Entry.{Entry}
use Rattle.diagnostics.specs.Diagnostics.{Diagnostics, marks_at, head_at, diagnostics_at}
use Rattle.diagnostics.specs.Written.{Under, GoodEntry, GoodDiagnostics}
use Rattle.diagnostics.proofs.Bounds.{marks_in_lem}
use Rattle.diagnostics.proofs.Back.{diagnostics_back}
use Rattle.rows.specs.declared.Kind.{Kind}
use Rattle.rows.specs.declared.Kind.TheVariants as kind
use Rattle.rows.specs.declared.Row.{Row}
use Rattle.rows.specs.declared.Triggers.{Triggers}
use Rattle.rows.specs.declared.Triggers.TheVariants.{Three, Four}
use Rattle.rows.specs.Table.{meanings}
use Rattle.kinds.specs.Kinds.{legible_at}
use Rattle.meaning.specs.Value.{Value, Given, on_given, carried, mme, mce, tmgi, one, two, cause, wait, name, reset, list, diagnostics, octets_in, on_carried}
use Rattle.meaning.specs.Written.{octets_of, has_octets, is_list_length, under, entry_good, entries_good, diagnostics_good, reset_good}
use Rattle.meaning.specs.Reading.{read_as, values_in}
use Rattle.octets.specs.declared.Span.{Span}
use Rattle.octets.specs.Span.{no_span}
use Rattle.meaning.specs.Ranges.{value_kind, InRange, ResetRange, DiagnosticsRange}
use Rattle.round_trips.proofs.Each.{each_pass}

-- ---- a value that has octets is good

pub counted_bounds : (n : ℕ) → is_list_length n ≡ true → (0 < n) × (n ≤ 256)
counted_bounds n e = (ltb-true 0 n (and_left (ltb 0 n) (leb n 256) e), leb-true n 256 (and_right (ltb 0 n) (leb n 256) e))

reset_has : (r : ResetType) → ResetRange r → reset_good r ≡ true → GoodReset r
reset_has whole g e = tt
reset_has (part is) g e = let b = counted_bounds (length is) e in (b.0, b.1, g)

number_has : (n : ℕ) (x : Option ℕ) → under n x ≡ true → Under n x
number_has n (Some v) e = ltb-true v n e
number_has n None e = tt

entries_has : (es : List Entry) → Each (λ (e : Entry). e.id < 65536) es → Each (λ (e : Entry). entry_good e ≡ true) es → Each GoodEntry es
entries_has [] g h = tt
entries_has (e ∷ es) g h = (
  record {
    crit = ltb-true e.crit 3 (and_left (ltb e.crit 3) (ltb e.error 2) h.0);
    id = g.0;
    error = ltb-true e.error 2 (and_right (ltb e.crit 3) (ltb e.error 2) h.0);
  },
  entries_has es g.1 h.1,
)

-- entries are there exactly where a list is
listed_has : (b : Bool) (es : List Entry) → Each (λ (e : Entry). e.id < 65536) es → (b ≡ false → es ≡ []) → pick b (entries_good es) true ≡ true
    → Each GoodEntry es × (b ≡ ltb 0 (length es)) × (length es ≤ 256)
listed_has true es g n e =
    let c = counted_bounds (length es) (and_left (is_list_length (length es)) _ e) in
    (entries_has es g (each_pass entry_good es (not-true _ (and_right (is_list_length (length es)) _ e))), sym (lt-ltb 0 (length es) c.0), c.1)
listed_has false es g n e = rw (n refl) (tt, refl, omega arith)

pub diagnostics_has : (n : ℕ) (d : Diagnostics) → DiagnosticsRange d → diagnostics_good n d ≡ true → GoodDiagnostics n d
diagnostics_has n d g e =
    let a = and_left (under n d.head.trigger && under 3 d.head.crit) _ e in
    let l = listed_has d.head.listed d.entries g.ids g.none (and_right (under n d.head.trigger && under 3 d.head.crit) _ e) in
    record {
      head = record {
        code = g.code;
        trigger = number_has n d.head.trigger (and_left (under n d.head.trigger) _ a);
        crit = number_has 3 d.head.crit (and_right (under n d.head.trigger) _ a);
      };
      entries = l.0;
      listed = l.1;
      count = l.2;
    }

-- two bits hold the meanings
meanings_few : (t : Triggers) → meanings t ≤ 4
meanings_few Three = omega arith
meanings_few Four = omega arith

-- ---- a value read back

drop_filled : (s : List ℕ) (at : ℕ) (os : List ℕ) → Fills s at os → drop at s ≡ os
drop_filled s at os f =
    let e = f.ends in
    let l = length-drop at s in
    sym (take_all (length os) (drop at s) (omega arith)) ∙ f.stands.octets

-- octets at a place in the front of s are those at that place in s
pub front_in : (s : List ℕ) (n : ℕ) (v : Span) → v.to ≤ n → n ≤ length s → octets_in (take n s) v ≡ octets_in s v
front_in s n v h i =
    let l = length-take-le n s i in
    rw (le-leb v.to (length (take n s)) (omega arith), le-leb v.to (length s) (omega arith), take-take v.to n s h)

-- what stands at a place, as it is read and said
abbrev pub said_at : Kind → List ℕ → Span → Read (Value (List ℕ))
said_at k s p = read_as k s p >>= λ x. Ok (on_carried (octets_in s) x)

-- and what stands at a table's places
abbrev pub said_in : List Row → List ℕ → List Span → List (Given (List ℕ))
said_in t s l = map (on_given (octets_in s)) (values_in t s l)

pub value_back : (s : List ℕ) (p : Span) (v : Value (List ℕ)) → InRange v → has_octets v ≡ true → p.to ≤ length s → Fills (take p.to s) p.from (octets_of v)
    → Ok v ≡ said_at (value_kind v) s p
unfolding octets_of has_octets read_as on_carried
value_back s p (carried os) g e h f = rw (le-leb p.to (length s) h) (ap (λ (x : List ℕ). Ok (carried x)) (sym (drop_filled (take p.to s) p.from os f)))
value_back s p (mme v) g e h f = rw (sym (mme_back (take p.to s) p.from v g f)) refl
value_back s p (mce v) g e h f = rw (sym (mce_back (take p.to s) p.from v g f)) refl
value_back s p (tmgi v) g e h f = rw (sym (tmgi_back (take p.to s) p.from v f)) refl
value_back s p (one v) g e h f = rw (sym (one_back (take p.to s) p.from v g f)) refl
value_back s p (two v) g e h f = rw (sym (two_back (take p.to s) p.from v g f)) refl
value_back s p (cause v) g e h f = rw (sym (cause_back (take p.to s) p.from v (ltb-true _ _ e) f)) refl
value_back s p (wait v) g e h f = rw (sym (wait_back (take p.to s) p.from v (ltb-true _ _ e) f)) refl
value_back s p (name os) g e h f =
    let b = name_back (take p.to s) p.from os e f in
    let v : Span = record { from = p.from + 2; to = p.from + 2 + length os } in
    let i = name_in_lem (take p.to s) p.from {v = v} b.0 in
    let k : v.to ≤ p.to = omega (arith, i.2, length-take-le p.to s h) in
    rw (sym b.0) (ap (λ (x : List ℕ). Ok (name x)) (sym b.1 ∙ front_in s p.to v k h))
value_back s p (reset v) g e h f = rw (sym (reset_back (take p.to s) p.from v (reset_has v g e) f)) refl
value_back s p (list is) g e h f =
    let b = counted_bounds (length is) e in
    rw (sym (items_back acknowledgement_crit (omega arith) (take p.to s) p.from is (b.0, b.1, g) f)) refl
value_back s p (diagnostics t d) g e h f = rw (sym (diagnostics_back (take p.to s) (meanings t) (meanings_few t) p.from d (diagnostics_has (meanings t) d g e) f.stands f.ends)) refl

-- what can be scanned is what can be read as a value
dropped : {A : Type 0} (is : A → Value Span) (r : Read A) → ◌≡◌ {A = Read Unit} (r >> Ok tt) (r >>= (λ x. Ok (is x)) >> Ok tt)
dropped is (Ok a) = refl
dropped is (Err x) = refl

pub scanned_as : (k : Kind) (s : List ℕ) (p : Span) → legible_at k (take p.to s) p.from ≡ (read_as k s p >> Ok tt)
unfolding legible_at read_as
scanned_as kind.Carried s p = refl
scanned_as kind.Mme s p = dropped mme (mme_at (take p.to s) p.from)
scanned_as kind.Mce s p = dropped mce (mce_at (take p.to s) p.from)
scanned_as kind.Tmgi s p = dropped tmgi (tmgi_at (take p.to s) p.from)
scanned_as kind.OneOctet s p = dropped one (one_at (take p.to s) p.from)
scanned_as kind.TwoOctets s p = dropped two (two_at (take p.to s) p.from)
scanned_as kind.Cause s p = dropped cause (cause_at (take p.to s) p.from)
scanned_as kind.Wait s p = dropped wait (wait_at (take p.to s) p.from)
scanned_as kind.Name s p = dropped name (name_at (take p.to s) p.from)
scanned_as kind.ResetType s p = dropped reset (reset_at (take p.to s) p.from)
scanned_as kind.Acknowledged s p = dropped list (items_at (take p.to s) p.from)
scanned_as (kind.Diagnostics t) s p = dropped (diagnostics t) (diagnostics_at (meanings t) (take p.to s) p.from)

pub value_read : (k : Kind) (s : List ℕ) (p : Span) {v : Value (List ℕ)} → Ok v ≡ said_at k s p → Ok tt ≡ legible_at k (take p.to s) p.from
value_read k s p q = let a = then_got (read_as k s p) _ q in past _ a.0 a.1 refl ∙ sym (scanned_as k s p)

-- ---- of no octets nothing is read

module _ (at : ℕ) where
  whole_none : (k : ℕ) {v : ℕ} → 0 < k → Ok v ≡ whole_at k [] at → ⊥
  whole_none k h q = omega (arith, (number_got [] at k (then_got (number_at k [] at) _ q).1).0)

  pub two_none : (v : ℕ) → Ok v ≡ two_at [] at → ⊥
  unfolding two_at
  two_none v q = whole_none 2 (omega arith) q

  identity_none : {I : Type 0} (numbered : ℕ → I) (v : I) → Ok v ≡ identity_at numbered [] at → ⊥
  unfolding identity_at
  identity_none numbered v q = two_none _ (then_got (two_at [] at) _ q).1

  pub mme_none : (v : MmeId) → Ok v ≡ mme_at [] at → ⊥
  mme_none = identity_none _

  pub mce_none : (v : MceId) → Ok v ≡ mce_at [] at → ⊥
  mce_none = identity_none _

  pub one_none : (v : ℕ) → Ok v ≡ one_at [] at → ⊥
  unfolding one_at
  one_none v q = whole_none 1 (omega arith) q

  -- a first bit
  plain_none : {A : Type 0} (go : Unit → Read A) {v : A} → Ok v ≡ plain_at [] at 0 >>= go → ⊥
  plain_none go q = omega (arith, (plain_got [] at 0 (then_got (plain_at [] at 0) go q).1).0)

  pub tmgi_none : (v : Tmgi) → Ok v ≡ tmgi_at [] at → ⊥
  unfolding tmgi_at
  tmgi_none v q = plain_none _ q

  pub cause_none : (v : Cause) → Ok v ≡ cause_at [] at → ⊥
  unfolding cause_at
  cause_none v q = plain_none _ q

  pub wait_none : (v : ℕ) → Ok v ≡ wait_at [] at → ⊥
  unfolding wait_at
  wait_none v q = plain_none _ q

  pub name_none : (v : Span) → Ok v ≡ name_at [] at → ⊥
  unfolding name_at
  name_none v q = plain_none _ q

  pub reset_none : (v : ResetType) → Ok v ≡ reset_at [] at → ⊥
  unfolding reset_at
  reset_none v q = plain_none _ q

  pub items_none : (v : List Item) → Ok v ≡ items_at [] at → ⊥
  unfolding items_at
  items_none v q = omega (arith, (number_got [] at 1 (then_got (number_at 1 [] at) _ q).1).0)

  pub diagnostics_none : (n : ℕ) (v : Diagnostics) → Ok v ≡ diagnostics_at n [] at → ⊥
  unfolding diagnostics_at head_at
  diagnostics_none n v q = omega (arith, marks_in_lem [] at (then_got (marks_at [] at) _ (then_got (head_at n [] at) _ q).1).1)

-- a value that has octets has at least one
some_octets : (v : Value (List ℕ)) → has_octets v ≡ true → octets_of v ≡ [] → Ok tt ≡ legible_at (value_kind v) [] 0 → ⊥
unfolding octets_of has_octets legible_at
some_octets (carried os) e z q = let h = ltb-true 0 (length os) e in omega (arith, ap length z)
some_octets (mme v) e z q = mme_none 0 _ (then_got (mme_at [] 0) _ q).1
some_octets (mce v) e z q = mce_none 0 _ (then_got (mce_at [] 0) _ q).1
some_octets (tmgi v) e z q = tmgi_none 0 _ (then_got (tmgi_at [] 0) _ q).1
some_octets (one v) e z q = one_none 0 _ (then_got (one_at [] 0) _ q).1
some_octets (two v) e z q = two_none 0 _ (then_got (two_at [] 0) _ q).1
some_octets (cause v) e z q = cause_none 0 _ (then_got (cause_at [] 0) _ q).1
some_octets (wait v) e z q = wait_none 0 _ (then_got (wait_at [] 0) _ q).1
some_octets (name os) e z q = name_none 0 _ (then_got (name_at [] 0) _ q).1
some_octets (reset v) e z q = reset_none 0 _ (then_got (reset_at [] 0) _ q).1
some_octets (list is) e z q = items_none 0 _ (then_got (items_at [] 0) _ q).1
some_octets (diagnostics t d) e z q = diagnostics_none 0 (meanings t) _ (then_got (diagnostics_at (meanings t) [] 0) _ q).1

pub value_size : (v : Value (List ℕ)) → InRange v → has_octets v ≡ true → 0 < length (octets_of v)
value_size v g e = by (octets_of v) refl
  where
    by : (os : List ℕ) → octets_of v ≡ os → 0 < length os
    by [] z = absurd (some_octets v e z (value_read (value_kind v) [] no_span (value_back [] no_span v g e (omega arith) (rw z (fills_alone [])))))
    by (o ∷ os) z = omega arith
