-- What is seen of values, by how they are read.
--     also_within   what a row gives, by its reading
--     unseen        a value of which the rules see nothing
--     reset_seen_lem    what is seen of a Reset Type that can be read, by its second bit
--     seen_value    what a row gives, by the reading of its value
--     seen_row      one row more
-- Assumes nothing.
use Prim.Native.Nat.{ℕ, suc, min, ◌+◌, ◌<◌}
use mathlib.Core.Path.{◌≡◌, ◌∙◌, refl, sym, ap, subst}
use mathlib.Core.Bool.{Bool, true, false}
use mathlib.Core.List.{List, []}
use native.Mathlib.Numerals.{add-one}
use borrow.Author.Tests.{lt-ltb}
use lib.ListN.{length, take, drop, get_or}
use lib.Seq.{drop-cons, drop-length}
use Rattle.lists.specs.Lists.{pick}
use Rattle.lists.proofs.Slices.{take_within}
use Rattle.std.specs.Prelude.{Ok, Err, None, Some, Option}
use Rattle.std.specs.Result.{result_ok}
use Rattle.octets.specs.Read.{Read, ◌>>=◌, ◌>>◌}
use Rattle.octets.specs.Field.{flag_at, plain_at, pad_at, ends_at}
use Rattle.octets.specs.Span.{no_span, present}
use Rattle.octets.specs.declared.Stop.{Stop}
use Rattle.octets.proofs.Chain.{then_got, same_got, got_stop}
use Rattle.items.specs.Items.{ResetType, whole, part, items_at, chosen_reset_at, reset_at}
use Rattle.rows.specs.declared.Row.{Row}
use Rattle.rows.specs.declared.Kind.{Kind}
use Rattle.rows.specs.declared.Kind.TheVariants as kind
use Rattle.rows.specs.Table.{no_row, meanings}
use Rattle.values.specs.Values.{two_at, cause_at}
use Rattle.names.specs.Names.{name_at}
use Rattle.diagnostics.specs.Diagnostics.{diagnostics_at}
use Rattle.octets.specs.declared.Span.{Span}
use Rattle.meaning.specs.Value as value
use Rattle.meaning.specs.Value.{Value, given, absent}
use Rattle.meaning.specs.Reading.{within, or_absent, read_as, value_in, values_in}
use Rattle.requests.specs.declared.Seen.{Seen}
use Rattle.requests.specs.declared.Extent.{Extent}
use Rattle.requests.specs.declared.Extent.TheVariants as extent
use Rattle.requests.specs.Requests.{nothing, seeing, also, also_read, reset_seen, seen}

pub also_within : {A : Type 0} (reading : List ℕ → ℕ → Read A) (kind : A → Value Span) (s : List ℕ) (v : Span) (x : Seen)
    → also (or_absent (within reading kind s v)) x ≡ also_read kind (reading (take v.to s) v.from) x
also_within {A} reading kind s v x = by (reading (take v.to s) v.from)
  where
    by : (r : Read A) → also (or_absent (r >>= λ a. Ok (kind a))) x ≡ also_read kind r x
    by (Ok a) = refl
    by (Err y) = refl

pub unseen : {A : Type 0} (kind : A → Value Span) (r : Read A) (x : Seen) → ((a : A) → seeing (kind a) x ≡ x) → also_read kind r x ≡ x
unseen kind (Ok a) x e = e a
unseen kind (Err y) x e = refl

some_none : {A B : Type 0} {a : A} → ◌≡◌ {A = Option A} (Some a) None → B
some_none {A} {B} {a} q = absurd (subst (λ (o : Option A). There o) q tt)
  where
    There : Option A → Type 0
    There (Some x) = Unit
    There None = ⊥

-- ---- a Reset Type

-- what a reading gives, where its stop is let go
pub ok_some : {A : Type 0} (r : Read A) {o : Option A} {a : A} → o ≡ result_ok r → o ≡ Some a → Ok a ≡ r
ok_some {A = A} (Ok v) {a = a} e q = let h : v ≡ a = cc in ap (λ x. Ok x) (sym h)
ok_some {A = A} (Err x) {a = a} e q = let z : ◌≡◌ {A = Option A} None (Some a) = cc in some_none (sym z)

pub ok_none : {A : Type 0} (r : Read A) {o : Option A} → o ≡ result_ok r → o ≡ None → (x : Stop) × (Err x ≡ r)
ok_none {A = A} (Ok v) e q = some_none (sym e ∙ q)
ok_none (Err x) e q = (x, refl)

pub reset_none : (r : Read ResetType) {x : Stop} → ◌≡◌ {A = Read Unit} (Err x) (r >> Ok tt) → None ≡ reset_seen r
reset_none (Ok v) e = got_stop (sym e)
reset_none (Err y) e = refl

part_seen : (b : Bool) (s : List ℕ) (at : ℕ) (v : ResetType) → Ok v ≡ chosen_reset_at b s at → pick b (Some extent.Part) (Some extent.Whole) ≡ reset_seen (Ok v)
part_seen true s at v e =
    let a = then_got (pad_at s at 2) _ e in
    let d = then_got (items_at s (at + 1)) _ a.2 in
    ap reset_seen (sym d.2)
part_seen false s at v e =
    let a = then_got (plain_at s at 2) _ e in
    let d = then_got (pad_at s at 3) _ a.2 in
    let f = then_got (ends_at s (at + 1)) _ d.2 in
    ap reset_seen (sym f.2)

pub reset_seen_lem : (s : List ℕ) (at : ℕ) {b : Bool} → ◌≡◌ {A = Read Unit} (Ok tt) (reset_at s at >> Ok tt) → Ok b ≡ flag_at s at 1 → pick b (Some extent.Part) (Some extent.Whole) ≡ reset_seen (reset_at s at)
unfolding reset_at
reset_seen_lem s at {b} g h =
    let v = then_got (reset_at s at) _ g in
    let a = then_got (plain_at s at 0) _ v.1 in
    let d = then_got (flag_at s at 1) _ a.2 in
    let e : d.0 ≡ b = same_got (d.1 ∙ sym h) in
    let r : Ok v.0 ≡ chosen_reset_at b s at = rw (← e) d.2 in
    part_seen b s at v.0 r ∙ ap reset_seen v.1

pub reset_by_flag : (s : List ℕ) (at : ℕ) {b d : Bool} → ◌≡◌ {A = Read Unit} (Ok tt) (reset_at s at >> Ok tt) → Ok b ≡ flag_at s at 1 → b ≡ d → pick d (Some extent.Part) (Some extent.Whole) ≡ reset_seen (reset_at s at)
reset_by_flag s at g h e = ap (λ y. pick y (Some extent.Part) (Some extent.Whole)) (sym e) ∙ reset_seen_lem s at g h

-- where it can be read, its second bit is there
pub flag_there : (s : List ℕ) (at : ℕ) {y : Stop} {A : Type 0} → ◌≡◌ {A = Read Unit} (Ok tt) (reset_at s at >> Ok tt) → ◌≡◌ {A = Read Bool} (Err y) (flag_at s at 1) → A
unfolding reset_at
flag_there s at g h =
    let v = then_got (reset_at s at) _ g in
    let a = then_got (plain_at s at 0) _ v.1 in
    let d = then_got (flag_at s at 1) _ a.2 in
    got_stop (d.1 ∙ sym h)

abbrev pub with_reset : Option Extent → Seen → Seen
with_reset None x = x
with_reset (Some extent.Whole) x = seeing {C = Span} (value.reset whole) x
with_reset (Some extent.Part) x = seeing {C = Span} (value.reset (part [])) x

pub also_reset : (r : Read ResetType) (x : Seen) → with_reset (reset_seen r) x ≡ also_read value.reset r x
also_reset (Ok whole) x = refl
also_reset (Ok (part is)) x = refl
also_reset (Err y) x = refl

-- ---- a row

module _ (k : Kind) (s : List ℕ) (v : Span) (x : Seen) where
  pub none_there : v.to ≡ 0 → x ≡ also (value_in k s v) x
  unfolding value_in
  none_there e = rw e

  there : 0 < v.to → also (value_in k s v) x ≡ also (or_absent (read_as k s v)) x
  unfolding value_in
  there h = rw (lt-ltb 0 v.to h)

  pub seen_value : {A : Type 0} (reading : List ℕ → ℕ → Read A) (says : A → Value Span) → read_as k s v ≡ within reading says s v → 0 < v.to
      → {to : ℕ} {r : Seen} → to ≡ min v.to (length s) → r ≡ also_read says (reading (take to s) v.from) x → r ≡ also (value_in k s v) x
  seen_value reading says e h {to} {r} m q =
      q ∙ ap (λ l. also_read says (reading l v.from) x) (ap (λ n. take n s) m ∙ take_within s v.to (length s) refl refl)
      ∙ sym (there h ∙ ap (λ y. also (or_absent y) x) e ∙ also_within reading says s v x)

  pub not_seen : {A : Type 0} (reading : List ℕ → ℕ → Read A) (says : A → Value Span) → read_as k s v ≡ within reading says s v → ((a : A) → seeing (says a) x ≡ x) → x ≡ also (value_in k s v) x
  unfolding value_in
  not_seen reading says e u = by (pick_read (also_within reading says s v x ∙ unseen says (reading (take v.to s) v.from) x u))
    where
      pick_read : also (or_absent (within reading says s v)) x ≡ x → also (or_absent (read_as k s v)) x ≡ x
      pick_read h = rw e h

      on : (b : Bool) → also (or_absent (read_as k s v)) x ≡ x → x ≡ also (pick b (or_absent (read_as k s v)) absent) x
      on true h = sym h
      on false h = refl

      by : also (or_absent (read_as k s v)) x ≡ x → x ≡ also (pick (present v) (or_absent (read_as k s v)) absent) x
      by h = on (present v) h

pub carried_not_seen : (s : List ℕ) (v : Span) (x : Seen) → x ≡ also (value_in kind.Carried s v) x
unfolding value_in read_as
carried_not_seen s v x = on (present v)
  where
    on : (b : Bool) → x ≡ also (pick b (given (value.carried v)) absent) x
    on true = refl
    on false = refl

-- of the other kinds the rules see nothing
pub others_not_seen : (k : Kind) (s : List ℕ) (v : Span) (x : Seen)
    → (k ≡ kind.Mme → ⊥) → (k ≡ kind.Mce → ⊥) → (k ≡ kind.Tmgi → ⊥) → (k ≡ kind.OneOctet → ⊥) → (k ≡ kind.ResetType → ⊥) → (k ≡ kind.Wait → ⊥)
    → x ≡ also (value_in k s v) x
unfolding read_as
others_not_seen kind.Carried s v x _ _ _ _ _ _ = carried_not_seen s v x
others_not_seen kind.Mme s v x e _ _ _ _ _ = absurd (e refl)
others_not_seen kind.Mce s v x _ e _ _ _ _ = absurd (e refl)
others_not_seen kind.Tmgi s v x _ _ e _ _ _ = absurd (e refl)
others_not_seen kind.OneOctet s v x _ _ _ e _ _ = absurd (e refl)
others_not_seen kind.TwoOctets s v x _ _ _ _ _ _ = not_seen kind.TwoOctets s v x two_at value.two refl (λ _. refl)
others_not_seen kind.Cause s v x _ _ _ _ _ _ = not_seen kind.Cause s v x cause_at value.cause refl (λ _. refl)
others_not_seen kind.Wait s v x _ _ _ _ _ e = absurd (e refl)
others_not_seen kind.Name s v x _ _ _ _ _ _ = not_seen kind.Name s v x name_at value.name refl (λ _. refl)
others_not_seen kind.ResetType s v x _ _ _ _ e _ = absurd (e refl)
others_not_seen kind.Acknowledged s v x _ _ _ _ _ _ = not_seen kind.Acknowledged s v x items_at value.list refl (λ _. refl)
others_not_seen (kind.Diagnostics t) s v x _ _ _ _ _ _ = not_seen (kind.Diagnostics t) s v x (diagnostics_at (meanings t)) (value.diagnostics t) refl (λ _. refl)

-- behind the last row nothing is seen
pub seen_none : (t : List Row) (l : List Span) (s : List ℕ) {n : ℕ} {x : Seen} → n ≡ length t → x ≡ nothing → x ≡ seen (values_in (drop n t) s l)
unfolding values_in seen
seen_none t l s e q = rw (e, drop-length t) q

-- the rows from k on
pub seen_row : (t : List Row) (l : List Span) (s : List ℕ) (k : ℕ) (x : Seen) → k < length t → k < length l → x ≡ seen (values_in (drop (k + 1) t) s (drop (k + 1) l))
    → also (value_in (get_or t k no_row).kind s (get_or l k no_span)) x ≡ seen (values_in (drop k t) s (drop k l))
unfolding values_in seen
seen_row t l s k x h g e = go (rw (add-one k) at e)
  where
    go : x ≡ seen (values_in (drop (suc k) t) s (drop (suc k) l)) → also (value_in (get_or t k no_row).kind s (get_or l k no_span)) x ≡ seen (values_in (drop k t) s (drop k l))
    go q = rw (drop-cons t k no_row h, drop-cons l k no_span g, ← q)
