-- What is found among the values of a message, by the kinds of its rows.
--     name_or_not   only a value of kind Name is a name
--     name_there, other_there, none_there   what one row gives
--     found_here, found_behind, found_none   the rows from one on: it is a name, or the others tell; no row is left
-- Assumes nothing.
use Prim.Native.Nat.{ℕ, min, ◌+◌, ◌<◌}
use mathlib.Core.Path.{◌≡◌, ◌∙◌, refl, sym, ap}
use mathlib.Core.Bool.{Bool, true, false}
use mathlib.Core.List.{List}
use mathlib.Core.Logic.{◌⊎◌, inl, inr}
use native.Mathlib.Numerals.{add-one}
use borrow.Author.Tests.{lt-ltb}
use lib.ListN.{length, take, drop, get_or}
use lib.Seq.{drop-cons, drop-length}
use Rattle.lists.specs.Lists.{pick}
use Rattle.lists.proofs.Slices.{take_within}
use Rattle.std.specs.Prelude.{Ok, Err, None, Option, Some}
use Rattle.std.specs.Result.{result_ok}
use Rattle.octets.specs.Read.{Read, ◌>>=◌}
use Rattle.octets.specs.declared.Span.{Span}
use Rattle.octets.specs.Span.{no_span, present}
use Rattle.values.specs.Values.{mme_at, mce_at, tmgi_at, one_at, two_at, cause_at, wait_at}
use Rattle.names.specs.Names.{name_at}
use Rattle.items.specs.Items.{items_at, reset_at}
use Rattle.diagnostics.specs.Diagnostics.{diagnostics_at}
use Rattle.rows.specs.declared.Kind.{Kind}
use Rattle.rows.specs.declared.Kind.TheVariants as kind
use Rattle.rows.specs.declared.Row.{Row}
use Rattle.rows.specs.Table.{no_row, meanings}
use Rattle.meaning.specs.Value as value
use Rattle.meaning.specs.Value.{Value, Given, given, absent}
use Rattle.meaning.specs.Reading.{or_absent, read_as, value_in, values_in}
use Rattle.shown.specs.Shown.{found_by, found_with, found_among, or_else}

-- ---- one value

read_name : (r : Read Span) (x : Option Span) → found_with (or_absent (r >>= λ a. Ok (value.name a))) x ≡ or_else r x
read_name (Ok a) x = refl
read_name (Err y) x = refl

pub name_read_lem : (s : List ℕ) (v : Span) (x : Option Span) → found_with (or_absent (read_as kind.Name s v)) x ≡ or_else (name_at (take v.to s) v.from) x
unfolding read_as
name_read_lem s v x = read_name (name_at (take v.to s) v.from) x

unnamed : {A : Type 0} (r : Read A) (is : A → Value Span) (x : Option Span) → ((a : A) → found_by (is a) x ≡ x) → found_with (or_absent (r >>= λ a. Ok (is a))) x ≡ x
unnamed (Ok a) is x e = e a
unnamed (Err y) is x e = refl

abbrev pub Unnamed : Kind → Type 0
Unnamed k = (s : List ℕ) (v : Span) (x : Option Span) → found_with (or_absent (read_as k s v)) x ≡ x

pub name_or_not : (k : Kind) → (k ≡ kind.Name) ⊎ Unnamed k
unfolding read_as
name_or_not kind.Name = inl refl
name_or_not kind.Carried = inr (λ s v x. refl)
name_or_not kind.Mme = inr (λ s v x. unnamed (mme_at (take v.to s) v.from) value.mme x (λ a. refl))
name_or_not kind.Mce = inr (λ s v x. unnamed (mce_at (take v.to s) v.from) value.mce x (λ a. refl))
name_or_not kind.Tmgi = inr (λ s v x. unnamed (tmgi_at (take v.to s) v.from) value.tmgi x (λ a. refl))
name_or_not kind.OneOctet = inr (λ s v x. unnamed (one_at (take v.to s) v.from) value.one x (λ a. refl))
name_or_not kind.TwoOctets = inr (λ s v x. unnamed (two_at (take v.to s) v.from) value.two x (λ a. refl))
name_or_not kind.Cause = inr (λ s v x. unnamed (cause_at (take v.to s) v.from) value.cause x (λ a. refl))
name_or_not kind.Wait = inr (λ s v x. unnamed (wait_at (take v.to s) v.from) value.wait x (λ a. refl))
name_or_not kind.ResetType = inr (λ s v x. unnamed (reset_at (take v.to s) v.from) value.reset x (λ a. refl))
name_or_not kind.Acknowledged = inr (λ s v x. unnamed (items_at (take v.to s) v.from) value.list x (λ a. refl))
name_or_not (kind.Diagnostics t) = inr (λ s v x. unnamed (diagnostics_at (meanings t) (take v.to s) v.from) (value.diagnostics t) x (λ a. refl))

-- ---- a row

module _ (s : List ℕ) (v : Span) where
  pub none_there : (k : Kind) → v.to ≡ 0 → None ≡ found_with (value_in k s v) None
  unfolding value_in
  none_there k e = rw e

  pub name_there : 0 < v.to → {to : ℕ} → to ≡ min v.to (length s) → result_ok (name_at (take to s) v.from) ≡ found_with (value_in kind.Name s v) None
  unfolding value_in
  name_there h {to} m =
      rw (lt-ltb 0 v.to h)
      (ap (λ l. result_ok (name_at l v.from)) (ap (λ n. take n s) m ∙ take_within s v.to (length s) refl refl) ∙ (by (name_at (take v.to s) v.from) ∙ sym (name_read_lem s v None)))
    where
      by : (r : Read Span) → result_ok r ≡ or_else r None
      by (Ok a) = refl
      by (Err y) = refl

  -- of any other kind
  pub other_there : (k : Kind) → (k ≡ kind.Name → ⊥) → None ≡ found_with (value_in k s v) None
  unfolding value_in
  other_there k o = by (name_or_not k)
    where
      on : (b : Bool) → Unnamed k → None ≡ found_with (pick b (or_absent (read_as k s v)) absent) None
      on true f = sym (f s v None)
      on false f = refl

      by : (k ≡ kind.Name) ⊎ Unnamed k → None ≡ found_with (pick (present v) (or_absent (read_as k s v)) absent) None
      by (inl e) = absurd (o e)
      by (inr f) = on (present v) f

-- ---- all rows

-- the first that is a name is found
abbrev first : Option Span → Option Span → Option Span
first (Some v) x = Some v
first None x = x

with_first : (g : Given Span) (x : Option Span) → found_with g x ≡ first (found_with g None) x
with_first absent x = refl
with_first (given (value.name v)) x = refl
with_first (given (value.carried v)) x = refl
with_first (given (value.mme v)) x = refl
with_first (given (value.mce v)) x = refl
with_first (given (value.tmgi v)) x = refl
with_first (given (value.one v)) x = refl
with_first (given (value.two v)) x = refl
with_first (given (value.cause v)) x = refl
with_first (given (value.wait v)) x = refl
with_first (given (value.reset v)) x = refl
with_first (given (value.list v)) x = refl
with_first (given (value.diagnostics t v)) x = refl

-- behind the last row nothing is found
pub found_none : (t : List Row) (l : List Span) (s : List ℕ) {n : ℕ} → n ≡ length t → found_among (values_in (drop n t) s l) ≡ None
unfolding values_in found_among
found_none t l s e = rw (e, drop-length t)

module _ (t : List Row) (l : List Span) (s : List ℕ) (k : ℕ) (h : k < length t) (g : k < length l) {r : Row} {v : Span} (rs : r ≡ get_or t k no_row) (vs : v ≡ get_or l k no_span) where
  -- the rows from k on, by the name that the first of them gives
  found_row : {x : Option Span} → x ≡ found_with (value_in r.kind s v) None → found_among (values_in (drop k t) s (drop k l)) ≡ first x (found_among (values_in (drop (k + 1) t) s (drop (k + 1) l)))
  unfolding values_in found_among
  found_row q = rw (q, rs, vs, add-one, drop-cons t k no_row h, drop-cons l k no_span g) (with_first (value_in (get_or t k no_row).kind s (get_or l k no_span)) _)

  pub found_here : {name : Span} → Some name ≡ found_with (value_in r.kind s v) None → found_among (values_in (drop k t) s (drop k l)) ≡ Some name
  found_here q = found_row q

  pub found_behind : None ≡ found_with (value_in r.kind s v) None → found_among (values_in (drop k t) s (drop k l)) ≡ found_among (values_in (drop (k + 1) t) s (drop (k + 1) l))
  found_behind q = found_row q
