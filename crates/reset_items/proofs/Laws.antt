-- What the rows announce, row by row: a value that announces items has one at least, since a list that is read has 1 to 256.
--     items_some    a list of items that was read is not empty
--     reset_some    nor is that of a Reset Type
--     of_reading    the items of a value, by its reading
--     found_items   where a row has items they are those that are announced
--     no_items      else those of the rows behind it are
-- Assumes nothing.
use Prim.Native.Nat.{ℕ, min, ◌+◌, ◌<◌}
use mathlib.Core.Path.{◌≡◌, ◌∙◌, refl, sym, ap}
use mathlib.Core.Bool.{Bool, true, false}
use mathlib.Core.List.{List, [], ◌∷◌, map}
use native.Mathlib.Omega.{arith}
use native.Mathlib.Numerals.{add-one}
use borrow.Author.Tests.{lt-ltb}
use lib.ListN.{length, take, drop, get_or}
use lib.Seq.{sets, drop-cons, drop-length}
use Rattle.lists.specs.Lists.{pick}
use Rattle.lists.proofs.Slices.{take_within}
use Rattle.std.specs.Prelude.{Ok, Err}
use Rattle.octets.specs.Read.{Read, ◌>>=◌, or_none}
use Rattle.octets.specs.Field.{flag_at, plain_at, pad_at, number_at, ends_at}
use Rattle.octets.specs.Many.{many}
use Rattle.octets.specs.Span.{no_span, present}
use Rattle.octets.specs.declared.Span.{Span}
use Rattle.octets.proofs.Chain.{then_got, same_got}
use Rattle.octets.proofs.ManyLaws.{many_each}
use Rattle.identity.specs.declared.Item.{Item}
use Rattle.values.specs.Values.{mme_at, mce_at, tmgi_at, one_at, two_at, cause_at, wait_at}
use Rattle.names.specs.Names.{name_at}
use Rattle.diagnostics.specs.Diagnostics.{diagnostics_at}
use Rattle.item.specs.Item.{item_element_at}
use Rattle.items.specs.Items.{ResetType, whole, part, items_at, chosen_reset_at, reset_at}
use Rattle.item_words.specs.Words.{word_of}
use Rattle.item_words.specs.Taken.{part_items}
use Rattle.rows.specs.declared.Row.{Row}
use Rattle.rows.specs.declared.Kind.{Kind}
use Rattle.rows.specs.declared.Kind.TheVariants as kind
use Rattle.rows.specs.declared.Triggers.{Triggers}
use Rattle.rows.specs.Table.{no_row, meanings}
use Rattle.meaning.specs.Value as value
use Rattle.meaning.specs.Value.{Value, Given, given, absent}
use Rattle.meaning.specs.Reading.{within, or_absent, read_as, value_in, values_in}
use Rattle.layout.specs.Record.{lists_of}
use Rattle.reset_items.specs.Items.{InFront}

-- ---- one item at least

items_some : (s : List ℕ) (at : ℕ) (is : List Item) → Ok is ≡ items_at s at → 0 < length is
unfolding items_at
items_some s at is q =
    let a = then_got (number_at 1 s at) _ q in
    let b = then_got (many (item_element_at s) (a.0 + 1) (at + 1)) _ a.2 in
    let d = then_got (ends_at s b.0.next) _ b.2 in
    let n = (many_each (item_element_at s) (λ _. Unit) (λ _ _ _. tt) (a.0 + 1) (at + 1) b.0 b.1).0 in
    rw (same_got d.2, n) (omega arith)

abbrev Some : Read ResetType → Type 0
Some (Ok whole) = Unit
Some (Ok (part is)) = 0 < length is
Some (Err x) = Unit

some_then : {A : Type 0} (x : Read A) (go : A → Read ResetType) → ((a : A) → Some (go a)) → Some (x >>= go)
some_then (Ok a) go h = h a
some_then (Err y) go h = tt

reset_some : (s : List ℕ) (at : ℕ) → Some (reset_at s at)
unfolding reset_at
reset_some s at = some_then (plain_at s at 0) _ (λ _. some_then (flag_at s at 1) _ by)
  where
    on : (r : Read (List Item)) → r ≡ items_at s (at + 1) → Some (r >>= λ is. Ok (part is))
    on (Ok is) e = items_some s (at + 1) is e
    on (Err x) e = tt

    by : (b : Bool) → Some (chosen_reset_at b s at)
    by true = some_then (pad_at s at 2) _ (λ _. on (items_at s (at + 1)) refl)
    by false = some_then (plain_at s at 2) _ (λ _. some_then (pad_at s at 3) _ (λ _. some_then (ends_at s (at + 1)) _ (λ _. tt)))

-- ---- the items of one value

pub none_front : (is : List Item) (l : List ℕ) → [] ≡ is → InFront is l 0 l
none_front is l e = rw (← e) (refl, refl)

abbrev pub items_by : Given Span → List Item
items_by g = (lists_of (g ∷ [])).items

module _ (s : List ℕ) (v : Span) where
  pub none_there : (k : Kind) → v.to ≡ 0 → [] ≡ items_by (value_in k s v)
  unfolding value_in lists_of
  none_there k e = rw e

  -- a value that can be read, or cannot
  of_reading : {A : Type 0} (k : Kind) (reading : List ℕ → ℕ → Read A) (says : A → Value Span) → read_as k s v ≡ within reading says s v → 0 < v.to
      → items_by (value_in k s v) ≡ items_by (or_absent (reading (take v.to s) v.from >>= λ x. Ok (says x)))
  unfolding value_in
  of_reading k reading says e h = rw (lt-ltb 0 v.to h, e)

  module _ (h : 0 < v.to) {to : ℕ} (m : to ≡ min v.to (length s)) where
    upto : take to s ≡ take v.to s
    upto = take_within s v.to (length s) refl m

    pub of_reset : part_items (reset_at (take to s) v.from) ≡ items_by (value_in kind.ResetType s v)
    unfolding read_as lists_of
    of_reset = rw upto (by (reset_at (take v.to s) v.from) ∙ sym (of_reading kind.ResetType reset_at value.reset refl h))
      where
        by : (r : Read ResetType) → part_items r ≡ items_by (or_absent (r >>= λ x. Ok (value.reset x)))
        by (Ok whole) = refl
        by (Ok (part is)) = refl
        by (Err x) = refl

    pub of_list : or_none (items_at (take to s) v.from) ≡ items_by (value_in kind.Acknowledged s v)
    unfolding read_as lists_of
    of_list = rw upto (by (items_at (take v.to s) v.from) ∙ sym (of_reading kind.Acknowledged items_at value.list refl h))
      where
        by : (r : Read (List Item)) → or_none r ≡ items_by (or_absent (r >>= λ x. Ok (value.list x)))
        by (Ok is) = refl
        by (Err x) = refl

  -- ---- values of other kinds announce none
  abbrev Silent : Given Span → Type 0
  Silent g = (vs : List (Given Span)) → (lists_of (g ∷ vs)).items ≡ (lists_of vs).items

  silent_read : {A : Type 0} (k : Kind) (reading : List ℕ → ℕ → Read A) (says : A → Value Span) → read_as k s v ≡ within reading says s v
      → ((a : A) → Silent (given (says a))) → Silent (value_in k s v)
  unfolding value_in lists_of
  silent_read {A} k reading says e u vs = rw e (on (present v) (reading (take v.to s) v.from))
    where
      on : (b : Bool) (r : Read A) → (lists_of (pick b (or_absent (r >>= λ x. Ok (says x))) absent ∷ vs)).items ≡ (lists_of vs).items
      on true (Ok a) = u a vs
      on true (Err x) = refl
      on false r = refl

  carried_silent : Silent (value_in kind.Carried s v)
  unfolding value_in read_as lists_of
  carried_silent vs = on (present v)
    where
      on : (b : Bool) → (lists_of (pick b (given (value.carried v)) absent ∷ vs)).items ≡ (lists_of vs).items
      on true = refl
      on false = refl

  mme_silent : Silent (value_in kind.Mme s v)
  unfolding read_as lists_of
  mme_silent = silent_read kind.Mme mme_at value.mme refl (λ _ _. refl)

  mce_silent : Silent (value_in kind.Mce s v)
  unfolding read_as lists_of
  mce_silent = silent_read kind.Mce mce_at value.mce refl (λ _ _. refl)

  tmgi_silent : Silent (value_in kind.Tmgi s v)
  unfolding read_as lists_of
  tmgi_silent = silent_read kind.Tmgi tmgi_at value.tmgi refl (λ _ _. refl)

  one_silent : Silent (value_in kind.OneOctet s v)
  unfolding read_as lists_of
  one_silent = silent_read kind.OneOctet one_at value.one refl (λ _ _. refl)

  two_silent : Silent (value_in kind.TwoOctets s v)
  unfolding read_as lists_of
  two_silent = silent_read kind.TwoOctets two_at value.two refl (λ _ _. refl)

  cause_silent : Silent (value_in kind.Cause s v)
  unfolding read_as lists_of
  cause_silent = silent_read kind.Cause cause_at value.cause refl (λ _ _. refl)

  wait_silent : Silent (value_in kind.Wait s v)
  unfolding read_as lists_of
  wait_silent = silent_read kind.Wait wait_at value.wait refl (λ _ _. refl)

  name_silent : Silent (value_in kind.Name s v)
  unfolding read_as lists_of
  name_silent = silent_read kind.Name name_at value.name refl (λ _ _. refl)

  diagnostics_silent : (t : Triggers) → Silent (value_in (kind.Diagnostics t) s v)
  unfolding read_as lists_of
  diagnostics_silent t = silent_read (kind.Diagnostics t) (diagnostics_at (meanings t)) (value.diagnostics t) refl (λ _ _. refl)

  silent_none : (k : Kind) → Silent (value_in k s v) → [] ≡ items_by (value_in k s v)
  unfolding lists_of
  silent_none k u = sym (u [])

  -- those of any kind but two
  pub others_none : (k : Kind) → (k ≡ kind.ResetType → ⊥) → (k ≡ kind.Acknowledged → ⊥) → [] ≡ items_by (value_in k s v)
  others_none kind.Carried _ _ = silent_none kind.Carried carried_silent
  others_none kind.Mme _ _ = silent_none kind.Mme mme_silent
  others_none kind.Mce _ _ = silent_none kind.Mce mce_silent
  others_none kind.Tmgi _ _ = silent_none kind.Tmgi tmgi_silent
  others_none kind.OneOctet _ _ = silent_none kind.OneOctet one_silent
  others_none kind.TwoOctets _ _ = silent_none kind.TwoOctets two_silent
  others_none kind.Cause _ _ = silent_none kind.Cause cause_silent
  others_none kind.Wait _ _ = silent_none kind.Wait wait_silent
  others_none kind.Name _ _ = silent_none kind.Name name_silent
  others_none kind.ResetType e _ = absurd (e refl)
  others_none kind.Acknowledged _ e = absurd (e refl)
  others_none (kind.Diagnostics t) _ _ = silent_none (kind.Diagnostics t) (diagnostics_silent t)

  -- ---- a value with no items leaves those of the others
  reset_left : (r : Read ResetType) → Some r → (b : Bool) → let g = pick b (or_absent (r >>= λ x. Ok (value.reset x))) absent in length (items_by g) ≡ 0 → Silent g
  unfolding lists_of
  reset_left (Ok whole) n true z vs = refl
  reset_left (Ok (part is)) n true z vs = absurd (omega arith)
  reset_left (Err x) n true z vs = refl
  reset_left r n false z vs = refl

  list_left : (r : Read (List Item)) → ((is : List Item) → Ok is ≡ r → 0 < length is) → (b : Bool) → let g = pick b (or_absent (r >>= λ x. Ok (value.list x))) absent in length (items_by g) ≡ 0 → Silent g
  unfolding lists_of
  list_left (Ok is) n true z vs = absurd (omega (arith, n is refl))
  list_left (Err x) n true z vs = refl
  list_left r n false z vs = refl

  left : (k : Kind) → length (items_by (value_in k s v)) ≡ 0 → Silent (value_in k s v)
  unfolding value_in read_as
  left kind.Carried z = carried_silent
  left kind.Mme z = mme_silent
  left kind.Mce z = mce_silent
  left kind.Tmgi z = tmgi_silent
  left kind.OneOctet z = one_silent
  left kind.TwoOctets z = two_silent
  left kind.Cause z = cause_silent
  left kind.Wait z = wait_silent
  left kind.Name z = name_silent
  left kind.ResetType z = reset_left (reset_at (take v.to s) v.from) (reset_some (take v.to s) v.from) (present v) z
  left kind.Acknowledged z = list_left (items_at (take v.to s) v.from) (λ is e. items_some (take v.to s) v.from is e) (present v) z
  left (kind.Diagnostics t) z = diagnostics_silent t

-- where a value has items they are those that are announced
first_items : (g : Given Span) (vs : List (Given Span)) → 0 < length (items_by g) → items_by g ≡ (lists_of (g ∷ vs)).items
unfolding lists_of
first_items absent vs h = absurd (omega arith)
first_items (given (value.carried x)) vs h = absurd (omega arith)
first_items (given (value.mme x)) vs h = absurd (omega arith)
first_items (given (value.mce x)) vs h = absurd (omega arith)
first_items (given (value.tmgi x)) vs h = absurd (omega arith)
first_items (given (value.one x)) vs h = absurd (omega arith)
first_items (given (value.two x)) vs h = absurd (omega arith)
first_items (given (value.cause x)) vs h = absurd (omega arith)
first_items (given (value.wait x)) vs h = absurd (omega arith)
first_items (given (value.name x)) vs h = absurd (omega arith)
first_items (given (value.reset whole)) vs h = absurd (omega arith)
first_items (given (value.reset (part is))) vs h = refl
first_items (given (value.list is)) vs h = refl
first_items (given (value.diagnostics t x)) vs h = absurd (omega arith)

-- ---- the rows from k on

abbrev pub items_from : List Row → List ℕ → List Span → ℕ → List Item
items_from t s l k = (lists_of (values_in (drop k t) s (drop k l))).items

none_left : (s : List ℕ) (m : List Span) → [] ≡ (lists_of (values_in [] s m)).items
unfolding values_in lists_of
none_left s m = refl

module _ (t : List Row) (s : List ℕ) (l : List Span) where
  pub none_behind : {n : ℕ} → n ≡ length t → [] ≡ items_from t s l n
  none_behind {n} e = let d : drop n t ≡ [] = rw e (drop-length t) in none_left s (drop n l) ∙ ap (λ (r : List Row). (lists_of (values_in r s (drop n l))).items) (sym d)

  module _ (k : ℕ) (h : k < length t) (g : k < length l) {r : Row} {v : Span} (d : r ≡ get_or t k no_row) (f : v ≡ get_or l k no_span) where
    values_here : values_in (drop k t) s (drop k l) ≡ value_in r.kind s v ∷ values_in (drop (k + 1) t) s (drop (k + 1) l)
    unfolding values_in
    values_here = rw (d, f, add-one k, drop-cons t k no_row h, drop-cons l k no_span g)

    -- the value of the row has n items, and m are the words behind it
    module _ {w m : List ℕ} {n : ℕ} (p : InFront (items_by (value_in r.kind s v)) w n m) where
      pub found_items : {all : List Item} {w₀ : List ℕ} → all ≡ items_from t s l k → w ≡ w₀ → (n ≡ 0 → ⊥) → InFront all w₀ n m
      found_items e q z =
          let y = first_items (value_in r.kind s v) (values_in (drop (k + 1) t) s (drop (k + 1) l)) (omega (arith, p.0)) ∙ ap (λ (vs : List (Given Span)). (lists_of vs).items) (sym values_here) ∙ sym e in
          rw (← q, ← y) p

      pub no_items : n ≡ 0 → (m ≡ w) × (items_from t s l k ≡ items_from t s l (k + 1))
      no_items q =
          let z = sym p.0 ∙ q in
          (p.1 ∙ none (items_by (value_in r.kind s v)) z, ap (λ (vs : List (Given Span)). (lists_of vs).items) values_here ∙ left s v r.kind z (values_in (drop (k + 1) t) s (drop (k + 1) l)))
        where
          none : (is : List Item) → length is ≡ 0 → sets w 0 (map word_of is) ≡ w
          none [] e = refl
          none (i ∷ is) e = absurd (omega arith)
