-- The elements that count are the first of those that are there, so how many they are tells which, and what is noted of them.
--     front_heads          the elements that count, by their number
--     none_noted           nothing is noted
--     some_front, some_all not all elements count, or all do, and then the rows that have no value
-- Assumes nothing.
use mathlib.Core.Path.{◌≡◌, ◌∙◌, refl, sym, ap, subst}
use mathlib.Core.Bool.{Bool, true, false}
use mathlib.Core.List.{List, [], ◌∷◌, ◌++◌, append-nil, append_assoc}
use Prim.Native.Nat.{ℕ, zero, suc, ◌+◌, ◌≤◌, ◌<◌}
use native.Mathlib.Omega.{arith}
use borrow.Author.Tests.{ltb-false, eq-eqb, ne_eqb}
use lib.Dec.{ltb, eqb}
use lib.ListN.{length, take, length-take}
use Rattle.lists.specs.Lists.{pick, some, fill}
use Rattle.lists.proofs.Fill.{take_fill}
use Rattle.std.specs.Prelude.{Ok, Err}
use Rattle.octets.specs.Read.{Read}
use Rattle.octets.specs.declared.Stop.{Stop}
use Rattle.octets.specs.declared.Span.{Span}
use Rattle.octets.specs.Span.{no_span}
use Rattle.octets.proofs.Chain.{past, halt, then_got, same_got}
use Rattle.entries.specs.declared.Entry.{Entry}
use Rattle.rows.specs.declared.Row.{Row}
use Rattle.rows.specs.Table.{find, known}
use Rattle.envelopes.specs.declared.Head.{Head}
use Rattle.envelopes.specs.Envelope.{envelope_at, on_head, heads_at}
use Rattle.elements.specs.Judge.{front, read_of, unknown_of, missing_of, judged_of, extensions_behind, elements_at}
use Rattle.elements.proofs.WalkLaws.{read_rows}
use Rattle.frames.specs.declared.Count.{Count}
use Rattle.frames.specs.Frame.{count_at}
use Rattle.verdicts.specs.declared.Outcome.TheVariants.{Accepted, Misplaced, Rejected}
use Rattle.verdicts.specs.Verdict.{Opening, opening_by, opened_at}
use Rattle.judging.specs.declared.Opened.{Opened}
use Rattle.judging.specs.Judging.{opened_by, spans_by, opening_at, place_of, noted_of, NotedIn, NotedBehind, ExtensionsNoted}
use Rattle.judging.proofs.OpenedLaws.{got_by, stop_by}

-- ---- the elements that count

front_take : (t : List Row) (row : ℕ) (hs : List Head) → front t row hs ≡ take (length (front t row hs)) hs
unfolding front
front_take t row [] = refl
front_take t row (h ∷ hs) = by (known t h.id) (ltb (find h.id t) row) (front_take t (find h.id t + 1) hs) (front_take t row hs)
  where
    by : (a b : Bool) {f g : List Head} → f ≡ take (length f) hs → g ≡ take (length g) hs
        → pick a (pick b [] (h ∷ f)) (h ∷ g) ≡ take (length (pick a (pick b [] (h ∷ f)) (h ∷ g))) (h ∷ hs)
    by true true e g = refl
    by true false e g = ap (λ (x : List Head). h ∷ x) e
    by false b e g = ap (λ (x : List Head). h ∷ x) g

heads_take : (s : List ℕ) (n at k : ℕ) → k ≤ n → take k (heads_at s n at) ≡ heads_at s k at
unfolding heads_at
heads_take s n at zero h = refl
heads_take s zero at (suc k) h = absurd (omega arith)
heads_take s (suc n) at (suc k) h = by (envelope_at s at) (λ v. heads_take s n v.value.to k (omega arith))
  where
    by : (r : Read Head) → ((v : Head) → take k (heads_at s n v.value.to) ≡ heads_at s k v.value.to)
        → take (suc k) (on_head (λ v. heads_at s n v.value.to) r) ≡ on_head (λ v. heads_at s k v.value.to) r
    by (Ok v) e = ap (λ (x : List Head). v ∷ x) (e v)
    by (Err x) e = refl

heads_length : (s : List ℕ) (n at : ℕ) → length (heads_at s n at) ≤ n
unfolding heads_at
heads_length s zero at = omega arith
heads_length s (suc n) at = by (envelope_at s at) (λ v. heads_length s n v.value.to)
  where
    by : (r : Read Head) → ((v : Head) → length (heads_at s n v.value.to) ≤ n) → length (on_head (λ v. heads_at s n v.value.to) r) ≤ suc n
    by (Ok v) e = let h = e v in omega arith
    by (Err x) e = omega arith

module _ (t : List Row) (s : List ℕ) (n from : ℕ) where
  front_within : length (front t 0 (heads_at s n from)) ≤ n
  front_within =
      let hs = heads_at s n from in
      let e = ap length (front_take t 0 hs) ∙ length-take (length (front t 0 hs)) hs in
      let h = heads_length s n from in
      omega arith

  front_heads : front t 0 (heads_at s n from) ≡ heads_at s (length (front t 0 (heads_at s n from))) from
  front_heads = front_take t 0 (heads_at s n from) ∙ heads_take s n from (length (front t 0 (heads_at s n from))) front_within

-- ---- what is noted of n elements, and of what stands behind them

module _ (t : List Row) (container : Bool) (s : List ℕ) (n from : ℕ) {o : Opening} (q : Ok o ≡ opening_at t container s n from) where
  behind : (xs : List Head) × (Ok xs ≡ extensions_behind t container s n from) × (opening_by n (judged_of t n (heads_at s n from) xs) ≡ o)
  unfolding elements_at
  behind =
      let a = then_got (elements_at t container s n from) _ q in
      let d = then_got (extensions_behind t container s n from) _ a.1 in
      (d.0, d.1, ap (opening_by n) (sym (same_got d.2)) ∙ sym (same_got a.2))

  place_is : place_of n o.outcome ≡ length (front t 0 (heads_at s n from))
  unfolding judged_of
  place_is =
      ap (λ (y : Opening). place_of n y.outcome) (sym behind.2)
      ∙ by (ltb (length (front t 0 (heads_at s n from))) n) refl (some (λ (e : Entry). eqb e.crit 0) (judged_of t n (heads_at s n from) behind.0).listed)
    where
      by : (b : Bool) → ltb (length (front t 0 (heads_at s n from))) n ≡ b → (r : Bool)
          → place_of n (pick b (Misplaced (length (front t 0 (heads_at s n from)))) (pick r Rejected Accepted)) ≡ length (front t 0 (heads_at s n from))
      by true e r = refl
      by false e true = let h = ltb-false (length (front t 0 (heads_at s n from))) n e in let g = front_within t s n from in omega arith
      by false e false = let h = ltb-false (length (front t 0 (heads_at s n from))) n e in let g = front_within t s n from in omega arith

  noted_front : {place : ℕ} → place ≡ place_of n o.outcome → place < n → take 256 (unknown_of t (heads_at s place from)) ≡ o.noted
  unfolding judged_of
  noted_front {place} p h =
      let l : place ≡ length (front t 0 (heads_at s n from)) = p ∙ place_is in
      let f = front t 0 (heads_at s n from) in
      let e : unknown_of t f ++ pick (eqb (length f) n) (unknown_of [] behind.0 ++ missing_of t (read_of t f)) [] ≡ unknown_of t f =
      rw (ne_eqb (length f) n (λ z. omega arith)) (append-nil (unknown_of t f)) in
      ap (take 256) (ap (λ (k : ℕ). unknown_of t (heads_at s k from)) l ∙ (ap (unknown_of t) (sym (front_heads t s n from)) ∙ sym e)) ∙ ap (λ (y : Opening). y.noted) behind.2

  noted_all : {place : ℕ} → place ≡ place_of n o.outcome → n ≤ place
      → take 256 (unknown_of t (heads_at s place from) ++ (unknown_of [] behind.0 ++ missing_of t (take (length t) (fill no_span 12 o.spans)))) ≡ o.noted
  unfolding judged_of
  noted_all {place} p h =
      let l : place ≡ length (front t 0 (heads_at s n from)) = p ∙ place_is in
      let w = front_within t s n from in
      let f = front t 0 (heads_at s n from) in
      let x = unknown_of [] behind.0 in
      let v : take (length t) (fill no_span 12 o.spans) ≡ read_of t f =
      ap (λ (y : Opening). take (length t) (fill no_span 12 y.spans)) (sym behind.2) ∙ (ap (λ (k : ℕ). take k (fill no_span 12 (read_of t f))) (sym (read_rows t f)) ∙ take_fill no_span 12 (read_of t f)) in
      let e : unknown_of t f ++ pick (eqb (length f) n) (x ++ missing_of t (read_of t f)) [] ≡ unknown_of t f ++ (x ++ missing_of t (read_of t f)) = rw (eq-eqb (length f) n (omega arith)) in
      ap (take 256) (ap (λ (k : ℕ). unknown_of t (heads_at s k from) ++ (x ++ missing_of t (take (length t) (fill no_span 12 o.spans)))) l
      ∙ (ap (λ (hs : List Head). unknown_of t hs ++ (x ++ missing_of t (take (length t) (fill no_span 12 o.spans)))) (sym (front_heads t s n from))
      ∙ (ap (λ (z : List Span). unknown_of t f ++ (x ++ missing_of t z)) v ∙ sym e))) ∙ ap (λ (y : Opening). y.noted) behind.2

-- ---- and of the message

empty : (l : List ℕ) (es : List Entry) → length es ≡ 0 → NotedIn l es l 0
empty l [] g = record { words = refl; count = refl }
empty l (e ∷ es) g = absurd (omega arith)

module _ (t : List Row) (c : Bool) (s : List ℕ) (from : ℕ) where
  pub stop_noted : {x : Stop} → Err x ≡ opened_by (opened_at t c s from) → (l : List ℕ) → NotedIn l (noted_of (opened_at t c s from)) l 0
  stop_noted q l = subst (λ (r : Read Opening). NotedIn l (noted_of r) l 0) (stop_by (opened_at t c s from) q) (empty l [] refl)

  pub count_noted : {x : Stop} → Err x ≡ count_at c s from → (l : List ℕ) → NotedIn l (noted_of (opened_at t c s from)) l 0
  unfolding opened_at
  count_noted q l = subst (λ (r : Read Opening). NotedIn l (noted_of r) l 0) (halt _ q) (empty l [] refl)

module _ (t : List Row) (c : Bool) (s : List ℕ) (from : ℕ) {o : Opened} (e : Ok o ≡ opened_by (opened_at t c s from)) where
  inside : (x : Opening) × (Ok x ≡ opened_at t c s from) × (o ≡ record { outcome = x.outcome; noted = length x.noted })
  inside = got_by (opened_at t c s from) e

  pub none_noted : o.noted ≡ 0 → (l : List ℕ) → NotedIn l (noted_of (opened_at t c s from)) l 0
  none_noted h l = subst (λ (r : Read Opening). NotedIn l (noted_of r) l 0) inside.1 (empty l inside.0.noted (ap (λ (x : Opened). x.noted) (sym inside.2) ∙ h))

  module _ {v : Count} (k : Ok v ≡ count_at c s from) {n : ℕ} (w : n ≡ v.elements) where
    opening : Ok inside.0 ≡ opening_at t v.container s n (from + 3)
    unfolding opened_at
    opening = inside.1 ∙ (sym (past _ v k refl) ∙ ap (λ (j : ℕ). opening_at t v.container s j (from + 3)) (sym w))

    module _ {place : ℕ} (p : place ≡ place_of n o.outcome) {l m : List ℕ} {r : ℕ} (u : NotedBehind (unknown_of t (heads_at s place (from + 3))) l 0 m r) where
      which : place ≡ place_of n inside.0.outcome
      which = p ∙ ap (λ (y : Opened). place_of n y.outcome) inside.2

      -- of the elements that count
      elements : NotedIn l (take 256 (unknown_of t (heads_at s place (from + 3)))) m r
      elements = u l [] (empty l [] refl)

      pub some_front : place < n → NotedIn l (noted_of (opened_at t c s from)) m r
      some_front g = subst (λ (es : List Entry). NotedIn l es m r) (noted_front t v.container s n (from + 3) opening which g ∙ ap noted_of inside.1) elements

      pub some_all : n ≤ place → {ps : List Span} → ps ≡ (spans_by (opened_at t c s from))
          → {m' m'' : List ℕ} {r' r'' : ℕ} → ExtensionsNoted (extensions_behind t v.container s n (from + 3)) m r m' r'
          → NotedBehind (missing_of t (take (length t) ps)) m' r' m'' r'' → NotedIn l (noted_of (opened_at t c s from)) m'' r''
      some_all g {ps} e {m'' = m''} {r'' = r''} x y =
          let b = behind t v.container s n (from + 3) opening in
          let us = unknown_of t (heads_at s place (from + 3)) in
          subst (λ (es : List Entry). NotedIn l es m'' r'')
          (ap (take 256) (append_assoc us (unknown_of [] b.0) (missing_of t (take (length t) ps)))
          ∙ (ap (λ (vs : List Span). take 256 (us ++ (unknown_of [] b.0 ++ missing_of t (take (length t) vs)))) (e ∙ ap spans_by (sym inside.1))
          ∙ (noted_all t v.container s n (from + 3) opening which g ∙ ap noted_of inside.1)))
          (y l (us ++ unknown_of [] b.0) (x b.0 b.1 l us elements))
