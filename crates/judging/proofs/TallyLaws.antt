-- Counting: the tally with one more entry is that of the list with one more, whether it is listed or not.
--     first_more, first_same the first 256, with one more or without
--     tally_more             the tally of them
--     none_more              nothing more
--     lacking_one            the entries of the rows that have no value, one row more; lacking_more  and their tally
-- Assumes nothing.
use mathlib.Core.Path.{◌≡◌, ◌∙◌, refl, sym, ap}
use mathlib.Core.Bool.{Bool, true, false, not, ◌&&◌, ◌||◌, or-false, true≢false}
use mathlib.Core.List.{List, [], ◌∷◌, ◌++◌, append-nil, append_assoc}
use Prim.Native.Nat.{ℕ, ◌+◌, ◌≤◌, ◌<◌}
use native.Mathlib.Omega.{arith}
use native.Mathlib.Numerals.{add-one}
use borrow.Author.Tests.{ltb-true, ltb-false, eqb-true}
use lib.Dec.{ltb, eqb}
use lib.ListN.{length, take, get_or, length-append, length-take}
use lib.Seq.{take_all, take-append-le}
use Rattle.lists.specs.Lists.{pick, some}
use Rattle.lists.proofs.Some.{some_append}
use Rattle.octets.specs.declared.Span.{Span}
use Rattle.octets.specs.Span.{no_span, present}
use Rattle.entries.specs.declared.Entry.{Entry}
use Rattle.rows.specs.declared.Row.{Row}
use Rattle.rows.specs.Table.{no_row}
use Rattle.elements.specs.Judge.{ignored, missing_of}
use Rattle.elements.proofs.WalkLaws.{missing_snoc}
use Rattle.judging.specs.declared.Tally.{Tally}
use Rattle.judging.specs.Judging.{is_noted, tally_of, tallied, lacks, CountedBehind}

-- what an entry adds to those that may be noted
abbrev pub listable : Entry → List Entry
listable e = pick (ignored e.crit) [] (e ∷ [])

module _ (es : List Entry) (e : Entry) where
  pub first_more : is_noted e.crit (length (take 256 es)) ≡ true → take 256 es ++ e ∷ [] ≡ take 256 (es ++ listable e)
  first_more = by (ignored e.crit)
    where
      by : (b : Bool) → (not b && ltb (length (take 256 es)) 256) ≡ true → take 256 es ++ e ∷ [] ≡ take 256 (es ++ pick b [] (e ∷ []))
      by true g = absurd (true≢false (sym g))
      by false g =
          let k = ltb-true (length (take 256 es)) 256 g in
          let l = length-take 256 es in
          let h : length es < 256 = omega arith in
          let z : length (es ++ e ∷ []) ≤ 256 = rw (length-append es (e ∷ [])) (omega arith) in
          rw (take_all 256 es (omega arith), take_all 256 (es ++ e ∷ []) z)

  pub first_same : is_noted e.crit (length (take 256 es)) ≡ false → take 256 es ≡ take 256 (es ++ listable e)
  first_same = by (ignored e.crit)
    where
      by : (b : Bool) → (not b && ltb (length (take 256 es)) 256) ≡ false → take 256 es ≡ take 256 (es ++ pick b [] (e ∷ []))
      by true g = rw (append-nil es)
      by false g =
          let k = ltb-false (length (take 256 es)) 256 g in
          let l = length-take 256 es in
          let h : 256 ≤ length es = omega arith in
          sym (take-append-le 256 es (e ∷ []) h)

  reject_more : (some (λ (x : Entry). eqb x.crit 0) es || eqb e.crit 0) ≡ some (λ (x : Entry). eqb x.crit 0) (es ++ listable e)
  reject_more = by (ignored e.crit) refl
    where
      by : (b : Bool) → ignored e.crit ≡ b → (some (λ (x : Entry). eqb x.crit 0) es || eqb e.crit 0) ≡ some (λ (x : Entry). eqb x.crit 0) (es ++ pick b [] (e ∷ []))
      by true i = rw (eqb-true e.crit 1 i, or-false, append-nil es)
      by false i = sym (some_append (λ (x : Entry). eqb x.crit 0) es (e ∷ []) ∙ ap (λ (b : Bool). some (λ (x : Entry). eqb x.crit 0) es || b) (or-false (eqb e.crit 0)))

  count_more : pick (is_noted e.crit (length (take 256 es))) (length (take 256 es) + 1) (length (take 256 es)) ≡ length (take 256 (es ++ listable e))
  count_more = by (is_noted e.crit (length (take 256 es))) refl
    where
      by : (b : Bool) → is_noted e.crit (length (take 256 es)) ≡ b → pick b (length (take 256 es) + 1) (length (take 256 es)) ≡ length (take 256 (es ++ listable e))
      by true g = sym (length-append (take 256 es) (e ∷ [])) ∙ ap length (first_more g)
      by false g = ap length (first_same g)

pub tally_more : (n : Tally) (es : List Entry) → n ≡ tally_of es → (e : Entry) → tallied n e.crit ≡ tally_of (es ++ listable e)
unfolding tally_of
tally_more n es q e = rw (q, count_more es e, reject_more es e)

-- nothing more
pub none_more : {before after : Tally} → after ≡ before → CountedBehind [] before after
none_more q es p = q ∙ (p ∙ ap tally_of (sym (append-nil es)))

-- ---- the rows that have no value

-- what is noted of a row that has none
abbrev pub missing : Row → Entry
missing r = record { crit = r.crit; id = r.id; error = 1 }

module _ (t : List Row) (l : List Span) (k : ℕ) (h : k < length t) (g : k < length l) {r : Row} {v : Span} (rs : r ≡ get_or t k no_row) (vs : v ≡ get_or l k no_span) where
  -- the row behind the first k
  pub lacking_one : missing_of (take (k + 1) t) (take (k + 1) l) ≡ missing_of (take k t) (take k l) ++ pick (lacks r v) (listable (missing r)) []
  lacking_one = rw (add-one, rs, vs) (missing_snoc t l k h g ∙ ap (λ (es : List Entry). missing_of (take k t) (take k l) ++ es) (by (present (get_or l k no_span)) (get_or t k no_row).mandatory _))
    where
      by : (p m : Bool) (es : List Entry) → pick p [] (pick m es []) ≡ pick (m && not p) es []
      by true true es = refl
      by true false es = refl
      by false true es = refl
      by false false es = refl

  pub lacking_more : {before tally m : Tally} {b : Bool} → CountedBehind (missing_of (take k t) (take k l)) before tally → lacks r v ≡ b → m ≡ pick b (tallied tally r.crit) tally
      → CountedBehind (missing_of (take (k + 1) t) (take (k + 1) l)) before m
  lacking_more {before} {tally} {b = b} p i q es e =
      let f = missing_of (take k t) (take k l) in
      q ∙ (by b ∙ ap tally_of (append_assoc es f _ ∙ ap (λ (x : List Entry). es ++ x) (ap (λ (c : Bool). f ++ pick c (listable (missing r)) []) (sym i) ∙ sym lacking_one)))
    where
      by : (b : Bool) → pick b (tallied tally r.crit) tally ≡ tally_of ((es ++ missing_of (take k t) (take k l)) ++ pick b (listable (missing r)) [])
      by true = tally_more tally _ (p es e) (missing r)
      by false = p es e ∙ ap tally_of (sym (append-nil _))
