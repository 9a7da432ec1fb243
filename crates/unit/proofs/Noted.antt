-- What is noted of a message fits the words of entries: an unknown element's numbers are what its octets can say, and a missing one's are its row's.
-- Assumes nothing.
use Prim.Native.Nat.{ℕ, ◌+◌, ◌≤◌}
use mathlib.Core.Bool.{Bool}
use mathlib.Core.Path.{◌≡◌, ◌∙◌, refl, sym, ap, subst}
use mathlib.Core.List.{List, [], ◌∷◌, map}
use native.Mathlib.Omega.{arith}
use lib.ListN.{length, take, length-take, length-map}
use lib.Seq.{length-sets}
use Rattle.std.specs.Prelude.{Ok, Err}
use Rattle.octets.specs.Read.{Read}
use Rattle.octets.specs.Stands.{Octets}
use Rattle.octets.specs.Many.{Each}
use Rattle.octets.proofs.Chain.{then_got, same_got}
use Rattle.entries.specs.declared.Entry.{Entry}
use Rattle.entry_words.specs.EntryWords.{entry_word, entry_by}
use Rattle.entry_words.proofs.Back.{FitsWord, entries_back}
use Rattle.rows.specs.declared.Row.{Row}
use Rattle.envelopes.specs.declared.Head.{Head}
use Rattle.envelopes.specs.Envelope.{heads_at, scan_at}
use Rattle.elements.specs.Judge as elements
use Rattle.elements.proofs.ExtensionLaws.{each_extension}
use Rattle.elements.proofs.Listed.{each_first, HeadFits, heads_fit, listed_each}
use Rattle.frames.specs.Frame.{count_at}
use Rattle.verdicts.specs.Verdict.{Opening, opening_by, opened_at}
use Rattle.judging.specs.Judging.{noted_of, NotedIn}
use Rattle.unit.specs.Fit.{NumbersFit}
use Rattle.unit.proofs.Items.{front_put}

-- ---- entries

listed_fit : (t : List Row) (n : ℕ) (hs xs : List Head) → Each NumbersFit t → Each HeadFits hs → Each HeadFits xs → Each FitsWord (elements.judged_of t n hs xs).listed
listed_fit = listed_each FitsWord (λ e c i r. record { id = i; crit = omega arith; error = omega arith }) NumbersFit (λ r g. (g.id, g.crit))

-- ---- the opening

record Judged (t : List Row) (s : List ℕ) (from : ℕ) (o : Opening) : Type 0 where
  count : ℕ
  extensions : List Head
  fit : Octets s → Each HeadFits extensions
  is : opening_by count (elements.judged_of t count (heads_at s count (from + 3)) extensions) ≡ o

judged : (t : List Row) (c : Bool) (s : List ℕ) (from : ℕ) {o : Opening} → Ok o ≡ opened_at t c s from → Judged t s from o
unfolding opened_at elements.elements_at
judged t c s from {o} q =
    let a = then_got (count_at c s from) _ q in
    let n = a.0.elements in
    let b = then_got (elements.elements_at t a.0.container s n (from + 3)) _ a.2 in
    let x = then_got (elements.extensions_behind t a.0.container s n (from + 3)) _ b.1 in
    let d = then_got (scan_at t s n (from + 3)) _ x.1 in
    record {
      count = n;
      extensions = x.0;
      fit = λ o. each_extension HeadFits s (heads_fit s o) a.0.container d.0 d.2;
      is = sym (same_got b.2 ∙ ap (opening_by n) (same_got x.2));
    }

pub none_noted : (es : List Entry) → length es ≡ 0 → es ≡ []
none_noted [] q = refl
none_noted (x ∷ es) q = absurd (omega arith)

module _ (t : List Row) (c : Bool) (s : List ℕ) (from : ℕ) (g : Each NumbersFit t) (o : Octets s) where
  pub noted_fit : Each FitsWord (noted_of (opened_at t c s from))
  noted_fit = by (opened_at t c s from) refl
    where
      by : (r : Read Opening) → r ≡ opened_at t c s from → Each FitsWord (noted_of r)
      by (Ok x) q =
          let j = judged t c s from q in
          subst (λ (y : Opening). Each FitsWord y.noted) j.is (each_first FitsWord 256 (elements.judged_of t j.count (heads_at s j.count (from + 3)) j.extensions).listed (listed_fit t j.count (heads_at s j.count (from + 3)) j.extensions g (heads_fit s o j.count (from + 3)) (j.fit o)))
      by (Err x) q = tt

  pub noted_few : length (noted_of (opened_at t c s from)) ≤ 256
  noted_few = by (opened_at t c s from) refl
    where
      by : (r : Read Opening) → r ≡ opened_at t c s from → length (noted_of r) ≤ 256
      by (Ok x) q =
          let j = judged t c s from q in
          subst (λ (y : Opening). length y.noted ≤ 256) j.is (first (elements.judged_of t j.count (heads_at s j.count (from + 3)) j.extensions).listed)
        where
          first : (es : List Entry) → length (take 256 es) ≤ 256
          first es = let n = length-take 256 es in omega arith
      by (Err x) q = omega arith

  pub noted_within : {l m : List ℕ} {n : ℕ} → length l ≡ 256 → NotedIn l (noted_of (opened_at t c s from)) m n → n ≤ length m
  noted_within {l} {m} {n} z w =
      let f = noted_few in
      let k = w.count in
      let x : length m ≡ 256 = ap length w.words ∙ (length-sets l 0 (map entry_word (noted_of (opened_at t c s from))) ∙ z) in
      omega arith

  -- the words say what is noted
  pub noted_back : {l m : List ℕ} {n : ℕ} → length l ≡ 256 → NotedIn l (noted_of (opened_at t c s from)) m n → map entry_by (take n m) ≡ noted_of (opened_at t c s from)
  noted_back {l} {m} {n} z w =
      let es : List Entry = noted_of (opened_at t c s from) in
      let f = noted_few in
      let e : n ≡ length (map entry_word es) = w.count ∙ sym (length-map es entry_word) in
      let k : length (map entry_word es) ≤ length l = omega (arith, length-map es entry_word) in
      let v : take n m ≡ map entry_word es = rw (e, w.words) (front_put l (map entry_word es) k) in
      ap (map entry_by) v ∙ entries_back es noted_fit
