-- Rewriting what was read gives the same octets, and so octets that differ say what differs.
-- Assumes nothing.
use mathlib.Core.Path.{◌≡◌, ◌∙◌, refl, sym, ap}
use mathlib.Core.Bool.{Bool, true, false}
use mathlib.Core.List.{List, [], ◌∷◌, map}
use Prim.Native.Nat.{ℕ, suc, ◌+◌, ◌≤◌}
use native.Mathlib.Omega.{arith}
use borrow.Author.Tests.{le-leb}
use lib.ListN.{length, replicate, length-replicate}
use lib.Seq.{take_all}
use Rattle.lists.specs.Lists.{pick}
use Rattle.std.specs.Prelude.{Ok}
use Rattle.octets.specs.Field.{plain_at, pad_at, number_at}
use Rattle.octets.specs.Stands.{Fills, Octets}
use Rattle.octets.specs.declared.Span.{Span}
use Rattle.octets.specs.Span.{no_span}
use Rattle.octets.proofs.Chain.{then_got}
use Rattle.octets.proofs.Got.{number_got, ends_got}
use Rattle.rows.specs.declared.Row.{Row}
use Rattle.envelopes.specs.declared.Head.{Head}
use Rattle.envelopes.specs.Envelope.{heads_at}
use Rattle.elements.specs.Judge as judge
use Rattle.elements.proofs.WalkLaws.{read_rows}
use Rattle.editions.specs.declared.Edition.{Edition}
use Rattle.editions.specs.Editions.{table_of, container_of, code_of}
use Rattle.frames.specs.Frame.{container_at, count_at}
use Rattle.frames.specs.declared.Count.{Count}
use Rattle.meaning.specs.Value.{Given, on_given, octets_in, Said, said_by}
use Rattle.meaning.specs.Written.{elements_octets, how_many, inside_octets, message_octets, octets, elements_good, encoded}
use Rattle.meaning.specs.Reading.{values_in}
use Rattle.verdicts.specs.Verdict.{Understood, every}
use Rattle.round_trips.specs.Ties.{lacking, Rewritable, Rewritten, OctetsDiffer}
use Rattle.round_trips.proofs.ValueBack.{said_in}
use Rattle.editions.proofs.Names.{named_code}
use Rattle.round_trips.proofs.EnvelopeAgain.{count_again, frame_again}
use Rattle.round_trips.proofs.Ordered.{scanned, ordered, holds}
use Rattle.round_trips.proofs.ElementsAgain.{elements_again}
use Rattle.round_trips.proofs.GoodAgain.{each_get_d, each_replicate, Placed, placed_none, read_placed, values_has, lacking_said, elements_good_lem}
use Rattle.round_trips.proofs.Accepted.{opened, accepted}

-- what fills all is all
filled : (s os : List ℕ) → Fills s 0 os → os ≡ s
filled s os h = let e = h.ends in sym h.stands.octets ∙ take_all (length os) s (omega arith)

-- the elements begin inside
count_in : (c : Bool) (s : List ℕ) (from : ℕ) {n : Count} → Ok n ≡ count_at c s from → from + 3 ≤ length s
unfolding count_at
count_in c s from q =
    let a = then_got (plain_at s from 0) _ q in
    let x = then_got (container_at c s from) _ a.2 in
    let b = then_got (pad_at s from (pick c 2 1)) _ x.2 in
    let h = (number_got s (from + 1) 2 (then_got (number_at 2 s (from + 1)) _ b.2).1).0 in
    omega arith

-- a value, or none, for each row
said_length : (t : List Row) (s : List ℕ) (l : List Span) → length l ≡ length t → length (said_in t s l) ≡ length t
unfolding values_in
said_length [] s l e = refl
said_length (r ∷ t) s [] e = absurd (omega arith)
said_length (r ∷ t) s (v ∷ l) e = ap suc (said_length t s l (omega arith))

-- the count and the elements
inside_again : (t : List Row) (vs : List (Given (List ℕ))) (c : Bool) (s : List ℕ) (from n : ℕ) → Octets s → Ok (record { elements = n; container = false }) ≡ count_at c s from → how_many vs ≡ n → Fills s (from + 3) (elements_octets t vs)
    → Fills s from (inside_octets t vs)
unfolding inside_octets
inside_again t vs c s from n o q e h = rw e (count_again c s from n (elements_octets t vs) o q h)

-- a message of good elements and at most 8,192 octets has these
written : (e : Edition) (w : Said) (s : List ℕ) → elements_good (table_of e w.message) w.values ≡ true → message_octets e w ≡ s → length s ≤ 8192 → encoded e w ≡ octets s
unfolding encoded
written e w s g q h = rw (q, g, le-leb (length s) 8192 h)

module _ (e : Edition) (s : List ℕ) (r : Rewritable e s) where
  abbrev from : ℕ
  from = r.what.frame.from

  abbrev table : List Row
  table = table_of e r.what.what.message

  abbrev can : Bool
  can = container_of e r.what.what.message

  abbrev heads : List Head
  heads = heads_at s r.count (from + 3)

  -- where the value of each row stands
  abbrev spans : List Span
  spans = judge.read_of table heads

  abbrev said : Said
  said = record { message = r.what.what.message; values = said_in table s spans }

  again : encoded e (said_by s r.what.what) ≡ octets s
  unfolding message_octets said_by
  again =
      let o = r.octets in
      let u = opened e every s r.what r.read in
      let k : u.opening.outcome ≡ _ = ap (λ (x : Understood). x.outcome) u.is ∙ r.accepted in
      let a = accepted table can s from r.count u.opening u.read r.counted k in
      let x = scanned table s a.end r.count (from + 3) a.scan in
      let size = x.0 in
      let all = a.all in
      let y = ordered table s 0 heads r.elements (omega arith) in
      let values : r.what.what.values ≡ values_in table s spans =
      sym (ap (λ (z : Understood). z.what.values) u.is) ∙ (ap (values_in table s) a.spans ∙ ap (λ (hs : List Head). values_in table s (judge.read_of table hs)) y.0) in
      let is : said_by s r.what.what ≡ said = ap (λ (vs : List (Given Span)). record { message = r.what.what.message; values = map (on_given (octets_in s)) vs }) values in
      let n = read_rows table heads in
      let p = read_placed table s a.end (from + 3) (replicate (length table) no_span) heads x.1 (each_replicate (Placed s) (length table) (placed_none s)) in
      let full = lacking_said table s (values_in table s spans) ∙ (sym (ap (λ (vs : List (Given Span)). lacking table vs) values) ∙ r.complete) in
      let good = elements_good_lem table (said_in table s spans) (said_length table s spans n) full (values_has table s spans o p) in
      let h = holds table 0 (replicate (length table) no_span) heads (length-replicate (length table) no_span)
      (λ j z. each_get_d (λ (v : Span). v ≡ no_span) (replicate (length table) no_span) j (each_replicate (λ (v : Span). v ≡ no_span) (length table) refl) refl) y.1 in
      let els = elements_again table s o a.end (ends_got s a.end a.ends) spans n 0 (from + 3) heads (omega arith) (count_in can s from r.counted) x.1 y.1 h r.elements in
      let inside = inside_again table (said_in table s spans) can s from r.count o r.counted (els.1 ∙ x.0) els.0 in
      let c = named_code e r.what.frame.kind r.what.frame.code r.what.what.message u.named in
      let f = frame_again s r.what.frame (code_of e r.what.what.message) (inside_octets table (said_in table s spans)) o u.framed c.0 c.1 r.crit inside in
      ap (encoded e) is ∙ written e said s good (filled s _ f) u.size

pub rewritten : (e : Edition) → Rewritten e
rewritten e s r = again e s r

pub octets_differ : (e : Edition) → OctetsDiffer e
octets_differ e s z r q p = let x : octets s ≡ octets z = sym (rewritten e s r) ∙ (ap (encoded e) p ∙ rewritten e z q) in cc
