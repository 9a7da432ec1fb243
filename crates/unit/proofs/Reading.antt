-- Whether octets answer a setup request, and what is decided, by the steps in which the code comes to it.
-- Assumes nothing.
use Prim.Native.Nat.{ℕ, ◌≤◌, ◌<◌}
use mathlib.Core.Path.{◌≡◌, ◌∙◌, refl, sym, ap, subst}
use mathlib.Core.Bool.{Bool, false}
use mathlib.Core.List.{List}
use borrow.Author.Tests.{lt-ltb, le-ltb}
use lib.ListN.{length}
use Rattle.std.specs.Prelude.{Ok, Err, Option}
use Rattle.octets.specs.Read.{Read}
use Rattle.octets.specs.Many.{Each}
use Rattle.octets.specs.declared.Stop.{Stop}
use Rattle.octets.proofs.Chain.{same_got, got_stop}
use Rattle.octets.specs.declared.Span.{Span}
use Rattle.identity.specs.declared.MceId.{MceId}
use Rattle.rows.specs.declared.Row.{Row}
use Rattle.elements.proofs.Listed.{each_map}
use Rattle.editions.specs.declared.Edition.{Edition}
use Rattle.editions.specs.declared.Message.{Message}
use Rattle.editions.specs.Editions.{table_of, container_of, named_by}
use Rattle.editions.proofs.Tables.{Fits, rows_fit}
use Rattle.frames.specs.declared.Frame.{Frame}
use Rattle.frames.specs.Frame.{frame_at}
use Rattle.meaning.specs.Value.{Given}
use Rattle.meaning.specs.Reading.{values_in}
use Rattle.layout.specs.Record.{lists_of}
use Rattle.verdicts.specs.Verdict.{Opening, opened_at, understood_by, verdict_of}
use Rattle.judging.specs.declared.Opened.{Opened}
use Rattle.judging.proofs.Steps.{Passed, passed}
use Rattle.judging.specs.Judging.{opened_by, Opens, noted_of}
use Rattle.entries.specs.declared.Entry.{Entry}
use Rattle.requests.specs.Requests.{seen, ask_of}
use Rattle.table.specs.Table.{standing}
use Rattle.units.specs.Unit.{Unit}
use Rattle.carry.specs.Carry.{Ruling, ruling, asked_by, decision}
use Rattle.calls.specs.Judged.{judged_by, is_answer, setup_answer}
use Rattle.calls.specs.Decided.{applied, decided}
use Rattle.unit.proofs.Laws.{none_listed, ruled_applied}
use Rattle.unit.specs.Fit.{NumbersFit}

-- ---- whether it answers a setup request: what is no message answers none

module _ (e : Edition) (s : List ℕ) where
  pub long_answers : 8192 < length s → setup_answer e s ≡ false
  unfolding setup_answer
  long_answers h = rw (lt-ltb 8192 (length s) h)

  module _ (h : length s ≤ 8192) where
    pub stopped_answers : {x : Stop} → Err x ≡ frame_at s → setup_answer e s ≡ false
    unfolding setup_answer
    stopped_answers q = rw (le-ltb 8192 (length s) h, ← q)

    pub named_answers : {f : Frame} → Ok f ≡ frame_at s → {n : Option Message} → named_by e f.kind f.code ≡ n → setup_answer e s ≡ is_answer e n
    unfolding setup_answer
    named_answers q n = rw (le-ltb 8192 (length s) h, ← q, n)

-- ---- the numbers of a table

pub numbers_fit : (e : Edition) (m : Message) {t : List Row} → t ≡ table_of e m → Each NumbersFit t
numbers_fit e m q = subst (Each NumbersFit) (sym q) (each_map Fits NumbersFit (λ r g. record { id = g.id; crit = g.crit }) (table_of e m) (rows_fit e m))

-- ---- what the code has found, step by step, is what is decided

decided_so : (e : Edition) (m : Message) (f : Frame) (s : List ℕ) (c : MceId) (l : Unit) (y : Opening) {x : Read Opening} {vs : List (Given Span)} {es : List Entry} {u : Ruling}
    → x ≡ Ok y → vs ≡ values_in (table_of e m) s y.spans → es ≡ y.noted → u ≡ ruling (ask_of m) (seen vs) y.outcome
    → applied e l f (lists_of vs).items es (decision (standing (asked_by c u) l.held) c u) ≡ decided e l c (judged_by e (verdict_of (table_of e m) m f s x))
unfolding judged_by
decided_so e m f s c l y {x} {vs} {es} {u} a b g k =
    (λ i. applied e l f (lists_of (b i)).items (g i) (decision (standing (asked_by c (z i)) l.held) c (z i)))
    ∙ (ruled_applied e l c (understood_by (table_of e m) m f s y) r (none_listed (ask_of m) (seen (values_in (table_of e m) s y.spans)) y.outcome refl)
    ∙ sym (ap (λ (w : Read Opening). decided e l c (judged_by e (verdict_of (table_of e m) m f s w))) a))
  where
    r : Ruling
    r = ruling (ask_of m) (seen (values_in (table_of e m) s y.spans)) y.outcome

    z : u ≡ r
    z = k ∙ ap (λ (v : List (Given Span)). ruling (ask_of m) (seen v) y.outcome) b

-- what is noted is counted
pub noted_count : (r : Read Opening) {a : Read Opened} {o : Opened} {ps : List Span} → Opens r a ps → a ≡ Ok o → o.noted ≡ length (noted_of r)
noted_count r {o = o} q g = by r (sym g ∙ q.result)
  where
    by : (r : Read Opening) → Ok o ≡ opened_by r → o.noted ≡ length (noted_of r)
    by (Ok y) e = ap (λ (z : Opened). z.noted) (same_got e)
    by (Err x) e = got_stop e

module _ (e : Edition) (m : Message) (f : Frame) (s : List ℕ) {t : List Row} {r : Read Opened} {o : Opened} {ps : List Span} (rows : t ≡ table_of e m) {b : Bool} (container : b ≡ container_of e m) (q : Opens (opened_at t b s f.from) r ps) (g : r ≡ Ok o) where
  found : Passed e m f s t o ps
  found = passed e m f s rows container q g

  noted_is : noted_of (opened_at t b s f.from) ≡ found.opening.noted
  noted_is = ap noted_of ((λ i. opened_at (rows i) (container i) s f.from) ∙ found.is)

  pub decided_by : {u : Ruling} → u ≡ ruling (ask_of m) (seen (values_in t s ps)) o.outcome → (c : MceId) (l : Unit)
      → applied e l f (lists_of (values_in t s ps)).items (noted_of (opened_at t b s f.from)) (decision (standing (asked_by c u) l.held) c u)
      ≡ decided e l c (judged_by e (verdict_of (table_of e m) m f s (opened_at (table_of e m) (container_of e m) s f.from)))
  decided_by a c l = decided_so e m f s c l found.opening found.is found.values noted_is (a ∙ ap (ruling (ask_of m) (seen (values_in t s ps))) found.outcome)
