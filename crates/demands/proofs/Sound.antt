-- What is understood of octets is in range: the frame's numbers, the values that the rules look at, and the entries that are noted.
-- Assumes nothing.
use Prim.Native.Nat.{ℕ, ◌+◌, ◌<◌}
use mathlib.Core.Path.{◌≡◌, refl, sym, subst}
use mathlib.Core.Bool.{Bool}
use mathlib.Core.List.{List, [], ◌∷◌}
use native.Mathlib.Omega.{arith}
use lib.ListN.{take, length-take}
use Rattle.lists.proofs.Tests.{on-pick}
use Rattle.std.specs.Prelude.{Ok, Err}
use Rattle.octets.specs.Read.{Read}
use Rattle.octets.specs.Field.{plain_at, choice_at, pad_at, number_at, open_at, ends_at}
use Rattle.octets.specs.Stands.{Octets}
use Rattle.octets.specs.declared.Span.{Span}
use Rattle.octets.specs.Span.{present}
use Rattle.octets.proofs.Chain.{then_got, same_got}
use Rattle.octets.proofs.Got.{choice_got}
use Rattle.octets.proofs.Stood.{octets_front}
use Rattle.octets.specs.Many.{Each}
use Rattle.values.specs.Values.{mme_at, mce_at, tmgi_at, one_at, two_at, cause_at, wait_at}
use Rattle.names.specs.Names.{name_at}
use Rattle.values.proofs.Good.{mme_good, mce_good}
use Rattle.items.specs.Items.{items_at, reset_at}
use Rattle.items.proofs.Good.{number_good, items_good, reset_good_lem}
use Rattle.diagnostics.specs.Diagnostics.{diagnostics_at}
use Rattle.diagnostics.specs.Written.{GoodEntry}
use Rattle.rows.specs.declared.Kind.{Kind}
use Rattle.rows.specs.declared.Kind.TheVariants as kind
use Rattle.rows.specs.declared.Row.{Row}
use Rattle.rows.specs.Table.{meanings}
use Rattle.envelopes.specs.declared.Head.{Head}
use Rattle.envelopes.specs.Envelope.{criticality_at, heads_at}
use Rattle.elements.specs.Judge as elements
use Rattle.elements.specs.Judge.{Found}
use Rattle.elements.proofs.ExtensionLaws.{each_extension}
use Rattle.elements.proofs.Listed.{each_first, HeadFits, criticality_below, heads_fit, listed_each}
use Rattle.editions.specs.declared.Message.{Message}
use Rattle.editions.specs.declared.Edition.{Edition}
use Rattle.editions.specs.Editions.{table_of, container_of}
use Rattle.frames.specs.declared.Frame.{Frame}
use Rattle.frames.specs.Frame.{kind_at, frame_at}
use Rattle.meaning.specs.Value as value
use Rattle.meaning.specs.Value.{Value}
use Rattle.meaning.specs.Reading.{read_as, or_absent, value_in, values_in}
use Rattle.verdicts.specs.Verdict.{Opening, Understood, understood, understood_by, read_of}
use Rattle.editions.proofs.Tables.{Fits, rows_fit}
use Rattle.round_trips.proofs.Accepted.{opened}
use Rattle.round_trips.proofs.ValueAgain.{of_read}
use Rattle.requests.specs.Requests.{seen}
use Rattle.demands.proofs.Written.{GoodEntries, GoodFrame}
use Rattle.demands.proofs.Seen.{GoodValue, GoodGiven, GoodSeen, seen_good, GoodListed, listed_good}
use Rattle.demands.proofs.Verdicts.{Judging, judging}

-- ---- what is said

pub record Sound (u : Understood) : Type 0 where
  pub frame : GoodFrame u.frame
  pub seen : GoodSeen (seen u.what.values)
  pub items : GoodListed u.what.values
  pub noted : GoodEntries u.noted

-- ---- numbers

kind_good : (s : List ℕ) {v : ℕ} → Ok v ≡ kind_at s → v < 3
unfolding kind_at
kind_good s q =
    let a = then_got (plain_at s 0 0) _ q in
    let b = then_got (choice_at 3 2 s 0 1) _ a.2 in
    let c = then_got (pad_at s 0 3) _ b.2 in
    rw (same_got c.2) (choice_got s 0 3 2 1 b.1).2

frame_good : (s : List ℕ) {f : Frame} → Octets s → Ok f ≡ frame_at s → GoodFrame f
unfolding frame_at
frame_good s {f} o q =
    let a = then_got (kind_at s) _ q in
    let b = then_got (number_at 1 s 1) _ a.2 in
    let c = then_got (criticality_at s 2) _ b.2 in
    let d = then_got (open_at s 3) _ c.2 in
    let e = then_got (ends_at s d.0.to) _ d.2 in
    subst GoodFrame (sym (same_got e.2)) (record { kind = kind_good s a.1; code = number_good 1 s 1 o b.1; crit = criticality_below s 2 c.1 })

-- ---- entries

listed_entries : (t : List Row) (n : ℕ) (hs xs : List Head) → Each Fits t → Each HeadFits hs → Each HeadFits xs → Each GoodEntry (elements.judged_of t n hs xs).listed
listed_entries = listed_each GoodEntry (λ e c i r. record { crit = c; id = i; error = r }) Fits (λ r g. (g.id, g.crit))

-- ---- values of the record

module _ (s : List ℕ) (o : Octets s) where
  module _ (p : Span) where
    cut : Octets (take p.to s)
    cut = octets_front s p.to o

    read_good : (k : Kind) {v : Value Span} → Ok v ≡ read_as k s p → GoodValue v
    unfolding read_as
    read_good kind.Carried q = subst GoodValue (sym (same_got q)) tt
    read_good kind.Mme q = of_read GoodValue value.mme (mme_at (take p.to s) p.from) q (λ a h. mme_good (take p.to s) p.from cut h)
    read_good kind.Mce q = of_read GoodValue value.mce (mce_at (take p.to s) p.from) q (λ a h. mce_good (take p.to s) p.from cut h)
    read_good kind.Tmgi q = of_read GoodValue value.tmgi (tmgi_at (take p.to s) p.from) q (λ a h. tt)
    read_good kind.OneOctet q = of_read GoodValue value.one (one_at (take p.to s) p.from) q (λ a h. tt)
    read_good kind.TwoOctets q = of_read GoodValue value.two (two_at (take p.to s) p.from) q (λ a h. tt)
    read_good kind.Cause q = of_read GoodValue value.cause (cause_at (take p.to s) p.from) q (λ a h. tt)
    read_good kind.Wait q = of_read GoodValue value.wait (wait_at (take p.to s) p.from) q (λ a h. tt)
    read_good kind.Name q = of_read GoodValue value.name (name_at (take p.to s) p.from) q (λ a h. tt)
    read_good kind.ResetType q = of_read GoodValue value.reset (reset_at (take p.to s) p.from) q (λ a h. reset_good_lem (take p.to s) p.from cut h)
    read_good kind.Acknowledged q = of_read GoodValue value.list (items_at (take p.to s) p.from) q (λ a h. items_good (take p.to s) p.from cut h)
    read_good (kind.Diagnostics t) q = of_read GoodValue (value.diagnostics t) (diagnostics_at (meanings t) (take p.to s) p.from) q (λ a h. tt)

    value_good : (k : Kind) → GoodGiven (value_in k s p)
    unfolding value_in
    value_good k = on-pick GoodGiven (present p) (by (read_as k s p) refl) tt
      where
        by : (r : Read (Value Span)) → r ≡ read_as k s p → GoodGiven (or_absent r)
        by (Ok v) q = read_good k q
        by (Err x) q = tt

  pub values_good : (t : List Row) (l : List Span) → Each GoodGiven (values_in t s l)
  unfolding values_in
  values_good [] l = tt
  values_good (r ∷ t) [] = tt
  values_good (r ∷ t) (p ∷ l) = (value_good p r.kind, values_good t l)

-- ---- verdicts

module _ (e : Edition) (s : List ℕ) (o : Octets s) where
  noted_good : (m : Message) (from : ℕ) {x : Opening} → Judging (table_of e m) (container_of e m) s from x → GoodEntries x.noted
  noted_good m from {x} j =
      let t : List Row = table_of e m in
      let n = j.opens.elements in
      let f : Found = elements.judged_of t n (heads_at s n (from + 3)) j.extensions in
      let l = length-take 256 f.listed in
      subst (λ (y : Opening). GoodEntries y.noted) j.is (record {
        few = omega arith;
        each = each_first GoodEntry 256 f.listed (listed_entries t n (heads_at s n (from + 3)) j.extensions (rows_fit e m) (heads_fit s o n (from + 3)) (each_extension HeadFits s (heads_fit s o) j.opens.container j.end j.behind));
      })

  opened_sound : (m : Message) (f : Frame) (x : Opening) → GoodFrame f → Judging (table_of e m) (container_of e m) s f.from x → Sound (understood_by (table_of e m) m f s x)
  opened_sound m f x g j =
      let v = values_good s o (table_of e m) x.spans in
      record {
        frame = g;
        seen = seen_good (values_in (table_of e m) s x.spans) v;
        items = listed_good (values_in (table_of e m) s x.spans) v;
        noted = noted_good m f.from j;
      }

  pub read_sound : (among : Message → Bool) (u : Understood) → read_of e among s ≡ understood u → Sound u
  read_sound among u q =
      let w = opened e among s u q in
      subst Sound w.is (opened_sound u.what.message u.frame w.opening (frame_good s o w.framed) (judging (table_of e u.what.message) (container_of e u.what.message) s u.frame.from w.read))
