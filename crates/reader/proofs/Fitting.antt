-- Whatever is read of at most 8,192 octets can be held by a record: a carried value lies in them, an identity has two octets, a list at most 256.
-- Assumes nothing.
use mathlib.Core.Path.{◌≡◌, refl, sym, ◌∙◌}
use mathlib.Core.Bool.{Bool, true, false}
use mathlib.Core.List.{List, [], ◌∷◌}
use Prim.Native.Nat.{ℕ, suc, ◌≤◌, ◌<◌}
use native.Mathlib.Omega.{arith}
use borrow.Author.Tests.{ltb-false}
use lib.Dec.{ltb}
use lib.ListN.{length, take, get_or}
use lib.Seq.{length-take-le}
use Rattle.lists.specs.Lists.{pick}
use Rattle.std.specs.Prelude.{Ok, Err}
use Rattle.octets.specs.Read.{Read}
use Rattle.octets.specs.Many.{Each}
use Rattle.octets.specs.Stands.{Octets}
use Rattle.octets.specs.declared.Span.{Span}
use Rattle.octets.specs.Span.{no_span, present}
use Rattle.octets.proofs.Stood.{octets_front}
use Rattle.identity.specs.declared.Item.{Item}
use Rattle.values.specs.Values.{mme_at, mce_at, tmgi_at, one_at, two_at, cause_at, wait_at}
use Rattle.names.specs.Names.{name_at}
use Rattle.values.proofs.Good.{mme_good, mce_good, two_good}
use Rattle.names.proofs.Good.{name_in_lem}
use Rattle.items.specs.Items.{ResetType, whole, part, items_at, reset_at}
use Rattle.items.specs.Written.{GoodItems, GoodReset}
use Rattle.items.proofs.Good.{items_good, reset_good_lem}
use Rattle.entries.specs.declared.Entry.{Entry}
use Rattle.diagnostics.specs.Diagnostics.{Diagnostics, diagnostics_at}
use Rattle.diagnostics.specs.Written.{GoodEntry, GoodDiagnostics}
use Rattle.diagnostics.proofs.Again.{diagnostics_again}
use Rattle.rows.specs.declared.Kind.{Kind}
use Rattle.rows.specs.declared.Kind.TheVariants as kind
use Rattle.rows.specs.declared.Row.{Row}
use Rattle.rows.specs.Table.{no_row, meanings}
use Rattle.meaning.specs.Value.{Value, Given, given, absent, mme, mce, tmgi, one, two, cause, wait, name, reset, list, diagnostics}
use Rattle.meaning.specs.Ranges.{value_kind}
use Rattle.meaning.specs.Reading.{or_absent, read_as, value_in, values_in}
use Rattle.layout.specs.Held.{PlaceFits, ItemsFit, DiagnosticsFit, Fits, RowFits, RowsFit}
use Rattle.reader.specs.Steps.{IfPresent, given_read}

place_fits : (v : Span) → v.from < v.to → v.to ≤ 8192 → PlaceFits v
place_fits v h b = (omega arith, omega arith, omega arith)

items_fit : {is : List Item} → GoodItems is → ItemsFit is
items_fit g = record { few = g.1; each = g.2 }

reset_fits : (r : ResetType) → GoodReset r → Fits (reset r)
reset_fits whole g = tt
reset_fits (part is) g = items_fit g

ids : (es : List Entry) → Each GoodEntry es → Each (λ (e : Entry). e.id < 65536) es
ids [] g = tt
ids (e ∷ es) g = (g.0.id, ids es g.1)

no_entries : (es : List Entry) → ltb 0 (length es) ≡ false → es ≡ []
no_entries [] e = refl
no_entries (x ∷ es) e = absurd (omega (arith, ltb-false 0 (length (x ∷ es)) e))

diagnostics_fit : (n : ℕ) (d : Diagnostics) → GoodDiagnostics n d → DiagnosticsFit d
diagnostics_fit n d g = record { entries = record { few = g.count; each = ids d.entries g.entries }; none = λ e. no_entries d.entries (sym g.listed ∙ e) }

-- a value of a kind that fits, if one is given
FitsAs : Kind → Given Span → Type 0
FitsAs k (given v) = (value_kind v ≡ k) × Fits v
FitsAs k absent = Unit

by_reading : {A : Type 0} (k : Kind) (is : A → Value Span) (r : Read A) → ((a : A) → Ok a ≡ r → (value_kind (is a) ≡ k) × Fits (is a)) → FitsAs k (given_read is r)
unfolding FitsAs
by_reading k is (Ok a) g = g a refl
by_reading k is (Err x) g = tt

module _ (s : List ℕ) (o : Octets s) (b : length s ≤ 8192) (v : Span) where
  octets : Octets (take v.to s)
  octets = octets_front s v.to o

  read_fits : (k : Kind) → v.from ≤ v.to → v.to ≤ length s → FitsAs k (or_absent (read_as k s v))
  unfolding read_as FitsAs
  read_fits kind.Carried h z = (refl, (omega arith, h, omega arith))
  read_fits kind.Mme h z = by_reading kind.Mme mme (mme_at (take v.to s) v.from) (λ a q. (refl, mme_good (take v.to s) v.from octets q))
  read_fits kind.Mce h z = by_reading kind.Mce mce (mce_at (take v.to s) v.from) (λ a q. (refl, mce_good (take v.to s) v.from octets q))
  read_fits kind.Tmgi h z = by_reading kind.Tmgi tmgi (tmgi_at (take v.to s) v.from) (λ a q. (refl, tt))
  read_fits kind.OneOctet h z = by_reading kind.OneOctet one (one_at (take v.to s) v.from) (λ a q. (refl, tt))
  read_fits kind.TwoOctets h z = by_reading kind.TwoOctets two (two_at (take v.to s) v.from) (λ a q. (refl, two_good (take v.to s) v.from octets q))
  read_fits kind.Cause h z = by_reading kind.Cause cause (cause_at (take v.to s) v.from) (λ a q. (refl, tt))
  read_fits kind.Wait h z = by_reading kind.Wait wait (wait_at (take v.to s) v.from) (λ a q. (refl, tt))
  read_fits kind.Name h z =
      by_reading kind.Name name (name_at (take v.to s) v.from)
      (λ a q. let i = name_in_lem (take v.to s) v.from q in (refl, place_fits a i.1 (omega (arith, i.2, length-take-le v.to s z))))
  read_fits kind.ResetType h z = by_reading kind.ResetType reset (reset_at (take v.to s) v.from) (λ a q. (refl, reset_fits a (reset_good_lem (take v.to s) v.from octets q)))
  read_fits kind.Acknowledged h z = by_reading kind.Acknowledged list (items_at (take v.to s) v.from) (λ a q. (refl, items_fit (items_good (take v.to s) v.from octets q)))
  read_fits (kind.Diagnostics t) h z =
      by_reading (kind.Diagnostics t) (diagnostics t) (diagnostics_at (meanings t) (take v.to s) v.from)
      (λ a q. (refl, diagnostics_fit (meanings t) a (diagnostics_again (take v.to s) octets (meanings t) v.from a q).2))

  value_fits : (k : Kind) → IfPresent k s v → FitsAs k (value_in k s v)
  unfolding value_in FitsAs
  value_fits k p = by (present v) refl
    where
      by : (t : Bool) → present v ≡ t → FitsAs k (pick t (or_absent (read_as k s v)) absent)
      by true e = let l = p e in read_fits k l.order l.within
      by false e = tt

fits_row : (r : Row) (g : Given Span) → FitsAs r.kind g → RowFits r g
unfolding FitsAs
fits_row r (given v) f = f
fits_row r absent f = tt

pub values_fit : (t : List Row) (s : List ℕ) (l : List Span) → Octets s → length s ≤ 8192 → length l ≡ length t
    → ((k : ℕ) → IfPresent (get_or t k no_row).kind s (get_or l k no_span)) → RowsFit t (values_in t s l)
unfolding values_in
values_fit [] s l o b n p = tt
values_fit (r ∷ t) s [] o b n p = absurd (omega arith)
values_fit (r ∷ t) s (v ∷ l) o b n p = (fits_row r (value_in r.kind s v) (value_fits s o b v r.kind (p 0)), values_fit t s l o b (omega arith) (λ k. p (suc k)))
