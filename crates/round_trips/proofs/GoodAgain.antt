-- Values of rows that were read are good where no mandatory one is lacking; and where they stand is inside.
-- Assumes nothing.
use mathlib.Core.Path.{◌≡◌, refl, ap}
use mathlib.Core.Bool.{Bool, true, false, ◌||◌}
use mathlib.Core.List.{List, [], ◌∷◌, map}
use Prim.Native.Nat.{ℕ, zero, suc, ◌<◌, ◌≤◌}
use native.Mathlib.Omega.{arith}
use borrow.Author.Tests.{ltb-true}
use lib.Dec.{ltb}
use lib.ListN.{length, set, get_or, replicate}
use Rattle.lists.specs.Lists.{pick}
use Rattle.lists.proofs.Tests.{or_left, or_right}
use Rattle.std.specs.Prelude.{Ok, Err}
use Rattle.octets.specs.Read.{Read}
use Rattle.octets.specs.Stands.{Octets}
use Rattle.octets.specs.declared.Span.{Span}
use Rattle.octets.specs.Span.{no_span}
use Rattle.octets.specs.Many.{Each}
use Rattle.rows.specs.declared.Kind.{Kind}
use Rattle.rows.specs.declared.Row.{Row}
use Rattle.envelopes.specs.declared.Head.{Head}
use Rattle.rows.specs.Table.{find}
use Rattle.elements.specs.Judge.{read_into}
use Rattle.envelopes.proofs.ScanLaws.{envelope_in}
use Rattle.meaning.specs.Value.{Value, Given, given, absent, on_given, octets_in}
use Rattle.meaning.specs.Written.{has_octets, elements_good}
use Rattle.meaning.specs.Reading.{read_as, or_absent, value_in, values_in}
use Rattle.round_trips.specs.Ties.{lacking}
use Rattle.round_trips.proofs.ValueBack.{said_in}
use Rattle.round_trips.proofs.ValueAgain.{value_has}
use Rattle.round_trips.proofs.Ordered.{Scanned}

-- ---- each of a list

module _ {A : Type 0} (P : A → Type 0) where
  each_set : (l : List A) (i : ℕ) {a : A} → Each P l → P a → Each P (set l i a)
  each_set [] i g h = tt
  each_set (x ∷ l) zero g h = (h, g.1)
  each_set (x ∷ l) (suc i) g h = (g.0, each_set l i g.1 h)

  pub each_get_d : (l : List A) (i : ℕ) {d : A} → Each P l → P d → P (get_or l i d)
  each_get_d [] i g h = h
  each_get_d (x ∷ l) zero g h = g.0
  each_get_d (x ∷ l) (suc i) g h = each_get_d l i g.1 h

  pub each_replicate : (n : ℕ) {a : A} → P a → Each P (replicate n a)
  each_replicate zero h = tt
  each_replicate (suc n) h = (h, each_replicate n h)

-- ---- where values stand

-- it ends inside, and has an octet if it is there
pub record Placed (s : List ℕ) (v : Span) : Type 0 where
  pub ends : v.to ≤ length s
  pub some : 0 < v.to → v.from < v.to

pub placed_none : (s : List ℕ) → Placed s no_span
placed_none s = record { ends = omega arith; some = λ h. absurd (omega arith) }

pub read_placed : (t : List Row) (s : List ℕ) (end at : ℕ) (l : List Span) (hs : List Head) → Scanned t s end at hs → Each (Placed s) l → Each (Placed s) (read_into t l hs)
unfolding read_into
read_placed t s end at l [] q g = g
read_placed t s end at l (h ∷ hs) q g =
    let x = envelope_in s at q.0 in
    read_placed t s end h.value.to (set l (find h.id t) h.value) hs q.2 (each_set (Placed s) l (find h.id t) g (record { ends = x.2; some = λ z. x.1 }))

-- ---- values that have octets

abbrev pub Has : Given (List ℕ) → Type 0
Has (given v) = has_octets v ≡ true
Has absent = Unit

value_in_has : (k : Kind) (s : List ℕ) (v : Span) → Octets s → Placed s v → Has (on_given (octets_in s) (value_in k s v))
unfolding value_in
value_in_has k s v o p = by (ltb 0 v.to) refl
  where
    read : (r : Read (Value Span)) → r ≡ read_as k s v → 0 < v.to → Has (on_given (octets_in s) (or_absent r))
    read (Ok a) e h = value_has s o v k (p.some h) p.ends e
    read (Err x) e h = tt

    by : (b : Bool) → ltb 0 v.to ≡ b → Has (on_given (octets_in s) (pick b (or_absent (read_as k s v)) absent))
    by true e = read (read_as k s v) refl (ltb-true 0 v.to e)
    by false e = tt

pub values_has : (t : List Row) (s : List ℕ) (l : List Span) → Octets s → Each (Placed s) l → Each Has (said_in t s l)
unfolding values_in
values_has [] s l o p = tt
values_has (r ∷ t) s [] o p = tt
values_has (r ∷ t) s (v ∷ l) o p = (value_in_has r.kind s v o p.0, values_has t s l o p.1)

-- what is said has a mandatory element where its record has
pub lacking_said : (t : List Row) (s : List ℕ) (vs : List (Given Span)) → lacking t (map (on_given (octets_in s)) vs) ≡ lacking t vs
unfolding lacking
lacking_said [] s vs = refl
lacking_said (r ∷ t) s [] = refl
lacking_said (r ∷ t) s (given v ∷ vs) = lacking_said t s vs
lacking_said (r ∷ t) s (absent ∷ vs) = ap (λ (b : Bool). r.mandatory || b) (lacking_said t s vs)

pub elements_good_lem : (t : List Row) (vs : List (Given (List ℕ))) → length vs ≡ length t → lacking t vs ≡ false → Each Has vs → elements_good t vs ≡ true
unfolding lacking elements_good
elements_good_lem [] [] n e h = refl
elements_good_lem [] (v ∷ vs) n e h = absurd (omega arith)
elements_good_lem (r ∷ t) [] n e h = absurd (omega arith)
elements_good_lem (r ∷ t) (given v ∷ vs) n e h = rw h.0 (elements_good_lem t vs (omega arith) e h.1)
elements_good_lem (r ∷ t) (absent ∷ vs) n e h = rw (or_left r.mandatory (lacking t vs) e) (elements_good_lem t vs (omega arith) (or_right r.mandatory (lacking t vs) e) h.1)
