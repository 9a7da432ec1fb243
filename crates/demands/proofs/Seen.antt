-- What the values of a record come to: what is seen and listed does not hang on what is carried; it is in range where each value is; it has a value of
-- each kind that is there; and a part of the interface has its items.
-- Assumes nothing.
use Rattle.std.specs.Prelude.{IsSome, Some}
use Prim.Native.Nat.{ℕ, zero, suc, ◌<◌}
use mathlib.Core.Path.{◌≡◌, ◌∙◌, refl, sym, ap}
use mathlib.Core.List.{List, [], ◌∷◌, map}
use native.Mathlib.Omega.{arith}
use lib.ListN.{length, get_or}
use Rattle.octets.specs.Many.{Each}
use Rattle.items.specs.Items.{whole, part}
use Rattle.items.specs.Written.{GoodItems, GoodReset}
use Rattle.rows.specs.declared.Kind.{Kind}
use Rattle.rows.specs.declared.Kind.TheVariants as kind
use Rattle.meaning.specs.Value as value
use Rattle.meaning.specs.Value.{Value, Given, given, absent, Said, Record, on_carried, on_given, octets_in, said_by}
use Rattle.meaning.specs.Ranges.{value_kind}
use Rattle.layout.specs.Record.{lists_of}
use Rattle.requests.specs.declared.Extent.TheVariants as extent
use Rattle.requests.specs.declared.Seen.{Seen}
use Rattle.requests.specs.Requests.{seeing, seen, items_in}
use Rattle.demands.proofs.Written.{GoodMme, GoodMce, GoodList}

-- ---- with something else for what is carried

module _ {C D : Type 0} (f : C → D) where
  pub seen_map : (vs : List (Given C)) → seen (map (on_given f) vs) ≡ seen vs
  unfolding seen on_carried
  seen_map [] = refl
  seen_map (absent ∷ vs) = seen_map vs
  seen_map (given v ∷ vs) = by v (seen_map vs)
    where
      by : (v : Value C) {x y : Seen} → x ≡ y → seeing (on_carried f v) x ≡ seeing v y
      by (value.carried c) q = q
      by (value.mme m) q = ap (seeing {C = C} (value.mme m)) q
      by (value.mce c) q = ap (seeing {C = C} (value.mce c)) q
      by (value.tmgi t) q = ap (seeing {C = C} (value.tmgi t)) q
      by (value.one s) q = ap (seeing {C = C} (value.one s)) q
      by (value.two s) q = q
      by (value.cause c) q = q
      by (value.wait v) q = ap (seeing {C = C} (value.wait v)) q
      by (value.name c) q = q
      by (value.reset whole) q = ap (seeing {C = C} (value.reset whole)) q
      by (value.reset (part items)) q = ap (seeing {C = C} (value.reset (part items))) q
      by (value.list items) q = q
      by (value.diagnostics t d) q = q

  pub items_map : (vs : List (Given C)) → (lists_of (map (on_given f) vs)).items ≡ (lists_of vs).items
  unfolding lists_of on_carried
  items_map [] = refl
  items_map (absent ∷ vs) = items_map vs
  items_map (given v ∷ vs) = by v (items_map vs)
    where
      by : (v : Value C) → (lists_of (map (on_given f) vs)).items ≡ (lists_of vs).items → (lists_of (given (on_carried f v) ∷ map (on_given f) vs)).items ≡ (lists_of (given v ∷ vs)).items
      by (value.carried c) q = q
      by (value.mme m) q = q
      by (value.mce c) q = q
      by (value.tmgi t) q = q
      by (value.one s) q = q
      by (value.two s) q = q
      by (value.cause c) q = q
      by (value.wait v) q = q
      by (value.name c) q = q
      by (value.reset whole) q = q
      by (value.reset (part items)) q = refl
      by (value.list items) q = refl
      by (value.diagnostics t d) q = q

-- so a record asks what it says
pub record Asking (r : Record) (w : Said) : Type 0 where
  pub message : r.message ≡ w.message
  pub seen : seen r.values ≡ seen w.values
  pub items : items_in r ≡ (lists_of w.values).items

pub asking : (s : List ℕ) (r : Record) (w : Said) → said_by s r ≡ w → Asking r w
unfolding said_by
asking s r w q =
    let a : r.message ≡ w.message = ap (λ (x : Said). x.message) q in
    let v : map (on_given (octets_in s)) r.values ≡ w.values = ap (λ (x : Said). x.values) q in
    let b : seen r.values ≡ seen w.values = sym (seen_map (octets_in s) r.values) ∙ ap seen v in
    record {
      message = a;
      seen = b;
      items = sym (items_map (octets_in s) r.values) ∙ ap (λ (x : List (Given (List ℕ))). (lists_of x).items) v;
    }

-- ---- in range

abbrev pub GoodValue : {C : Type 0} → Value C → Type 0
GoodValue (value.mme m) = m.0 < 65536
GoodValue (value.mce c) = c.0 < 65536
GoodValue (value.reset r) = GoodReset r
GoodValue (value.list items) = GoodItems items
GoodValue (value.carried c) = Unit
GoodValue (value.tmgi t) = Unit
GoodValue (value.one s) = Unit
GoodValue (value.two s) = Unit
GoodValue (value.cause c) = Unit
GoodValue (value.wait v) = Unit
GoodValue (value.name c) = Unit
GoodValue (value.diagnostics t d) = Unit

abbrev pub GoodGiven : {C : Type 0} → Given C → Type 0
GoodGiven (given v) = GoodValue v
GoodGiven absent = Unit

pub record GoodSeen (x : Seen) : Type 0 where
  pub mme : GoodMme x.mme
  pub mce : GoodMce x.mce

module _ {C : Type 0} where
  pub seen_good : (vs : List (Given C)) → Each GoodGiven vs → GoodSeen (seen vs)
  unfolding seen
  seen_good [] g = record { mme = tt; mce = tt }
  seen_good (absent ∷ vs) g = seen_good vs g.1
  seen_good (given v ∷ vs) g = by v g.0 (seen_good vs g.1)
    where
      by : (v : Value C) {x : Seen} → GoodValue v → GoodSeen x → GoodSeen (seeing v x)
      by (value.carried c) h k = k
      by (value.mme m) h k = record { mme = h; mce = k.mce }
      by (value.mce c) h k = record { mme = k.mme; mce = h }
      by (value.tmgi t) h k = record { mme = k.mme; mce = k.mce }
      by (value.one s) h k = record { mme = k.mme; mce = k.mce }
      by (value.two s) h k = k
      by (value.cause c) h k = k
      by (value.wait v) h k = record { mme = k.mme; mce = k.mce }
      by (value.name c) h k = k
      by (value.reset whole) h k = record { mme = k.mme; mce = k.mce }
      by (value.reset (part items)) h k = record { mme = k.mme; mce = k.mce }
      by (value.list items) h k = k
      by (value.diagnostics t d) h k = k

  -- items are in range, and a part of the interface has one
  pub record GoodListed (vs : List (Given C)) : Type 0 where
    pub list : GoodList (lists_of vs).items
    pub some : (seen vs).reset ≡ Some extent.Part → 0 < length (lists_of vs).items

  pub listed_good : (vs : List (Given C)) → Each GoodGiven vs → GoodListed vs
  unfolding seen lists_of
  listed_good [] g = record { list = record { few = omega arith; each = tt }; some = λ q. cc }
  listed_good (absent ∷ vs) g = let k = listed_good vs g.1 in record { list = k.list; some = k.some }
  listed_good (given v ∷ vs) g = by v g.0 (listed_good vs g.1)
    where
      by : (v : Value C) → GoodValue v → GoodListed vs → GoodListed (given v ∷ vs)
      by (value.carried c) h k = record { list = k.list; some = k.some }
      by (value.mme m) h k = record { list = k.list; some = k.some }
      by (value.mce c) h k = record { list = k.list; some = k.some }
      by (value.tmgi t) h k = record { list = k.list; some = k.some }
      by (value.one s) h k = record { list = k.list; some = k.some }
      by (value.two s) h k = record { list = k.list; some = k.some }
      by (value.cause c) h k = record { list = k.list; some = k.some }
      by (value.wait v) h k = record { list = k.list; some = k.some }
      by (value.name c) h k = record { list = k.list; some = k.some }
      by (value.reset whole) h k = record { list = k.list; some = λ q. cc }
      by (value.reset (part items)) h k = record { list = record { few = h.1; each = h.2 }; some = λ q. h.0 }
      by (value.list items) h k = record { list = record { few = h.1; each = h.2 }; some = λ q. h.0 }
      by (value.diagnostics t d) h k = record { list = k.list; some = k.some }

-- ---- what is there is seen

-- a value of a kind that the rules look at
abbrev pub Has : Kind → Seen → Type 0
Has kind.Mme x = IsSome x.mme
Has kind.Mce x = IsSome x.mce
Has kind.Tmgi x = IsSome x.tmgi
Has kind.ResetType x = IsSome x.reset
Has kind.Carried x = Unit
Has kind.OneOctet x = Unit
Has kind.TwoOctets x = Unit
Has kind.Cause x = Unit
Has kind.Wait x = Unit
Has kind.Name x = Unit
Has kind.Acknowledged x = Unit
Has (kind.Diagnostics t) x = Unit

-- one value more takes nothing away
record Kept (x y : Seen) : Type 0 where
  mme : IsSome x.mme → IsSome y.mme
  mce : IsSome x.mce → IsSome y.mce
  tmgi : IsSome x.tmgi → IsSome y.tmgi
  reset : IsSome x.reset → IsSome y.reset

has_kept : (k : Kind) {x y : Seen} → Kept x y → Has k x → Has k y
has_kept kind.Mme q h = q.mme h
has_kept kind.Mce q h = q.mce h
has_kept kind.Tmgi q h = q.tmgi h
has_kept kind.ResetType q h = q.reset h
has_kept kind.Carried q h = tt
has_kept kind.OneOctet q h = tt
has_kept kind.TwoOctets q h = tt
has_kept kind.Cause q h = tt
has_kept kind.Wait q h = tt
has_kept kind.Name q h = tt
has_kept kind.Acknowledged q h = tt
has_kept (kind.Diagnostics t) q h = tt

module _ {C : Type 0} where
  seeing_has : (v : Value C) (x : Seen) → Has (value_kind v) (seeing v x)
  seeing_has (value.carried c) x = tt
  seeing_has (value.mme m) x = refl
  seeing_has (value.mce c) x = refl
  seeing_has (value.tmgi t) x = refl
  seeing_has (value.one s) x = tt
  seeing_has (value.two s) x = tt
  seeing_has (value.cause c) x = tt
  seeing_has (value.wait v) x = tt
  seeing_has (value.name c) x = tt
  seeing_has (value.reset whole) x = refl
  seeing_has (value.reset (part items)) x = refl
  seeing_has (value.list items) x = tt
  seeing_has (value.diagnostics t d) x = tt

  seeing_kept : (v : Value C) (x : Seen) → Kept x (seeing v x)
  seeing_kept (value.carried c) x = record { mme = λ h. h; mce = λ h. h; tmgi = λ h. h; reset = λ h. h }
  seeing_kept (value.mme m) x = record { mme = λ h. refl; mce = λ h. h; tmgi = λ h. h; reset = λ h. h }
  seeing_kept (value.mce c) x = record { mme = λ h. h; mce = λ h. refl; tmgi = λ h. h; reset = λ h. h }
  seeing_kept (value.tmgi t) x = record { mme = λ h. h; mce = λ h. h; tmgi = λ h. refl; reset = λ h. h }
  seeing_kept (value.one s) x = record { mme = λ h. h; mce = λ h. h; tmgi = λ h. h; reset = λ h. h }
  seeing_kept (value.two s) x = record { mme = λ h. h; mce = λ h. h; tmgi = λ h. h; reset = λ h. h }
  seeing_kept (value.cause c) x = record { mme = λ h. h; mce = λ h. h; tmgi = λ h. h; reset = λ h. h }
  seeing_kept (value.wait v) x = record { mme = λ h. h; mce = λ h. h; tmgi = λ h. h; reset = λ h. h }
  seeing_kept (value.name c) x = record { mme = λ h. h; mce = λ h. h; tmgi = λ h. h; reset = λ h. h }
  seeing_kept (value.reset whole) x = record { mme = λ h. h; mce = λ h. h; tmgi = λ h. h; reset = λ h. refl }
  seeing_kept (value.reset (part items)) x = record { mme = λ h. h; mce = λ h. h; tmgi = λ h. h; reset = λ h. refl }
  seeing_kept (value.list items) x = record { mme = λ h. h; mce = λ h. h; tmgi = λ h. h; reset = λ h. h }
  seeing_kept (value.diagnostics t d) x = record { mme = λ h. h; mce = λ h. h; tmgi = λ h. h; reset = λ h. h }

  pub seen_has : (vs : List (Given C)) (i : ℕ) (v : Value C) → get_or vs i absent ≡ given v → Has (value_kind v) (seen vs)
  unfolding seen
  seen_has [] i v q = cc
  seen_has (absent ∷ vs) zero v q = cc
  seen_has (given w ∷ vs) zero v q = let z : w ≡ v = cc in rw (← z) (seeing_has w (seen vs))
  seen_has (absent ∷ vs) (suc i) v q = seen_has vs i v q
  seen_has (given w ∷ vs) (suc i) v q = has_kept (value_kind v) (seeing_kept w (seen vs)) (seen_has vs i v q)
