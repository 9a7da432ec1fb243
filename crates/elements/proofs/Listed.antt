-- What is listed of a message is in range: an unknown element's numbers are what its octets can say, and a missing one's are its row's.
--     each_map, each_first, each_append   what follows of one follows of each; what holds of each of a list holds of its first, and of two lists joined
--     heads_fit, front_each               the elements that octets can have, and those in front
--     listed_each                         so whatever follows of an entry's numbers holds of each that is listed
-- Assumes nothing.
use Prim.Native.Nat.{ℕ, zero, suc, ◌+◌, ◌<◌}
use mathlib.Core.Path.{◌≡◌, refl, sym, subst}
use mathlib.Core.List.{List, [], ◌∷◌, ◌++◌}
use native.Mathlib.Omega.{arith}
use lib.Dec.{ltb, eqb}
use lib.ListN.{length, take}
use Rattle.lists.proofs.Tests.{on-pick}
use Rattle.std.specs.Prelude.{Ok, Err}
use Rattle.octets.specs.Read.{Read}
use Rattle.octets.specs.Field.{choice_at, pad_at, number_at, open_at}
use Rattle.octets.specs.Stands.{Octets}
use Rattle.octets.specs.declared.Span.{Span}
use Rattle.octets.specs.Span.{present}
use Rattle.octets.specs.Many.{Each}
use Rattle.octets.proofs.Chain.{then_got, same_got}
use Rattle.octets.proofs.Got.{number_got, choice_got}
use Rattle.octets.proofs.Again.{value_below}
use Rattle.entries.specs.declared.Entry.{Entry}
use Rattle.rows.specs.declared.Row.{Row}
use Rattle.rows.specs.Table.{find, known}
use Rattle.envelopes.specs.declared.Head.{Head}
use Rattle.envelopes.specs.Envelope.{criticality_at, envelope_at, on_head, heads_at}
use Rattle.elements.specs.Judge.{front, read_of, ignored, unknown_entry, unknown_of, missing_entry, missing_of, judged_of}

-- ---- each of a list

pub each_map : {A : Type 0} (P Q : A → Type 0) → ((a : A) → P a → Q a) → (l : List A) → Each P l → Each Q l
each_map P Q f [] h = tt
each_map P Q f (a ∷ l) h = (f a h.0, each_map P Q f l h.1)

module _ {A : Type 0} (P : A → Type 0) where
  pub each_first : (n : ℕ) (l : List A) → Each P l → Each P (take n l)
  each_first zero l g = tt
  each_first (suc n) [] g = tt
  each_first (suc n) (a ∷ l) g = (g.0, each_first n l g.1)

  pub each_append : (l m : List A) → Each P l → Each P m → Each P (l ++ m)
  each_append [] m g h = h
  each_append (a ∷ l) m g h = (g.0, each_append l m g.1 h)

-- ---- elements

pub record HeadFits (h : Head) : Type 0 where
  pub id : h.id < 65536
  pub crit : h.crit < 3

pub criticality_below : (s : List ℕ) (at : ℕ) {v : ℕ} → Ok v ≡ criticality_at s at → v < 3
unfolding criticality_at
criticality_below s at q =
    let a = then_got (choice_at 3 2 s at 0) _ q in
    let b = then_got (pad_at s at 2) _ a.2 in
    rw (same_got b.2) (choice_got s at 3 2 0 a.1).2

module _ (s : List ℕ) (o : Octets s) where
  head_fits : (at : ℕ) {h : Head} → Ok h ≡ envelope_at s at → HeadFits h
  unfolding envelope_at
  head_fits at q =
      let a = then_got (number_at 2 s at) _ q in
      let b = then_got (criticality_at s (at + 2)) _ a.2 in
      let c = then_got (open_at s (at + 3)) _ b.2 in
      let n : a.0 < 65536 = rw (number_got s at 2 a.1).1 (value_below 2 s at o) in
      subst HeadFits (sym (same_got c.2)) (record { id = n; crit = criticality_below s (at + 2) b.1 })

  pub heads_fit : (n at : ℕ) → Each HeadFits (heads_at s n at)
  unfolding heads_at
  heads_fit zero at = tt
  heads_fit (suc n) at = by (envelope_at s at) refl (heads_fit n)
    where
      by : (r : Read Head) → r ≡ envelope_at s at → ((to : ℕ) → Each HeadFits (heads_at s n to)) → Each HeadFits (on_head (λ h. heads_at s n h.value.to) r)
      by (Ok h) q go = (head_fits at q, go h.value.to)
      by (Err x) q go = tt

-- what holds of each element holds of those in front
pub front_each : (P : Head → Type 0) (t : List Row) (row : ℕ) (hs : List Head) → Each P hs → Each P (front t row hs)
unfolding front
front_each P t row [] g = tt
front_each P t row (h ∷ hs) g =
    on-pick (Each P) (known t h.id)
    (on-pick (Each P) (ltb (find h.id t) row) tt (g.0, front_each P t (find h.id t + 1) hs g.1))
    (g.0, front_each P t row hs g.1)

-- ---- entries

module _ (P : Entry → Type 0) (numbers : (e : Entry) → e.crit < 3 → e.id < 65536 → e.error < 2 → P e)
    (Q : Row → Type 0) (row : (r : Row) → Q r → (r.id < 65536) × (r.crit < 3)) where
  unknown_each : (t : List Row) (hs : List Head) → Each HeadFits hs → Each P (unknown_of t hs)
  unfolding unknown_of
  unknown_each t [] g = tt
  unknown_each t (h ∷ hs) g =
      each_append P (unknown_entry t h) (unknown_of t hs)
      (on-pick (Each P) (known t h.id) tt
      (on-pick (Each P) (ignored h.crit) tt (numbers _ g.0.crit g.0.id (omega arith), tt)))
      (unknown_each t hs g.1)

  missing_each : (t : List Row) (l : List Span) → Each Q t → Each P (missing_of t l)
  unfolding missing_of
  missing_each [] l g = tt
  missing_each (r ∷ t) [] g = tt
  missing_each (r ∷ t) (v ∷ l) g =
      let k = row r g.0 in
      each_append P (missing_entry r v) (missing_of t l)
      (on-pick (Each P) (present v) tt
      (on-pick (Each P) r.mandatory
      (on-pick (Each P) (ignored r.crit) tt (numbers _ k.1 k.0 (omega arith), tt)) tt))
      (missing_each t l g.1)

  pub listed_each : (t : List Row) (n : ℕ) (hs xs : List Head) → Each Q t → Each HeadFits hs → Each HeadFits xs → Each P (judged_of t n hs xs).listed
  unfolding judged_of
  listed_each t n hs xs l g h =
      let f : List Head = front t 0 hs in
      each_append P (unknown_of t f) _ (unknown_each t f (front_each HeadFits t 0 hs g))
      (on-pick (Each P) (eqb (length f) n)
      (each_append P (unknown_of [] xs) _ (unknown_each [] xs h) (missing_each t (read_of t f) l)) tt)
