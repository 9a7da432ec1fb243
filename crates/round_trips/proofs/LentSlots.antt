-- The slots of a record, shown without their places, are the slots of the record without its places; what they carry is what is said to be carried.
-- Assumes nothing.
use mathlib.Core.Path.{◌≡◌, ◌∙◌, refl, sym, ap}
use mathlib.Core.Bool.{Bool, true, false}
use mathlib.Core.List.{List, [], ◌∷◌, ◌++◌, append_assoc, map}
use Prim.Native.Nat.{ℕ, ◌-◌}
use native.Mathlib.Omega.{arith}
use lib.Dec.{eqb}
use lib.ListN.{length, get_or, take, drop, length-map}
use lib.Seq.{take_at, drop_at}
use Rattle.lists.specs.Lists.{pick}
use Rattle.octets.specs.Write.{number_octets}
use Rattle.octets.specs.Many.{each_octets}
use Rattle.octets.specs.declared.Span.{Span}
use Rattle.items.specs.Items.{whole, part}
use Rattle.rows.specs.declared.Kind.{Kind}
use Rattle.rows.specs.declared.Kind.TheVariants as kind
use Rattle.rows.specs.declared.Row.{Row}
use Rattle.meaning.specs.Value.{Value, Given, given, absent, carried, mme, mce, tmgi, one, two, cause, wait, name, reset, list, diagnostics, octets_in, on_carried, on_given}
use Rattle.meaning.specs.Ranges.{value_kind, Ranged}
use Rattle.layout.specs.Rows.{unless0}
use Rattle.layout.specs.Record.{Lists, lists_of, slot_of, slot_octets, slot_says, slots_say}
use Rattle.layout.proofs.Sizes.{slot_size, slots_size}
use Rattle.round_trips.specs.LentDiffer.{is_carried, placeless, slots_shown, carried_at, slots_carry}

-- ---- without places

-- moved to the place 0: how long what is carried is stays
abbrev pub at_zero : Span → Span
at_zero v = record { from = 0; to = v.to - v.from }

slot_shown : (v : Value Span) → pick (is_carried (value_kind v)) (placeless (slot_octets (given v))) (slot_octets (given v)) ≡ slot_octets (given (on_carried at_zero v))
unfolding slot_of on_carried number_octets
slot_shown (carried v) = let e : v.to - v.from - 0 ≡ v.to - v.from = omega arith in rw e
slot_shown (mme v) = refl
slot_shown (mce v) = refl
slot_shown (tmgi v) = refl
slot_shown (one v) = refl
slot_shown (two v) = refl
slot_shown (cause v) = refl
slot_shown (wait v) = refl
slot_shown (name v) = let e : v.to - v.from - 0 ≡ v.to - v.from = omega arith in rw e
slot_shown (reset whole) = refl
slot_shown (reset (part is)) = refl
slot_shown (list is) = refl
slot_shown (diagnostics t d) = refl

none_shown : (b : Bool) → pick b (placeless (slot_octets absent)) (slot_octets absent) ≡ slot_octets absent
none_shown true = refl
none_shown false = refl

kind_said : {D : Type 0} (f : Span → D) (v : Value Span) → value_kind (on_carried f v) ≡ value_kind v
unfolding on_carried
kind_said f (carried v) = refl
kind_said f (mme v) = refl
kind_said f (mce v) = refl
kind_said f (tmgi v) = refl
kind_said f (one v) = refl
kind_said f (two v) = refl
kind_said f (cause v) = refl
kind_said f (wait v) = refl
kind_said f (name v) = refl
kind_said f (reset v) = refl
kind_said f (list v) = refl
kind_said f (diagnostics t v) = refl

-- a slot in front of others
first_shown : (k : Kind) (t : List Row) (v w : Given Span) (more : List ℕ) → pick (is_carried k) (placeless (slot_octets v)) (slot_octets v) ≡ slot_octets w
    → pick (is_carried k) (placeless (take 8 (slot_octets v ++ more))) (take 8 (slot_octets v ++ more)) ++ slots_shown t (drop 8 (slot_octets v ++ more)) ≡ slot_octets w ++ slots_shown t more
first_shown k t v w more e = rw (take_at (slot_octets v) more 8 (slot_size v), drop_at (slot_octets v) more 8 (slot_size v), e)

module _ (f : Span → List ℕ) (rest : List ℕ) where
  pub slots_shown_lem : (t : List Row) (vs : List (Given Span)) → Ranged t (map (on_given f) vs)
      → slots_shown t (each_octets slot_octets vs ++ rest) ≡ each_octets slot_octets (map (on_given at_zero) vs) ++ rest
  unfolding slots_shown Ranged
  slots_shown_lem [] [] g = refl
  slots_shown_lem [] (v ∷ vs) g = absurd g
  slots_shown_lem (r ∷ t) [] g = absurd g
  slots_shown_lem (r ∷ t) (given v ∷ vs) g =
      let k : value_kind v ≡ r.kind = sym (kind_said f v) ∙ g.0.0 in
      let more = each_octets slot_octets vs ++ rest in
      rw (append_assoc (slot_octets (given v)) (each_octets slot_octets vs) rest)
      (first_shown r.kind t (given v) (given (on_carried at_zero v)) more (rw k at (slot_shown v))
      ∙ (ap (λ (x : List ℕ). slot_octets (given (on_carried at_zero v)) ++ x) (slots_shown_lem t vs g.1) ∙ sym (append_assoc (slot_octets (given (on_carried at_zero v))) _ rest)))
  slots_shown_lem (r ∷ t) (absent ∷ vs) g =
      let more = each_octets slot_octets vs ++ rest in
      first_shown r.kind t absent absent more (none_shown (is_carried r.kind)) ∙ ap (λ (x : List ℕ). slot_octets absent ++ x) (slots_shown_lem t vs g.1)

-- as many slots
pub as_long : (f : Given Span → Given Span) (vs : List (Given Span)) → length (each_octets slot_octets (map f vs)) ≡ length (each_octets slot_octets vs)
as_long f vs = rw (slots_size (map f vs), slots_size vs, length-map vs f)

-- no list is carried
pub lists_shown : (vs : List (Given Span)) → lists_of (map (on_given at_zero) vs) ≡ lists_of vs
unfolding lists_of on_carried
lists_shown [] = refl
lists_shown (absent ∷ vs) = lists_shown vs
lists_shown (given (carried v) ∷ vs) = lists_shown vs
lists_shown (given (mme v) ∷ vs) = lists_shown vs
lists_shown (given (mce v) ∷ vs) = lists_shown vs
lists_shown (given (tmgi v) ∷ vs) = lists_shown vs
lists_shown (given (one v) ∷ vs) = lists_shown vs
lists_shown (given (two v) ∷ vs) = lists_shown vs
lists_shown (given (cause v) ∷ vs) = lists_shown vs
lists_shown (given (wait v) ∷ vs) = lists_shown vs
lists_shown (given (name v) ∷ vs) = lists_shown vs
lists_shown (given (reset whole) ∷ vs) = lists_shown vs
lists_shown (given (reset (part is)) ∷ vs) = rw (lists_shown vs)
lists_shown (given (list is) ∷ vs) = rw (lists_shown vs)
lists_shown (given (diagnostics t d) ∷ vs) = rw (lists_shown vs)

-- ---- what is carried

abbrev pub carried_of : Given (List ℕ) → List (List ℕ)
carried_of absent = []
carried_of (given (carried os)) = os ∷ []
carried_of (given (mme v)) = []
carried_of (given (mce v)) = []
carried_of (given (tmgi v)) = []
carried_of (given (one v)) = []
carried_of (given (two v)) = []
carried_of (given (cause v)) = []
carried_of (given (wait v)) = []
carried_of (given (name os)) = os ∷ []
carried_of (given (reset v)) = []
carried_of (given (list v)) = []
carried_of (given (diagnostics t v)) = []

abbrev pub all_carried : List (Given (List ℕ)) → List (List ℕ)
all_carried [] = []
all_carried (v ∷ vs) = carried_of v ++ all_carried vs

module _ (values : List ℕ) where
  abbrev said_there : Bool → Value Span → Given (List ℕ)
  said_there b v = on_given (octets_in values) (pick b absent (given v))

  one_carried : (b : Bool) (v : Value Span) → pick b [] (carried_of (given (on_carried (octets_in values) v))) ≡ carried_of (said_there b v)
  one_carried true v = refl
  one_carried false v = refl

  not_carried : (b : Bool) (v : Value Span) → carried_of (given (on_carried (octets_in values) v)) ≡ [] → [] ≡ carried_of (said_there b v)
  not_carried true v e = refl
  not_carried false v e = sym e

  slot_carries : (l : Lists) (k : Kind) (p : List ℕ) → pick (is_carried k) (unless0 p [] (carried_at p values ∷ [])) [] ≡ carried_of (said_there (eqb (get_or p 0 0) 0) (slot_says l k p))
  unfolding slot_says on_carried
  slot_carries l kind.Carried p = one_carried (eqb (get_or p 0 0) 0) (slot_says l kind.Carried p)
  slot_carries l kind.Mme p = not_carried (eqb (get_or p 0 0) 0) (slot_says l kind.Mme p) refl
  slot_carries l kind.Mce p = not_carried (eqb (get_or p 0 0) 0) (slot_says l kind.Mce p) refl
  slot_carries l kind.Tmgi p = not_carried (eqb (get_or p 0 0) 0) (slot_says l kind.Tmgi p) refl
  slot_carries l kind.OneOctet p = not_carried (eqb (get_or p 0 0) 0) (slot_says l kind.OneOctet p) refl
  slot_carries l kind.TwoOctets p = not_carried (eqb (get_or p 0 0) 0) (slot_says l kind.TwoOctets p) refl
  slot_carries l kind.Cause p = not_carried (eqb (get_or p 0 0) 0) (slot_says l kind.Cause p) refl
  slot_carries l kind.Wait p = not_carried (eqb (get_or p 0 0) 0) (slot_says l kind.Wait p) refl
  slot_carries l kind.Name p = one_carried (eqb (get_or p 0 0) 0) (slot_says l kind.Name p)
  slot_carries l kind.ResetType p = not_carried (eqb (get_or p 0 0) 0) (slot_says l kind.ResetType p) refl
  slot_carries l kind.Acknowledged p = not_carried (eqb (get_or p 0 0) 0) (slot_says l kind.Acknowledged p) refl
  slot_carries l (kind.Diagnostics t) p = not_carried (eqb (get_or p 0 0) 0) (slot_says l (kind.Diagnostics t) p) refl

  pub slots_carry_lem : (l : Lists) (t : List Row) (p : List ℕ) → slots_carry t p values ≡ all_carried (map (on_given (octets_in values)) (slots_say l t p))
  unfolding slots_carry slots_say
  slots_carry_lem l [] p = refl
  slots_carry_lem l (r ∷ t) p = λ i. slot_carries l r.kind p i ++ slots_carry_lem l t (drop 8 p) i
