-- The two octets of a number; and what a Reset Type or Criticality Diagnostics that can be read show of themselves in front of their lists.
-- Assumes nothing.
use mathlib.Core.Path.{◌≡◌, refl, sym, ap, ◌∙◌}
use mathlib.Core.Bool.{Bool, true, false}
use mathlib.Core.List.{List, [], ◌∷◌}
use Prim.Native.Nat.{ℕ, ◌+◌, ◌/◌, ◌%◌}
use native.Mathlib.Omega.{arith}
use lib.ListN.{take}
use Rattle.std.specs.Prelude.{Result, Ok, Err, None, Some}
use Rattle.std.proofs.lemmas.Option.{none-some}
use Rattle.std.specs.Result.{result_ok, result_unwrap_or}
use Rattle.octets.specs.Read.{Read, ◌>>=◌}
use Rattle.octets.specs.Field.{flag_at, plain_at, pad_at, ends_at}
use Rattle.octets.specs.Write.{number_octets}
use Rattle.octets.specs.declared.Stop.{Stop}
use Rattle.octets.proofs.Chain.{past, got_stop, same_got}
use Rattle.items.specs.Items.{items_at, chosen_reset_at, reset_at}
use Rattle.entries.specs.declared.Entry.{Entry}
use Rattle.entries.specs.Entries.{maybe_list_at}
use Rattle.diagnostics.specs.declared.Head.{Head}
use Rattle.diagnostics.specs.Diagnostics.{head_at, diagnostics_at}
use Rattle.identity.specs.declared.Item.{Item}
use Rattle.lists.specs.Lists.{fill}
use Rattle.meaning.specs.Value.{Value, mme, mce, two, list}
use Rattle.meaning.specs.Reading.{read_as, or_absent}
use Rattle.octets.specs.declared.Span.{Span}
use Rattle.rows.specs.declared.Kind.{Kind}
use Rattle.rows.specs.declared.Kind.TheVariants as kind
use Rattle.values.specs.Values.{identity_at, two_at}
use mathlib.Core.Logic.{◌⊎◌, inl, inr}
use Rattle.layout.specs.Record.{slot_of, slot_octets}
use Rattle.reader.specs.Steps.{Got, ResetIs, slot_by}

-- two octets say a number's low 16 bits
pub number_cut : (n : ℕ) → number_octets 2 n ≡ (n / 256 % 256) ∷ (n % 256) ∷ []
unfolding number_octets
number_cut n = let b : n / 1 % 256 ≡ n % 256 = omega arith in rw b

-- ---- what was read

pub ok_some : {A E : Type 0} (r : Result A E) {a : A} → Some a ≡ result_ok r → Ok a ≡ r
ok_some (Ok b) q = cc
ok_some (Err x) q = absurd (none-some _ (sym q))

pub ok_none : {A E : Type 0} (r : Result A E) → None ≡ result_ok r → (x : E) × (Err x ≡ r)
ok_none (Ok b) q = absurd (none-some _ q)
ok_none (Err x) q = (x, refl)

pub got_some : {A : Type 0} (r : Read A) → Got r → (a : A) × (Ok a ≡ r)
got_some (Ok a) g = (a, refl)
got_some (Err x) g = absurd g

pub got_then : {A B : Type 0} (r : Read A) (go : A → Read B) → Got (r >>= go) → (a : A) × (Ok a ≡ r) × Got (go a)
got_then (Ok a) go g = (a, refl, g)
got_then (Err x) go g = absurd g

module _ (s : List ℕ) (at : ℕ) where
  -- behind its first two bits
  reset_by_lem : (b : Bool) → Got (chosen_reset_at b s at) → ResetIs b (chosen_reset_at b s at) (items_at s (at + 1))
  reset_by_lem true g =
      let p = got_then (pad_at s at 2) _ g in
      let x = got_then (items_at s (at + 1)) _ p.2 in
      (x.0, sym (past _ _ p.1 (past _ _ x.1 refl)), sym x.1)
  reset_by_lem false g =
      let p = got_then (plain_at s at 2) _ g in
      let q = got_then (pad_at s at 3) _ p.2 in
      let r = got_then (ends_at s (at + 1)) _ q.2 in
      sym (past _ _ p.1 (past _ _ q.1 (past _ _ r.1 refl)))

  reset_is : (b : Bool) → Ok b ≡ flag_at s at 1 → Got (reset_at s at) → ResetIs b (reset_at s at) (items_at s (at + 1))
  unfolding reset_at
  reset_is b q g =
      let p = got_then (plain_at s at 0) _ g in
      let f = got_then (flag_at s at 1) _ p.2 in
      let e : f.0 ≡ b = same_got (f.1 ∙ sym q) in
      rw (← p.1, ← q) (reset_by_lem b (rw e at f.2))

  reset_flag : {B : Type 0} {x : Stop} → Err x ≡ flag_at s at 1 → Got (reset_at s at) → B
  unfolding reset_at
  reset_flag q g =
      let p = got_then (plain_at s at 0) _ g in
      let f = got_then (flag_at s at 1) _ p.2 in
      got_stop (f.1 ∙ sym q)

  pub part_is : Got (reset_at s at) → ResetIs (result_unwrap_or (flag_at s at 1) false) (reset_at s at) (items_at s (at + 1))
  part_is g = by (flag_at s at 1) refl
    where
      by : (r : Read Bool) → r ≡ flag_at s at 1 → ResetIs (result_unwrap_or r false) (reset_at s at) (items_at s (at + 1))
      by (Ok b) q = reset_is b q g
      by (Err x) q = reset_flag q g

  pub head_is : (m : ℕ) (h : Head) (n : ℕ) → Ok (record { value = h; next = n }) ≡ head_at m s at → Got (diagnostics_at m s at)
      → (es : List Entry) × (Ok es ≡ maybe_list_at h.listed s n) × (diagnostics_at m s at ≡ Ok (record { head = h; entries = es }))
  unfolding diagnostics_at
  head_is m h n q g =
      let p = got_then (head_at m s at) _ g in
      let e : p.0 ≡ record { value = h; next = n } = same_got (p.1 ∙ sym q) in
      let x = got_then (maybe_list_at h.listed s n) (λ es. Ok (record { head = h; entries = es })) (rw e at p.2) in
      (x.0, x.1, sym (past _ (record { value = h; next = n }) q (past _ _ x.1 refl)))

  pub head_none : {B : Type 0} {x : Stop} (m : ℕ) → Err x ≡ head_at m s at → Got (diagnostics_at m s at) → B
  unfolding diagnostics_at
  head_none m q g = let p = got_then (head_at m s at) _ g in got_stop (p.1 ∙ sym q)

-- ---- behind a reading

pub got_of : {A B : Type 0} (r : Read A) (go : A → Read B) → Got (r >>= go) → Got r
got_of (Ok a) go g = tt
got_of (Err x) go g = g

-- the slot of an acknowledgement shows that there is one
pub list_slot : (r : Read (List Item)) → Got r → slot_by list r ≡ fill 0 8 (1 ∷ [])
unfolding slot_of
list_slot (Ok is) g = refl
list_slot (Err x) g = absurd g

-- ---- an identity is a number of two octets

module _ (s : List ℕ) (v : Span) where
  two_read : {A : Type 0} (numbered : ℕ → A) (is : A → Value Span) → ((n : ℕ) → slot_of (is (numbered n)) ≡ slot_of (two n))
      → slot_by is (identity_at numbered (take v.to s) v.from) ≡ slot_by two (two_at (take v.to s) v.from)
  unfolding identity_at
  two_read numbered is same = by (two_at (take v.to s) v.from)
    where
      by : (r : Read ℕ) → slot_by is (r >>= λ n. Ok (numbered n)) ≡ slot_by two r
      by (Ok n) = ap (fill 0 8) (same n)
      by (Err x) = refl

  pub two_slots : (k : Kind) → (k ≡ kind.Mme) ⊎ ((k ≡ kind.Mce) ⊎ (k ≡ kind.TwoOctets)) → slot_octets (or_absent (read_as k s v)) ≡ slot_by two (two_at (take v.to s) v.from)
  unfolding read_as slot_of
  two_slots k (inl e) = rw e (two_read (λ n. record { 0 = n }) mme (λ n. refl))
  two_slots k (inr (inl e)) = rw e (two_read (λ n. record { 0 = n }) mce (λ n. refl))
  two_slots k (inr (inr e)) = rw e
