-- Where the elements of a request are accepted, the mandatory ones of criticality reject were read: their rows have a value, which is of the row's kind, and it is seen.
-- Assumes nothing.
use Rattle.identity.specs.declared.MceId.{MceId}
use Rattle.identity.specs.declared.Tmgi.{Tmgi}
use Rattle.identity.specs.declared.MmeId.{MmeId}
use Prim.Native.Nat.{ℕ, zero, suc, ◌+◌, ◌<◌, ◌≤◌}
use mathlib.Core.Path.{◌≡◌, ◌∙◌, refl, sym, ap, subst}
use mathlib.Core.Bool.{Bool, true, false}
use mathlib.Core.List.{List, [], ◌∷◌, ◌++◌}
use native.Mathlib.Omega.{arith}
use borrow.Author.Tests.{ltb-true, ltb-false, eqb-true, eqb-false, eq-eqb}
use lib.Dec.{ltb, eqb}
use lib.ListN.{length, take, set, get_or, replicate}
use lib.Seq.{get_or-set_same, get_or-set_other, set_out}
use Rattle.lists.specs.Lists.{pick, some}
use Rattle.lists.proofs.Tests.{on-pick, or_left, or_right}
use Rattle.lists.proofs.Some.{some_append}
use Rattle.std.specs.Prelude.{IsSome, Ok, None, Option, Some}
use Rattle.octets.specs.declared.Span.{Span}
use Rattle.octets.specs.Span.{no_span, present}
use Rattle.octets.proofs.Chain.{same_got}
use Rattle.octets.specs.Many.{Each}
use Rattle.values.specs.Values.{mme_at, mce_at, tmgi_at, one_at, two_at, cause_at, wait_at}
use Rattle.names.specs.Names.{name_at}
use Rattle.items.specs.Items.{items_at, reset_at}
use Rattle.entries.specs.declared.Entry.{Entry}
use Rattle.diagnostics.specs.Diagnostics.{diagnostics_at}
use Rattle.kinds.specs.Kinds.{legible_at}
use Rattle.rows.specs.declared.Kind.{Kind}
use Rattle.rows.specs.declared.Kind.TheVariants as kind
use Rattle.rows.specs.declared.Row.{Row}
use Rattle.rows.specs.Table.{find, known, kind_of, no_row, meanings}
use Rattle.envelopes.specs.declared.Head.{Head}
use Rattle.envelopes.specs.Envelope.{scan_at, heads_at}
use Rattle.elements.specs.Judge as elements
use Rattle.elements.specs.Judge.{front, read_into, ignored, unknown_of, missing_entry, missing_of}
use Rattle.elements.proofs.Listed.{front_each}
use Rattle.elements.proofs.WalkLaws.{read_rows}
use Rattle.editions.specs.declared.Message.{Message}
use Rattle.editions.specs.declared.Message.TheVariants as message
use Rattle.editions.specs.declared.Edition.{Edition}
use Rattle.editions.specs.declared.Edition.TheVariants.{Release18}
use Rattle.editions.specs.Editions.{printed, table_of, container_of}
use Rattle.editions.proofs.Names.{only_m3ap}
use Rattle.meaning.specs.Value as value
use Rattle.meaning.specs.Value.{Value, given, absent}
use Rattle.meaning.specs.Ranges.{value_kind}
use Rattle.meaning.specs.Reading.{read_as, value_in, values_in}
use Rattle.verdicts.specs.declared.Outcome.TheVariants as outcome
use Rattle.verdicts.specs.Verdict.{Opening, outcome_by, Understood, understood, read_of}
use Rattle.round_trips.proofs.Ordered.{Scanned, scanned}
use Rattle.round_trips.proofs.ValueAgain.{read_as_lem, of_read}
use Rattle.round_trips.proofs.Accepted.{opened, accepted_tests}
use Rattle.requests.specs.declared.Extent.{Extent}
use Rattle.requests.specs.declared.Extent.TheVariants as extent
use Rattle.requests.specs.declared.Seen.{Seen}
use Rattle.requests.specs.Requests.{seen, start_of, stop_of, reset_of, request_of, ask_of, asks}
use Rattle.demands.proofs.Seen.{Has, seen_has}
use Rattle.demands.proofs.Verdicts.{only_passed, judging, not_asked, understood_m3ap}

-- ---- what is said

-- nothing is lacking where each is there
start_complete : (x : Option MmeId) (t : Option Tmgi) (s : Option ℕ) → IsSome x → IsSome t → IsSome (start_of x t s)
start_complete (Some m) (Some t) s g h = refl
start_complete (Some m) None s g h = cc
start_complete None t s g h = cc

stop_complete : (x : Option MmeId) (y : Option MceId) → IsSome x → IsSome y → IsSome (stop_of x y)
stop_complete (Some m) (Some c) g h = refl
stop_complete (Some m) None g h = cc
stop_complete None y g h = cc

reset_complete : (x : Option Extent) → IsSome x → IsSome (reset_of x)
reset_complete (Some extent.Whole) g = refl
reset_complete (Some extent.Part) g = refl
reset_complete None g = cc

-- ---- rows that have a value

abbrev rejects : Entry → Bool
rejects e = eqb e.crit 0

-- a mandatory row of reject has a value, or something missing rejects
row_present : (t : List Row) (l : List Span) (k : ℕ) → length l ≡ length t → k < length t → some rejects (missing_of t l) ≡ false
    → (get_or t k no_row).mandatory ≡ true → (get_or t k no_row).crit ≡ 0 → present (get_or l k no_span) ≡ true
unfolding missing_of
row_present [] l k n b e m c = absurd (omega arith)
row_present (r ∷ t) [] k n b e m c = absurd (omega arith)
row_present (r ∷ t) (v ∷ l) zero n b e m c = by (present v) (or_left (some rejects (missing_entry r v)) (some rejects (missing_of t l)) (sym (some_append rejects (missing_entry r v) (missing_of t l)) ∙ e))
  where
    by : (x : Bool) → some rejects (pick x [] (pick r.mandatory (pick (ignored r.crit) [] (record { crit = r.crit; id = r.id; error = 1 } ∷ [])) [])) ≡ false → x ≡ true
    by true h = refl
    by false h = let z = simp (m, c) at h in cc
row_present (r ∷ t) (v ∷ l) (suc k) n b e m c =
    row_present t l k (omega arith) (omega arith) (or_right (some rejects (missing_entry r v)) (some rejects (missing_of t l)) (sym (some_append rejects (missing_entry r v) (missing_of t l)) ∙ e)) m c

-- ---- values that can be read

module _ (t : List Row) (s : List ℕ) where
  abbrev Readable : Head → Type 0
  Readable h = Ok tt ≡ legible_at (kind_of t h.id) (take h.value.to s) h.value.from

  each_readable : (end at : ℕ) (hs : List Head) → Scanned t s end at hs → Each Readable hs
  each_readable end at [] q = tt
  each_readable end at (h ∷ hs) q = (q.1, each_readable end h.value.to hs q.2)

  -- each row that has a value has one that can be read
  abbrev Rows : List Span → Type 0
  Rows l = (j : ℕ) → present (get_or l j no_span) ≡ true → Ok tt ≡ legible_at (get_or t j no_row).kind (take (get_or l j no_span).to s) (get_or l j no_span).from

  set_rows : (l : List Span) (h : Head) → Readable h → Rows l → Rows (set l (find h.id t) h.value)
  set_rows l h r g j = by (eqb j (find h.id t)) refl (ltb (find h.id t) (length l)) refl
    where
      One : Span → Type 0
      One v = present v ≡ true → Ok tt ≡ legible_at (get_or t j no_row).kind (take v.to s) v.from

      by : (a : Bool) → eqb j (find h.id t) ≡ a → (b : Bool) → ltb (find h.id t) (length l) ≡ b → One (get_or (set l (find h.id t) h.value) j no_span)
      by true e true f =
          let i : j ≡ find h.id t = eqb-true j (find h.id t) e in
          subst One (sym (ap (λ (x : ℕ). get_or (set l (find h.id t) h.value) x no_span) i ∙ get_or-set_same l (find h.id t) h.value no_span (ltb-true _ _ f)))
          (λ p. rw i r)
      by true e false f = subst (λ (x : List Span). One (get_or x j no_span)) (sym (set_out l (find h.id t) h.value (ltb-false _ _ f))) (g j)
      by false e b f = subst One (sym (get_or-set_other l (find h.id t) j h.value no_span (eqb-false j (find h.id t) e))) (g j)

  read_rows_readable : (l : List Span) (hs : List Head) → Each Readable hs → Rows l → Rows (read_into t l hs)
  unfolding read_into
  read_rows_readable l [] q g = g
  read_rows_readable l (h ∷ hs) q g = read_rows_readable (set l (find h.id t) h.value) hs q.1 (set_rows l h q.0 g)

  none_readable : (n : ℕ) → Rows (replicate n no_span)
  none_readable n j h = let z : present no_span ≡ true = sym (ap (λ (v : Span). present v) (none_at n j)) ∙ h in cc
    where
      none_at : (n j : ℕ) → get_or (replicate n no_span) j no_span ≡ no_span
      none_at zero j = refl
      none_at (suc n) zero = refl
      none_at (suc n) (suc j) = none_at n j

front_length : (t : List Row) (row : ℕ) (hs : List Head) → length (front t row hs) ≤ length hs
unfolding front
front_length t row [] = omega arith
front_length t row (h ∷ hs) =
    let a = front_length t (find h.id t + 1) hs in
    let b = front_length t row hs in
    on-pick Short (known t h.id) (on-pick Short (ltb (find h.id t) row) (omega arith) (omega arith)) (omega arith)
  where
    Short : List Head → Type 0
    Short fs = length fs ≤ length (h ∷ hs)

-- what is read is of the kind
read_kind : (k : Kind) (s : List ℕ) (p : Span) {v : Value Span} → Ok v ≡ read_as k s p → value_kind v ≡ k
unfolding read_as
read_kind kind.Carried s p q = ap value_kind (same_got q)
read_kind kind.Mme s p q = of_read (λ v. value_kind v ≡ kind.Mme) value.mme (mme_at (take p.to s) p.from) q (λ a h. refl)
read_kind kind.Mce s p q = of_read (λ v. value_kind v ≡ kind.Mce) value.mce (mce_at (take p.to s) p.from) q (λ a h. refl)
read_kind kind.Tmgi s p q = of_read (λ v. value_kind v ≡ kind.Tmgi) value.tmgi (tmgi_at (take p.to s) p.from) q (λ a h. refl)
read_kind kind.OneOctet s p q = of_read (λ v. value_kind v ≡ kind.OneOctet) value.one (one_at (take p.to s) p.from) q (λ a h. refl)
read_kind kind.TwoOctets s p q = of_read (λ v. value_kind v ≡ kind.TwoOctets) value.two (two_at (take p.to s) p.from) q (λ a h. refl)
read_kind kind.Cause s p q = of_read (λ v. value_kind v ≡ kind.Cause) value.cause (cause_at (take p.to s) p.from) q (λ a h. refl)
read_kind kind.Wait s p q = of_read (λ v. value_kind v ≡ kind.Wait) value.wait (wait_at (take p.to s) p.from) q (λ a h. refl)
read_kind kind.Name s p q = of_read (λ v. value_kind v ≡ kind.Name) value.name (name_at (take p.to s) p.from) q (λ a h. refl)
read_kind kind.ResetType s p q = of_read (λ v. value_kind v ≡ kind.ResetType) value.reset (reset_at (take p.to s) p.from) q (λ a h. refl)
read_kind kind.Acknowledged s p q = of_read (λ v. value_kind v ≡ kind.Acknowledged) value.list (items_at (take p.to s) p.from) q (λ a h. refl)
read_kind (kind.Diagnostics t) s p q = of_read (λ v. value_kind v ≡ kind.Diagnostics t) (value.diagnostics t) (diagnostics_at (meanings t) (take p.to s) p.from) q (λ a h. refl)

-- the value of a row
value_at : (t : List Row) (s : List ℕ) (l : List Span) (k : ℕ) → length l ≡ length t → k < length t
    → get_or (values_in t s l) k absent ≡ value_in (get_or t k no_row).kind s (get_or l k no_span)
unfolding values_in
value_at [] s l k n b = absurd (omega arith)
value_at (r ∷ t) s [] k n b = absurd (omega arith)
value_at (r ∷ t) s (v ∷ l) zero n b = refl
value_at (r ∷ t) s (v ∷ l) (suc k) n b = value_at t s l k (omega arith) (omega arith)

module _ (t : List Row) (s : List ℕ) (n at : ℕ) (xs : List Head) {end : ℕ} (q : Ok end ≡ scan_at t s n at) where
  abbrev counted : List Head
  counted = front t 0 (heads_at s n at)

  abbrev spans : List Span
  spans = elements.read_of t counted

  rows_readable : Rows t s spans
  rows_readable =
      let z = (scanned t s end n at q).1 in
      read_rows_readable t s (replicate (length t) no_span) counted (front_each (Readable t s) t 0 (heads_at s n at) (each_readable t s end at (heads_at s n at) z)) (none_readable t s (length t))

  none_missing : outcome_by n (elements.judged_of t n (heads_at s n at) xs) ≡ outcome.Accepted → some rejects (missing_of t spans) ≡ false
  unfolding elements.judged_of
  none_missing a =
      let z = accepted_tests n (elements.judged_of t n (heads_at s n at) xs) a in
      let b = z.0 in
      let c = front_length t 0 (heads_at s n at) in
      let d = (scanned t s end n at q).0 in
      let e : eqb (length counted) n ≡ true = eq-eqb (length counted) n (omega arith) in
      let more = unknown_of [] xs ++ missing_of t spans in
      let f : some rejects (unknown_of t counted ++ more) ≡ false = rw e at z.1 in
      let g = or_right (some rejects (unknown_of t counted)) (some rejects more) (sym (some_append rejects (unknown_of t counted) more) ∙ f) in
      or_right (some rejects (unknown_of [] xs)) (some rejects (missing_of t spans)) (sym (some_append rejects (unknown_of [] xs) (missing_of t spans)) ∙ g)

  -- a mandatory row of reject has a value, and it is seen
  row_seen : outcome_by n (elements.judged_of t n (heads_at s n at) xs) ≡ outcome.Accepted → (k : ℕ) → k < length t → (get_or t k no_row).mandatory ≡ true → (get_or t k no_row).crit ≡ 0
      → Has (get_or t k no_row).kind (seen (values_in t s spans))
  unfolding value_in
  row_seen a k b x y =
      let c : Kind = (get_or t k no_row).kind in
      let p : Span = get_or spans k no_span in
      let l = read_rows t counted in
      let h = row_present t spans k l b (none_missing a) x y in
      let v = read_as_lem c s p (rows_readable k h) in
      let w : get_or (values_in t s spans) k absent ≡ given v.0 = value_at t s spans k l b ∙ rw (h, ← v.1) in
      rw (read_kind c s p v.1) at (seen_has (values_in t s spans) k v.0 w)

-- ---- requests

-- which rows the rules look at
complete : (m : Message) (s : List ℕ) (n at : ℕ) (xs : List Head) → asks m ≡ true → {end : ℕ} → Ok end ≡ scan_at (table_of Release18 m) s n at
    → outcome_by n (elements.judged_of (table_of Release18 m) n (heads_at s n at) xs) ≡ outcome.Accepted
    → IsSome (request_of (ask_of m) (seen (values_in (table_of Release18 m) s (elements.read_of (table_of Release18 m) (front (table_of Release18 m) 0 (heads_at s n at))))))
unfolding printed
complete message.StartRequest s n at xs a q o =
    let r = row_seen (table_of Release18 message.StartRequest) s n at xs q o in
    let x : Seen = seen (values_in (table_of Release18 message.StartRequest) s (elements.read_of (table_of Release18 message.StartRequest) (front (table_of Release18 message.StartRequest) 0 (heads_at s n at)))) in
    start_complete x.mme x.tmgi x.session (r 0 (omega arith) refl refl) (r 1 (omega arith) refl refl)
complete message.StopRequest s n at xs a q o =
    let r = row_seen (table_of Release18 message.StopRequest) s n at xs q o in
    let x : Seen = seen (values_in (table_of Release18 message.StopRequest) s (elements.read_of (table_of Release18 message.StopRequest) (front (table_of Release18 message.StopRequest) 0 (heads_at s n at)))) in
    stop_complete x.mme x.mce (r 0 (omega arith) refl refl) (r 1 (omega arith) refl refl)
complete message.Reset s n at xs a q o =
    let x : Seen = seen (values_in (table_of Release18 message.Reset) s (elements.read_of (table_of Release18 message.Reset) (front (table_of Release18 message.Reset) 0 (heads_at s n at)))) in
    reset_complete x.reset (row_seen (table_of Release18 message.Reset) s n at xs q o 1 (omega arith) refl refl)
complete message.ErrorIndication s n at xs a q o = refl
complete message.StartResponse s n at xs a q o = not_asked a
complete message.StartFailure s n at xs a q o = not_asked a
complete message.StopResponse s n at xs a q o = not_asked a
complete message.ResetAcknowledge s n at xs a q o = not_asked a
complete message.SetupRequest s n at xs a q o = not_asked a
complete message.SetupResponse s n at xs a q o = refl
complete message.SetupFailure s n at xs a q o = refl
complete message.StopWarningRequest s n at xs a q o = not_asked a
complete message.StopWarningResponse s n at xs a q o = not_asked a
complete message.WarningErrorIndication s n at xs a q o = not_asked a

complete_18 : (s : List ℕ) (u : Understood) → read_of Release18 asks s ≡ understood u → u.outcome ≡ outcome.Accepted
    → IsSome (request_of (ask_of u.what.message) (seen u.what.values))
unfolding elements.judged_of
complete_18 s u q =
    let w = opened Release18 asks s u q in
    let m : Message = u.what.message in
    let t : List Row = table_of Release18 m in
    let j = judging t (container_of Release18 m) s u.frame.from w.read in
    subst (λ (x : Understood). x.outcome ≡ outcome.Accepted → IsSome (request_of (ask_of x.what.message) (seen x.what.values))) w.is
    (subst (λ (y : Opening). y.outcome ≡ outcome.Accepted → IsSome (request_of (ask_of m) (seen (values_in t s y.spans)))) j.is
    (λ o. complete m s j.opens.elements (u.frame.from + 3) j.extensions (only_passed Release18 asks s u q) j.scan o))

pub accepted_complete : (e : Edition) (s : List ℕ) (u : Understood) → read_of e asks s ≡ understood u → u.outcome ≡ outcome.Accepted
    → IsSome (request_of (ask_of u.what.message) (seen u.what.values))
accepted_complete e s u q =
    subst (λ (x : Edition). read_of x asks s ≡ understood u → u.outcome ≡ outcome.Accepted → IsSome (request_of (ask_of u.what.message) (seen u.what.values)))
    (only_m3ap e (understood_m3ap e s u q)) (complete_18 s u) q
