-- The name on the plate: what was sent is read back, so names that differ have requests that differ; and what is shown of a request is its name.
-- Assumes nothing.
use Rattle.std.specs.Prelude.{None, Option, Some}
use Prim.Native.Nat.{ℕ, min}
use mathlib.Core.Path.{◌≡◌, refl, sym, ap, subst, ◌∙◌}
use mathlib.Core.Bool.{Bool, true, false, not, true≢false}
use mathlib.Core.List.{List, [], ◌∷◌, map}
use native.Mathlib.Omega.{arith}
use borrow.Author.Tests.{le-ltb, leb-true, leb-false, not-false}
use lib.Dec.{leb}
use lib.ListN.{length, take}
use lib.Seq.{slice, take_all}
use Rattle.lists.specs.Lists.{pick, some}
use Rattle.lists.proofs.Tests.{or_left}
use Rattle.octets.specs.declared.Span.{Span}
use Rattle.editions.specs.declared.Edition.{Edition}
use Rattle.editions.specs.declared.Message.{Message}
use Rattle.editions.specs.Editions.{table_of, container_of}
use Rattle.names.specs.Names.{name_allowed}
use Rattle.meaning.specs.Value as value
use Rattle.meaning.specs.Value.{Given, given, absent, Said, octets_in, on_carried, on_given, said_by}
use Rattle.verdicts.specs.declared.Refusal.TheVariants.{NotAmong}
use Rattle.verdicts.specs.Verdict.{Understood, refused, understood, verdict_of, of_those, framed, every, read_of, opened_at}
use Rattle.layout.specs.Record.{LentRecord, is_record, no_record, read_record, bad_name, name_refused_by, name_refused}
use Rattle.units.specs.Unit.{MaybeUnit}
use Rattle.round_trips.proofs.Accepted.{opened}
use Rattle.setup.specs.Setup.{Setup, setup_on, setup}
use Rattle.shown.specs.Shown.{setup_requests, found_among, found_in, name_in, part_by, shown_part, part_octets, shown_of}
use Rattle.plate.specs.Name.{Name, called, nameless, name_among}
use Rattle.plate.specs.Plate.{name_handed, name_on, name_found, name_read, Sent, Plate}
use Rattle.plate.proofs.Sent.{Written, sent_written}

-- ---- a name among values, and whether it is refused

same_called : {os ps : List ℕ} → called os ≡ called ps → os ≡ ps
same_called q = cc

not_called : {os : List ℕ} {A : Type 0} → nameless ≡ called os → A
not_called q = absurd (let z : ◌≡◌ {A = ℕ} 0 1 = cc in omega arith)

-- a name that is there is refused exactly if it is not allowed
record Tested (bad : Bool) (os : List ℕ) : Type 0 where
  passed : bad ≡ false → name_allowed os ≡ true
  refused : name_allowed os ≡ false → bad ≡ true

tested : (vs : List (Given (List ℕ))) (os : List ℕ) → name_among vs ≡ called os → Tested (some bad_name vs) os
tested [] os q = not_called q
tested (absent ∷ vs) os q = tested vs os q
tested (given (value.name ps) ∷ vs) os q =
    let e = same_called q in
    record {
      passed = λ n. subst (λ (x : List ℕ). name_allowed x ≡ true) e (not-false (name_allowed ps) (or_left (not (name_allowed ps)) (some bad_name vs) n));
      refused = λ n. rw (ap name_allowed e ∙ n);
    }
tested (given (value.carried x) ∷ vs) os q = tested vs os q
tested (given (value.mme x) ∷ vs) os q = tested vs os q
tested (given (value.mce x) ∷ vs) os q = tested vs os q
tested (given (value.tmgi x) ∷ vs) os q = tested vs os q
tested (given (value.one x) ∷ vs) os q = tested vs os q
tested (given (value.two x) ∷ vs) os q = tested vs os q
tested (given (value.cause x) ∷ vs) os q = tested vs os q
tested (given (value.wait x) ∷ vs) os q = tested vs os q
tested (given (value.reset x) ∷ vs) os q = tested vs os q
tested (given (value.list x) ∷ vs) os q = tested vs os q
tested (given (value.diagnostics t x) ∷ vs) os q = tested vs os q

-- ---- the name that is found stands where its characters do

abbrev name_at : List ℕ → Option Span → Name
name_at s (Some v) = called (octets_in s v)
name_at s None = nameless

among_found : (s : List ℕ) (vs : List (Given Span)) → name_among (map (on_given (octets_in s)) vs) ≡ name_at s (found_among vs)
unfolding on_carried found_among
among_found s [] = refl
among_found s (absent ∷ vs) = among_found s vs
among_found s (given (value.name v) ∷ vs) = refl
among_found s (given (value.carried x) ∷ vs) = among_found s vs
among_found s (given (value.mme x) ∷ vs) = among_found s vs
among_found s (given (value.mce x) ∷ vs) = among_found s vs
among_found s (given (value.tmgi x) ∷ vs) = among_found s vs
among_found s (given (value.one x) ∷ vs) = among_found s vs
among_found s (given (value.two x) ∷ vs) = among_found s vs
among_found s (given (value.cause x) ∷ vs) = among_found s vs
among_found s (given (value.wait x) ∷ vs) = among_found s vs
among_found s (given (value.reset x) ∷ vs) = among_found s vs
among_found s (given (value.list x) ∷ vs) = among_found s vs
among_found s (given (value.diagnostics t x) ∷ vs) = among_found s vs

-- what is shown, by what is found
some_octets : (os : List ℕ) → name_allowed os ≡ true → ([] ≡ os → ⊥)
unfolding name_allowed
some_octets os a q = true≢false (sym (ap name_allowed q ∙ a))

in_octets : (s : List ℕ) (v : Span) (os : List ℕ) → ([] ≡ os → ⊥) → octets_in s v ≡ os → slice v.from v.to s ≡ os
in_octets s v os n = by (leb v.to (length s))
  where
    by : (b : Bool) → pick b (slice v.from v.to s) [] ≡ os → slice v.from v.to s ≡ os
    by true q = q
    by false q = absurd (n q)

shown_name : (s l os : List ℕ) (x : Option Span) → name_allowed os ≡ true → name_at s x ≡ called os → part_octets s l (part_by l x) ≡ os
shown_name s l os (Some v) a q = in_octets s v os (some_octets os a) (same_called q)
shown_name s l os None a q = not_called q

shown_label : (s l : List ℕ) (x : Option Span) → name_at s x ≡ nameless → part_octets s l (part_by l x) ≡ take 150 l
shown_label s l (Some v) q = not_called (sym q)
shown_label s l None q = by (leb 150 (length l)) refl
  where
    by : (b : Bool) → leb 150 (length l) ≡ b → take (min 150 (length l)) l ≡ take 150 l
    by true h = let z = leb-true 150 (length l) h in let m : min 150 (length l) ≡ 150 = omega (arith, z) in ap (λ (n : ℕ). take n l) m
    by false h = let z = leb-false 150 (length l) h in let m : min 150 (length l) ≡ length l = omega (arith, z) in ap (λ (n : ℕ). take n l) m ∙ (take_all (length l) l (omega arith) ∙ sym (take_all 150 l (omega (arith, z))))

-- ---- what every message is read as is what it is read as among those that pass

among_those : (e : Edition) (p : Message → Bool) (s : List ℕ) (u : Understood) → read_of e every s ≡ understood u → p u.what.message ≡ true → read_of e p s ≡ understood u
unfolding read_of
among_those e p s u q h =
    let o = opened e every s u q in
    let m : Message = u.what.message in
    rw (le-ltb 8192 (length s) o.size)
    (ap (framed e p s) (sym o.framed)
    ∙ (ap (of_those e p s u.frame) (sym o.named)
    ∙ (ap (λ (b : Bool). pick b (verdict_of (table_of e m) m u.frame s (opened_at (table_of e m) (container_of e m) s u.frame.from)) (refused NotAmong)) h
    ∙ (ap (verdict_of (table_of e m) m u.frame s) (sym o.read) ∙ ap understood o.is))))

-- ---- the plate

module _ (e : Edition) (t : List ℕ) (c : Setup) (q : List ℕ) (s : Sent e t c q) where
  w : Written e c q
  w = sent_written e t c q s

  -- what the record says, and what is read of the request
  abbrev handed : List (Given (List ℕ))
  handed = (said_by c.values w.lent.what).values

  handed_is : name_handed e c ≡ name_among handed
  handed_is = ap (name_on e c.values) w.lent.read

  back : name_read e q ≡ name_handed e c
  back = ap (name_found e q) w.back.read ∙ (ap (λ (x : Said). name_among x.values) w.back.said ∙ sym handed_is)

  not_refused : some bad_name handed ≡ false
  unfolding name_refused
  not_refused = sym (ap (λ (x : LentRecord). name_refused_by c.values x) w.lent.read) ∙ w.named

  allowed : (os : List ℕ) → name_handed e c ≡ called os → name_allowed os ≡ true
  allowed os h = (tested handed os (sym handed_is ∙ h)).passed not_refused

  -- the request is accepted as an M3 SETUP REQUEST
  is_request_lem : setup_requests w.back.what.what.message ≡ true
  unfolding said_by
  is_request_lem = ap setup_requests (ap (λ (x : Said). x.message) w.back.said ∙ w.message)

  found_is : name_in e q ≡ found_among w.back.what.what.values
  unfolding name_in
  found_is = ap found_in (among_those e setup_requests q w.back.what w.back.read is_request_lem) ∙ rw w.back.accepted

  name_is : name_at q (name_in e q) ≡ name_handed e c
  unfolding said_by
  name_is = ap (name_at q) found_is ∙ (sym (among_found q w.back.what.what.values) ∙ (ap (λ (x : Said). name_among x.values) w.back.said ∙ sym handed_is))

  shows : (os label : List ℕ) → name_handed e c ≡ called os → shown_of e q label ≡ os
  unfolding shown_of shown_part
  shows os label h = shown_name q label os (name_in e q) (allowed os h) (name_is ∙ h)

  labelled : (label : List ℕ) → name_handed e c ≡ nameless → shown_of e q label ≡ take 150 label
  unfolding shown_of shown_part
  labelled label h = shown_label q label (name_in e q) (name_is ∙ h)

-- a name that is not allowed is refused
name_refused_lem : (e : Edition) (c : Setup) (os : List ℕ) → name_handed e c ≡ called os → name_allowed os ≡ false → name_refused e c.said c.values ≡ true
unfolding name_refused
name_refused_lem e c os h n = by (read_record e c.said) h
  where
    by : (x : LentRecord) → name_on e c.values x ≡ called os → name_refused_by c.values x ≡ true
    by (is_record r) h = (tested (said_by c.values r).values os h).refused n
    by no_record h = not_called h

pub plate : (e : Edition) → Plate e
unfolding setup
plate e = record {
  different = λ t z c d q r s p n k. n (sym (back e t c q s) ∙ (ap (name_read e) k ∙ back e z d r p));
  back = back e;
  allowed = λ t c q os s h. allowed e t c q s os h;
  refused = λ t c u os i h n. ap (λ (x : MaybeUnit). (setup_on e t c x).answer) i ∙ rw (name_refused_lem e c os h n);
  shows = λ t c q os label s h. shows e t c q s os label h;
  label = λ t c q l s h. labelled e t c q s l h;
}
